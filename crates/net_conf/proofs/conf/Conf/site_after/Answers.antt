use Rattle.std.proofs.Common.{◌≡◌, ◌∙◌, true, Some, option_copied, sym, ap, subst}
use Rattle.net_conf.specs.Configuration.{ends_session}
use Rattle.net_conf.specs.Configured.{IsConfigured}
use Rattle.net_conf.specs.Edits.{edited}
use Rattle.net_conf.specs.Kept.{effect_on, site_from}
use Rattle.net_conf.specs.RouterSites.{router_site}
use Rattle.net_conf.proofs.KeepsSites.{kept_then, kept_there, sessions_stay_in}
use Rattle.net_conf.proofs.SiteEffects.{site_after}
use Rattle.net_conf.proofs.conf.Conf.site_after.Goals as goal

pub site_from-requires-clause-stay : goal.site_from-requires-clause-stay
site_from-requires-clause-stay c out =
    let s = c.args.self.now in
    let r = c.args.router in
    let old = c.in-Some.old.now in
    sessions_stay_in s c.args.after.now r (λ u. c.requires.sessions r u out) old
    (kept_then s r old (sym c.kept_site.ensures ∙ ap (λ o. option_copied o) c.in-Some.is))

pub returns-in_ok-site-in-Some : goal.returns-in_ok-site-in-Some
returns-in_ok-site-in-Some c =
    let s = c.args.self.now in
    let e = c.args.edit.now in
    let d = c.args.after.now in
    let r = c.args.router in
    let old = c.in-Some.old.now in
    let was : router_site s r ≡ Some old = kept_then s r old (sym c.kept_site.ensures
    ∙ ap (λ o. option_copied o) c.in-Some.is) in
    let after : IsConfigured (edited s e) = subst IsConfigured c.requires.made c.facts-2.ensures.configured in
    let is : router_site d r ≡ site_from d e r (effect_on e r) old =
    subst (λ x. router_site x r ≡ site_from x e r (effect_on e r) old) (sym c.requires.made)
    (site_after s c.facts.ensures.configured r old was e after c.requires.passes) in
    let ends : ends_session d r ≡ true = sym c.ends_session.ensures ∙ c.if-not-ends_session.false in
    c.in_ok-site-in-Some.ensures ∙ sym is ∙ sym (kept_there d r ends)
