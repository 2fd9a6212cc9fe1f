-- The site of a router after an edit, by what the edit changes of it.
use Rattle.std.proofs.Common.{◌≡◌, Bool, true, false, ◌==◌, Some, None, option_map, is_some, if◌then◌else◌, refl, sym, ap, ◌∙◌}
use Rattle.net_prefix.specs.declared.addr.Addr.{Addr}
use Rattle.net_conf.specs.declared.edit.Edit.{Edit}
use Rattle.net_conf.specs.declared.edit.Edit.TheVariants.{Router, Virtual, Link, Metric, Fail, Mend, Join, Stop, Start, Client, OwnNext, Cluster, MedAlways, Rule, Clear, Origin, NoOrigin}
use Rattle.net_conf.specs.declared.edit.SiteEffect.{SiteEffect}
use Rattle.net_conf.specs.declared.edit.SiteEffect.TheVariants.{Costs, Origins, Session, NewSession, ClusterId, MedComparison, Other}
use Rattle.net_conf.specs.declared.site.SiteConf.{SiteConf}
use Rattle.net_conf.specs.Configuration.{Configuration, ends_of}
use Rattle.net_conf.specs.Configured.{IsConfigured}
use Rattle.net_conf.specs.Edits.{edited, refusal_of}
use Rattle.net_conf.specs.Kept.{IsResettled, IsExtended, relinked, reoriginated, resettled, extended, reclustered, recompared, sets_client, link_in, effect_at, effect_on, site_from}
use Rattle.net_conf.specs.RouterSites.{router_site}
use Rattle.net_conf.proofs.KeptTrees.{ends_turned, same_address}
use Rattle.net_conf.proofs.KeepsSites.{relinked_after, site_after_link}
use Rattle.net_conf.proofs.Originated.{site_with_origin, site_without_origin}
use Rattle.net_conf.proofs.SiteJoins.{extended_after}
use Rattle.net_conf.proofs.SiteSettings.{by_client, by_own_next, stopped_after, started_after, ruled_after, cleared_after, reclustered_after, recompared_after}

-- what holds of the effect where the router is the one at the address, and of no other effect, holds of what there is
at_one : (P : SiteEffect → Type 0) (r a : Addr) (x : SiteEffect) → (r ≡ a → P x) → P Other → P (effect_at r a x)
at_one P r a x there other = by (r.0 == a.0) refl
  where
    by : (t : Bool) → (r.0 == a.0) ≡ t → P (if t then x else Other)
    by true is = there (same_address r a is)
    by false is = other

-- the same of either of two addresses
at_either : (P : SiteEffect → Type 0) (r a b : Addr) (x y : SiteEffect) → (r ≡ a → P x) → (r ≡ b → P y) → P Other →
    P (if r.0 == a.0 then x else effect_at r b y)
at_either P r a b x y first second other = by (r.0 == a.0) refl
  where
    by : (t : Bool) → (r.0 == a.0) ≡ t → P (if t then x else effect_at r b y)
    by true is = first (same_address r a is)
    by false is = at_one P r b y second other

-- the ends are those of the router and the other of the two
first_end : (r a b : Addr) → r ≡ a → ends_of a b ≡ ends_of r b
first_end r a b is = ap (λ x. ends_of x b) (sym is)

second_end : (r a b : Addr) → r ≡ b → ends_of a b ≡ ends_of r a
second_end r a b is = ends_turned a b ∙ ap (λ x. ends_of x a) (sym is)

module _ (c : Configuration) (before : IsConfigured c) (r : Addr) (s : SiteConf) (was : router_site c r ≡ Some s) where
  -- after the edit the site is what this effect makes of it
  abbrev HasEffect : Edit → SiteEffect → Type 0
  HasEffect e x = router_site (edited c e) r ≡ site_from (edited c e) e r x s

  by_link : (e : Edit) → refusal_of c e ≡ None → is_some (link_in e) ≡ true → HasEffect e Costs
  by_link e none link = site_after_link c (edited c e) r (relinked_after c e none link)
      ∙ ap (option_map (relinked (edited c e) r)) was

  by_session : (e : Edit) (u : Addr) → IsResettled c (edited c e) r u (sets_client e) → HasEffect e (Session u)
  by_session e u is = is.site ∙ ap (option_map (resettled (edited c e) r u (sets_client e))) was

  by_new_session : (e : Edit) (u : Addr) → IsExtended c (edited c e) r u → HasEffect e (NewSession u)
  by_new_session e u is = is ∙ ap (option_map (extended (edited c e) r u)) was

  by_cluster : (a id : Addr) → HasEffect (Cluster a id) ClusterId
  by_cluster a id = (reclustered_after c a id r).site ∙ ap (option_map (reclustered (edited c (Cluster a id)) r)) was

  by_comparison : (a : Addr) (on : Bool) → HasEffect (MedAlways a on) MedComparison
  by_comparison a on = (recompared_after c a on r).site ∙ ap (option_map (recompared (edited c (MedAlways a on)) r)) was

  -- the site after an edit that is not refused
  pub site_after : (e : Edit) → IsConfigured (edited c e) → refusal_of c e ≡ None → HasEffect e (effect_on e r)
  site_after (Router a n) after none = refl
  site_after (Virtual a n) after none = refl
  site_after (Link a b m) after none = by_link (Link a b m) none refl
  site_after (Metric a b m) after none = by_link (Metric a b m) none refl
  site_after (Fail a b) after none = by_link (Fail a b) none refl
  site_after (Mend a b) after none = by_link (Mend a b) none refl
  site_after (Join a b) after none =
      at_either (HasEffect (Join a b)) r a b (NewSession b) (NewSession a)
      (λ is. by_new_session (Join a b) b (extended_after c a b r b before after none (first_end r a b is)))
      (λ is. by_new_session (Join a b) a (extended_after c a b r a before after none (second_end r a b is)))
      refl
  site_after (Stop a b) after none =
      at_either (HasEffect (Stop a b)) r a b (Session b) (Session a)
      (λ is. by_session (Stop a b) b (stopped_after c a b r b before.ordered.sessions none (first_end r a b is)))
      (λ is. by_session (Stop a b) a (stopped_after c a b r a before.ordered.sessions none (second_end r a b is)))
      refl
  site_after (Start a b) after none =
      at_either (HasEffect (Start a b)) r a b (Session b) (Session a)
      (λ is. by_session (Start a b) b (started_after c a b r b before.ordered.sessions none (first_end r a b is)))
      (λ is. by_session (Start a b) a (started_after c a b r a before.ordered.sessions none (second_end r a b is)))
      refl
  site_after (Client a b on) after none = at_one (HasEffect (Client a b on)) r a (Session b)
      (λ is. by_session (Client a b on) b (by_client c a b r on)) refl
  site_after (OwnNext a b on) after none = at_one (HasEffect (OwnNext a b on)) r a (Session b)
      (λ is. by_session (OwnNext a b on) b (by_own_next c a b r on)) refl
  site_after (Cluster a id) after none = at_one (HasEffect (Cluster a id)) r a ClusterId (λ is. by_cluster a id) refl
  site_after (MedAlways a on) after none = at_one (HasEffect (MedAlways a on)) r a MedComparison
      (λ is. by_comparison a on) refl
  site_after (Rule a b side rule) after none = at_one (HasEffect (Rule a b side rule)) r a (Session b)
      (λ is. by_session (Rule a b side rule) b (ruled_after c a b r side rule)) refl
  site_after (Clear a b side) after none = at_one (HasEffect (Clear a b side)) r a (Session b)
      (λ is. by_session (Clear a b side) b (cleared_after c a b r side)) refl
  site_after (Origin a p) after none =
      at_one (HasEffect (Origin a p)) r a Origins
      (λ is. site_with_origin c r before.ordered.origins a p is ∙ ap (option_map (reoriginated (Origin a p))) was)
      refl
  site_after (NoOrigin a p) after none =
      at_one (HasEffect (NoOrigin a p)) r a Origins
      (λ is. site_without_origin c r before.ordered.origins a p is ∙ ap (option_map (reoriginated (NoOrigin a p))) was)
      refl
