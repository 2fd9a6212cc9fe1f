-- How many sessions a router has, by its site.
use Rattle.std.proofs.Common.{◌≡◌, Bool, true, false, cond, List, [], ◌∷◌, length, filter, Option, Some, None, option_map, if◌then◌else◌, refl, sym, ap, ◌∙◌}
use Rattle.std.specs.List.{list_any}
use Rattle.std.proofs.lemmas.List.{length-map}
use Rattle.std.proofs.lemmas.Option.{none-some, same_Some}
use Rattle.net_prefix.specs.declared.addr.Addr.{Addr}
use Rattle.net_conf.specs.declared.site.SiteConf.{SiteConf}
use Rattle.net_conf.specs.declared.tables.Node.{Node}
use Rattle.net_conf.specs.Configuration.{Configuration, node_at, is_end, is_virtual, ends_session, session_count}
use Rattle.net_conf.specs.RouterSites.{site_kept}
use Rattle.net_conf.specs.Sites.{peer_in, peers_of, session_of, sessions_of, site_at, site_of}
use Rattle.net_conf.proofs.Carry.{both_false}

counted : (c : Configuration) (r : Addr) → length (sessions_of c r) ≡ session_count c r
counted c r = length-map (peers_of c r) (session_of c r)
    ∙ length-map (filter (λ e. is_end r e.0) c.sessions) (λ e. peer_in r e.0)

pub count_of_site : (c : Configuration) (r : Addr) (s : SiteConf) → site_kept c r ≡ Some s →
    length s.sessions ≡ session_count c r
unfolding site_of
count_of_site c r s is = by (ends_session c r) (is_virtual c r) (node_at c r) is
  where
    by : (t u : Bool) (o : Option Node) → (if t then (if u then None else option_map (λ n. site_at c r n) o) else None)
        ≡ Some s → length s.sessions ≡ session_count c r
    by true false (Some n) it = ap (λ (x : SiteConf). length x.sessions) (sym (same_Some _ _ it)) ∙ counted c r
    by true false None it = absurd (none-some s it)
    by true true o it = absurd (none-some s it)
    by false u o it = absurd (none-some s it)

none_pass : {X : Type 0} (p : X → Bool) (xs : List X) → list_any p xs ≡ false → length (filter p xs) ≡ 0
none_pass p [] none = refl
none_pass p (x ∷ xs) none =
    let both = both_false (p x) (list_any p xs) none in
    ap (λ t. length (cond t (x ∷ filter p xs) (filter p xs))) both.0 ∙ none_pass p xs both.1

pub count_of_none : (c : Configuration) (r : Addr) → ends_session c r ≡ false → session_count c r ≡ 0
count_of_none c r none = none_pass (λ e. is_end r e.0) c.sessions none
