-- What a site says of its router, and where the sites of all routers are found.
use Rattle.std.proofs.Common.{◌≡◌, Bool, true, false, ◌==◌, ◌&&◌, List, [], ◌∷◌, map, find, Option, Some, None, option_map, is_some, if◌then◌else◌, refl, sym, ap, ◌∙◌, subst}
use Rattle.std.specs.Cmp.{both_tied, unsigned_ties}
use Rattle.std.specs.Option.{option_map_or}
use Rattle.std.specs.BTreeMap.{is_at}
use Rattle.std.specs.List.{list_any}
use Rattle.std.specs.List.Sorted.{IsStrictlySortedBy}
use Rattle.std.proofs.lemmas.Cmp.{nat_eq_equiv}
use Rattle.std.proofs.lemmas.Option.{none-some, same_Some}
use Rattle.net_prefix.specs.declared.addr.Addr.{Addr}
use Rattle.net_prefix.specs.Address.{same_addr, addr_cmp}
use Rattle.net_prefix.specs.Prefix.{Prefix, same_prefix}
use Rattle.net_prefix.specs.Orders.{addr_exact}
use Rattle.net_conf.specs.declared.tables.Node.{Node}
use Rattle.net_conf.specs.declared.tables.Origination.{Origination}
use Rattle.net_conf.specs.declared.site.SiteConf.{SiteConf}
use Rattle.net_conf.specs.declared.site.SiteSession.{SiteSession}
use Rattle.net_conf.specs.Configuration.{Configuration, node_at, is_virtual, session_between, originates, origins_of, origination_cmp}
use Rattle.net_conf.specs.Costs.{session_up, is_up}
use Rattle.net_conf.specs.Sites.{session_of, sessions_of, peers_of, site_at, site_of, session_with}
use Rattle.net_conf.specs.RouterSites.{router_site}
use Rattle.net_conf.specs.Configured.{IsConfigured}
use Rattle.net_conf.specs.Laws.{session_if_any}
use Rattle.net_conf.proofs.KeptTrees.{equal_when}
use Rattle.net_conf.proofs.Picked.{any_made}
use Rattle.net_conf.proofs.Peers.{peers_in_order, peer_of_session}

-- ORIGINS

origin_found : (r : Addr) (p : Prefix) (o : Origination) → (o.router.0 == r.0 && same_prefix p o.prefix)
    ≡ is_at (origination_cmp (record { router = r; prefix = p })) o
origin_found r p o =
    ap (λ b. b && same_prefix p o.prefix) (nat_eq_equiv.symm o.router.0 r.0)
    ∙ both_tied _ _ _ _ (unsigned_ties r.0 o.router.0) (both_tied _ _ _ _ (unsigned_ties p.addr.0 o.prefix.addr.0)
    (unsigned_ties p.len o.prefix.len))

pub origin_listed : (c : Configuration) (r : Addr) (p : Prefix) →
    list_any (same_prefix p) (origins_of c r) ≡ originates c r p
origin_listed c r p = any_made (λ o. o.router.0 == r.0) (λ o. o.prefix) (same_prefix p)
    (is_at (origination_cmp (record { router = r; prefix = p }))) (origin_found r p) c.origins

-- ONE SITE

module _ (c : Configuration) (r : Addr) where
  at_node : (n : Option Node) (site : SiteConf) → option_map (site_at c r) n ≡ Some site → (site.me ≡ r)
      × (site.sessions ≡ sessions_of c r)
  at_node None site is = absurd (none-some site is)
  at_node (Some n) site is =
      let same : site_at c r n ≡ site = same_Some _ _ is in
      (sym (ap (λ (s : SiteConf). s.me) same), sym (ap (λ (s : SiteConf). s.sessions) same))

  of_node : (site : SiteConf) → site_of c r ≡ Some site → (site.me ≡ r) × (site.sessions ≡ sessions_of c r)
  unfolding site_of
  of_node site is = at_node (node_at c r) site is

  pub me_of_site : (site : SiteConf) → site_of c r ≡ Some site → site.me ≡ r
  me_of_site site is = (of_node site is).0

  pub sessions_of_site : (site : SiteConf) → site_of c r ≡ Some site → site.sessions ≡ sessions_of c r
  sessions_of_site site is = (of_node site is).1

  -- each session is with its peer
  peers_back : (us : List Addr) → map (λ (x : SiteSession). x.peer) (map (session_of c r) us) ≡ us
  peers_back [] = refl
  peers_back (u ∷ us) = ap (λ more. u ∷ more) (peers_back us)

  pub peers_of_site : (site : SiteConf) → site_of c r ≡ Some site → map (λ x. x.peer) site.sessions ≡ peers_of c r
  peers_of_site site is = ap (map (λ (x : SiteSession). x.peer)) (sessions_of_site site is) ∙ peers_back (peers_of c r)

  pub site_sessions_in_order : (site : SiteConf) → IsConfigured c → site_of c r ≡ Some site →
      IsStrictlySortedBy addr_cmp (map (λ x. x.peer) site.sessions)
  site_sessions_in_order site holds is = subst (IsStrictlySortedBy addr_cmp) (sym (peers_of_site site is))
      (peers_in_order c r holds)

  pub site_of_router : (site : SiteConf) → router_site c r ≡ Some site → site_of c r ≡ Some site
  site_of_router site is = by (is_virtual c r) is
    where
      by : (virtual : Bool) → (if virtual then None else site_of c r) ≡ Some site → site_of c r ≡ Some site
      by true is = absurd (none-some site is)
      by false is = is

module _ (c : Configuration) (r t : Addr) where
  abbrev found : List SiteSession → Option SiteSession
  found xs = find (λ x. x.peer.0 == t.0) xs

  abbrev if_any : Bool → Option SiteSession
  if_any b = if b then Some (session_of c r t) else None

  found_among : (us : List Addr) → found (map (session_of c r) us) ≡ if_any (list_any (same_addr t) us)
  found_among [] = refl
  found_among (u ∷ us) = by (u.0 == t.0) refl (found_among us)
    where
      by : (b : Bool) → (u.0 == t.0) ≡ b → found (map (session_of c r) us) ≡ if_any (list_any (same_addr t) us) →
          found (map (session_of c r) (u ∷ us)) ≡ if_any (list_any (same_addr t) (u ∷ us))
      by true is rest =
          let same : u ≡ t = addr_exact u t (equal_when (addr_cmp u t) (sym (unsigned_ties u.0 t.0) ∙ is)) in
          rw is (rw (nat_eq_equiv.symm t.0 u.0 ∙ is) (ap (λ v. Some (session_of c r v)) same))
      by false is rest = rw is (rw (nat_eq_equiv.symm t.0 u.0 ∙ is) rest)

  pub session_of_site : (site : SiteConf) → IsConfigured c → site_of c r ≡ Some site →
      session_with site t ≡ session_if_any c r t
  session_of_site site holds is =
      ap found (sessions_of_site c r site is) ∙ found_among (peers_of c r) ∙ ap if_any (peer_of_session c r holds t)

  up_if_any : option_map_or (λ x. x.up) (session_if_any c r t) false ≡ is_up c r t
  unfolding session_up
  up_if_any = by (session_between c r t) refl
    where
      by : (s : Option Bool) → session_between c r t ≡ s →
          option_map_or (λ x. x.up) (if_any (is_some s)) false ≡ is_up c r t
      by None is = rw is refl
      by (Some enabled) is = refl

  pub up_by_site : (site : SiteConf) → IsConfigured c → site_of c r ≡ Some site →
      option_map_or (λ x. x.up) (session_with site t) false ≡ is_up c r t
  up_by_site site holds is = ap (λ x. option_map_or (λ (y : SiteSession). y.up) x false) (session_of_site site holds is)
      ∙ up_if_any
