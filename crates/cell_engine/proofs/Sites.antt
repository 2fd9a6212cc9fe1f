-- A router's site tells of its sessions what the configuration tells: which are up, and so what is kept.
use Rattle.std.proofs.Common.{◌≡◌, ℕ, Bool, true, false, cond, not, ◌&&◌, ◌||◌, ◌==◌, nat_le, List, [], ◌∷◌, map, filter, find, Option, Some, None, option_map, is_some, unwrap_or, if◌then◌else◌, refl, sym, ap, subst, ◌∙◌, arith}
use Rattle.std.proofs.lemmas.Bool.{true≢false, leb-true, leb-false}
use Rattle.std.proofs.lemmas.Cmp.{nat_eq_equiv}
use Rattle.std.proofs.lemmas.Map.Lookups.{exact_pairs}
use Rattle.std.specs.declared.cmp.Ordering.TheVariants.{Less, Equal, Greater}
use Rattle.std.specs.Ordering.{is_eq}
use Rattle.std.specs.Cmp.{unsigned_Decides}
use Rattle.std.specs.Option.{option_map_or}
use Rattle.std.specs.List.{list_any}
use Rattle.std.specs.Map.{lookup}
use Rattle.std.specs.BTreeMap.{is_at}
use Rattle.net_prefix.specs.declared.addr.Addr.{Addr}
use Rattle.net_prefix.specs.Address.{addr_cmp}
use Rattle.net_prefix.specs.Prefix.{Prefix}
use Rattle.net_prefix.specs.Orders.{addr_exact}
use Rattle.path_attr.specs.declared.attr.Attr.{Attr}
use Rattle.path_attr.specs.Number.{same_number}
use Rattle.net_conf.specs.Configuration.{Configuration, node_at, as_of, is_virtual, is_end, session_between, ends_of, ends_cmp}
use Rattle.net_conf.specs.Costs.{cost, is_connected, session_up, is_up}
use Rattle.net_conf.specs.Sites.{peer_in, session_of, peers_of, sessions_of, site_at, site_of}
use Rattle.net_conf.specs.declared.tables.Ends.{Ends}
use Rattle.net_conf.specs.declared.tables.Node.{Node}
use Rattle.net_conf.specs.declared.site.SiteConf.{SiteConf}
use Rattle.cell_engine.specs.Cells.{Cell, decided, is_up_in, kept_routes, refreshed}
use Rattle.net_conf.specs.RouterSites.{router_site}
use Rattle.cell_engine.specs.Keeping.{kept_from, kept_cell}

-- BOTH ENDS SEE ONE SESSION

addr_from : (a b : Addr) → a.0 ≡ b.0 → a ≡ b
addr_from a b e = ap (λ n. record { 0 = n }) e

same_from : (a b : Addr) → (a.0 == b.0) ≡ true → a ≡ b
same_from a b h = addr_from a b ((unsigned_Decides a.0 b.0).0 h)

itself : (a : Addr) → (a.0 == a.0) ≡ true
itself a = (unsigned_Decides a.0 a.0).1 refl

ends_by : (b c : Bool) (x y : Addr) → nat_le x.0 y.0 ≡ b → nat_le y.0 x.0 ≡ c → ends_of x y ≡ ends_of y x
ends_by true true x y is is' =
    let low : x ≡ y = addr_from x y (omega (arith, leb-true x.0 y.0 is, leb-true y.0 x.0 is')) in
    subst (λ z. ends_of x z ≡ ends_of z x) low refl
ends_by true false x y is is' = rw is (rw is' refl)
ends_by false true x y is is' = rw is (rw is' refl)
ends_by false false x y is is' = absurd (omega (arith, leb-false x.0 y.0 is, leb-false y.0 x.0 is'))

-- the ends are the same in both orders
pub ends_either : (x y : Addr) → ends_of x y ≡ ends_of y x
ends_either x y = ends_by (nat_le x.0 y.0) (nat_le y.0 x.0) x y refl refl

number_either : (m n : Option ℕ) → same_number m n ≡ same_number n m
number_either None None = refl
number_either None (Some n) = refl
number_either (Some m) None = refl
number_either (Some m) (Some n) = nat_eq_equiv.symm m n

and_either : (a b : Bool) → (a && b) ≡ (b && a)
and_either true true = refl
and_either true false = refl
and_either false true = refl
and_either false false = refl

connected_either : (c : Configuration) (a b : Addr) → is_connected c a b ≡ is_connected c b a
connected_either c a b = λ i.
    cond (not (number_either (as_of c a) (as_of c b) i))
    (unwrap_or (option_map (λ l. l.up) (lookup (is_at (ends_cmp (ends_either a b i))) c.links)) false)
    (and_either (is_some (cost c a b)) (is_some (cost c b a)) i)

-- a session is up at both ends or at none
pub up_either : (c : Configuration) (a b : Addr) → is_up c a b ≡ is_up c b a
unfolding session_up
up_either c a b = λ i. unwrap_or (option_map (λ enabled. enabled && connected_either c a b i)
    (lookup (is_at (ends_cmp (ends_either a b i))) c.sessions)) false

-- THE PEERS OF A SITE

abbrev ends_in : Bool → Addr → Addr → Ends
ends_in b r u = if b then record { low = r; high = u } else record { low = u; high = r }

or_true : (b c : Bool) → c ≡ true → (b || c) ≡ true
or_true true c h = refl
or_true false c h = h

end_of_both : (b : Bool) (r u : Addr) → is_end r (ends_in b r u) ≡ true
end_of_both true r u = ap (λ x. x || u.0 == r.0) (itself r)
end_of_both false r u = or_true (u.0 == r.0) (r.0 == r.0) (itself r)

peer_of_both : (b : Bool) (r u : Addr) → peer_in r (ends_in b r u) ≡ u
peer_of_both true r u = ap (λ x. cond x u r) (itself r)
peer_of_both false r u = elim (u.0 == r.0) as (λ b. (u.0 == r.0) ≡ b →
    cond b r u ≡ u) [ true ↦ λ h. sym (same_from u r h) | false ↦ λ h. refl ] refl

ends_exact : (x y : Ends) → ends_cmp x y ≡ Equal → x ≡ y
ends_exact x y h =
    let ends : Addr × Addr → Ends = λ parts. record { low = parts.0; high = parts.1 } in
    ap ends (exact_pairs addr_cmp addr_cmp addr_exact addr_exact (x.low, x.high) (y.low, y.high) h)

-- who has a session with the router is a peer of its site
peer_there : (r u : Addr) (es : List (Ends × Bool)) → is_some (lookup (is_at (ends_cmp (ends_of r u))) es) ≡ true →
    list_any (λ v. v.0 == u.0) (map (λ e. peer_in r e.0) (filter (λ e. is_end r e.0) es)) ≡ true
peer_there r u [] h = absurd (true≢false (sym h))
peer_there r u (e ∷ es) h =
    let peers = map (λ (x : Ends × Bool). peer_in r x.0) (filter (λ x. is_end r x.0) es) in
    let later : list_any (λ v. v.0 == u.0) peers ≡ true →
    list_any (λ v. v.0 == u.0) (map (λ x. peer_in r x.0) (filter (λ x. is_end r x.0) (e ∷ es))) ≡ true =
    λ rest. elim (is_end r e.0) as (λ b.
    list_any (λ v. v.0 == u.0)
    (map (λ x. peer_in r x.0) (cond b (e ∷ filter (λ x. is_end r x.0) es) (filter (λ x. is_end r x.0) es)))
    ≡ true) [
      | true ↦ or_true ((peer_in r e.0).0 == u.0) (list_any (λ v. v.0 == u.0) peers) rest
      | false ↦ rest
    ] in
    elim (ends_cmp (ends_of r u) e.0) as (λ o. ends_cmp (ends_of r u) e.0 ≡ o →
    is_some (cond (is_eq o) (Some e.1) (lookup (is_at (ends_cmp (ends_of r u))) es)) ≡ true →
    list_any (λ v. v.0 == u.0) (map (λ x. peer_in r x.0) (filter (λ x. is_end r x.0) (e ∷ es))) ≡ true) [
      | Less ↦ λ q there. later (peer_there r u es there)
      | Equal ↦ λ q there.
          let ends : e.0 ≡ ends_of r u = sym (ends_exact (ends_of r u) e.0 q) in
          ap (λ b. list_any (λ v. v.0 == u.0)
          (map (λ x. peer_in r x.0) (cond b (e ∷ filter (λ x. is_end r x.0) es) (filter (λ x. is_end r x.0) es))))
          (ap (is_end r) ends ∙ end_of_both (nat_le r.0 u.0) r u)
          ∙ ap (λ b. b || list_any (λ v. v.0 == u.0) peers) (ap (λ (v : Addr). v.0 == u.0) (ap (peer_in r) ends
          ∙ peer_of_both (nat_le r.0 u.0) r u) ∙ itself u)
      | Greater ↦ λ q there. later (peer_there r u es there)
    ] refl h

-- UP

found_up : (c : Configuration) (r u : Addr) (us : List Addr) →
    option_map_or (λ x. x.up) (find (λ x. x.peer.0 == u.0) (map (session_of c r) us)) false
    ≡ (list_any (λ v. v.0 == u.0) us && is_up c r u)
found_up c r u [] = refl
found_up c r u (v ∷ us) =
    elim (v.0 == u.0) as (λ b. (v.0 == u.0) ≡ b →
    option_map_or (λ x. x.up)
    (cond b (Some (session_of c r v)) (find (λ x. x.peer.0 == u.0) (map (session_of c r) us))) false
    ≡ ((b || list_any (λ v. v.0 == u.0) us) && is_up c r u)) [
      | true ↦ λ q. ap (is_up c r) (same_from v u q)
      | false ↦ λ q. found_up c r u us
    ] refl

some_if : {A : Type 0} (f : A → Bool) (o : Option A) → unwrap_or (option_map f o) false ≡ true → is_some o ≡ true
some_if f None h = h
some_if f (Some x) h = refl

joined_if_up : (c : Configuration) (r u : Addr) → is_up c r u ≡ true → is_some (session_between c r u) ≡ true
unfolding session_up
joined_if_up c r u h = some_if (λ enabled. enabled && is_connected c r u) (session_between c r u) h

up_of_peer : (up : Bool) (c : Configuration) (r u : Addr) → is_up c r u ≡ up →
    (list_any (λ v. v.0 == u.0) (peers_of c r) && is_up c r u) ≡ is_up c r u
up_of_peer true c r u is = ap (λ b. b && is_up c r u) (peer_there r u c.sessions (joined_if_up c r u is))
up_of_peer false c r u is = ap (λ b. list_any (λ v. v.0 == u.0) (peers_of c r) && b) is
    ∙ and_either (list_any (λ v. v.0 == u.0) (peers_of c r)) false ∙ sym is

sessions_in : (c : Configuration) (r : Addr) (site : SiteConf) (n : Option Node) →
    option_map (site_at c r) n ≡ Some site → site.sessions ≡ sessions_of c r
sessions_in c r site None h = cc
sessions_in c r site (Some n) h = sym (ap (λ (o : Option SiteConf). (unwrap_or o site).sessions) h)

-- the sessions that are up in the site are those that are up in the configuration
pub up_in_site : (c : Configuration) (r : Addr) (site : SiteConf) → site_of c r ≡ Some site → (u : Addr) →
    is_up_in site u ≡ is_up c r u
unfolding site_of
up_in_site c r site at u =
    ap (λ xs. option_map_or (λ x. x.up) (find (λ x. x.peer.0 == u.0) xs) false) (sessions_in c r site (node_at c r) at)
    ∙ found_up c r u (peers_of c r)
    ∙ up_of_peer (is_up c r u) c r u refl

-- KEPT

-- what the router's site keeps of its routes is what the configuration keeps
pub kept_routes_is : (c : Configuration) (r : Addr) (site : SiteConf) → site_of c r ≡ Some site →
    (routes : List (Addr × Attr)) → kept_routes site routes ≡ kept_from c r routes
kept_routes_is c r site at routes = λ i. filter (λ e. (up_in_site c r site at e.0 ∙ up_either c r e.0) i) routes

site_if : (virtual : Bool) (o : Option SiteConf) (site : SiteConf) → cond virtual None o ≡ Some site → o ≡ Some site
site_if true o site h = cc
site_if false o site h = h

pub site_of_router : (c : Configuration) (r : Addr) (site : SiteConf) → router_site c r ≡ Some site →
    site_of c r ≡ Some site
site_of_router c r site h = site_if (is_virtual c r) (site_of c r) site h

-- a cell that the router decides again under its new site is the one that is kept
pub refreshed_is_kept : (c : Configuration) (r : Addr) (old new : SiteConf) (p : Prefix) (h : Cell) →
    router_site c r ≡ Some new → (refreshed old new p h).cell ≡ kept_cell c r p h
unfolding refreshed
refreshed_is_kept c r old new p h at =
    ap (decided (Some new) p) (kept_routes_is c r new (site_of_router c r new at) h.received)
    ∙ ap (λ site. decided site p (kept_from c r h.received)) (sym at)
