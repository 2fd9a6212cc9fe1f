-- The site of a router that has a session more.
use Rattle.std.proofs.Common.{◌≡◌, Bool, true, false, cond, ◌==◌, nat_lt, nat_le, List, [], ◌∷◌, ◌++◌, map, filter, None, is_some, if◌then◌else◌, refl, sym, ap, subst, ◌∙◌, arith}
use Rattle.std.specs.Cmp.{unsigned_Decides}
use Rattle.std.specs.declared.cmp.Ordering.TheVariants.{Less}
use Rattle.std.specs.List.{AllByRecursion}
use Rattle.std.specs.List.Sorted.{IsStrictlySortedBy}
use Rattle.std.specs.Map.{lookup}
use Rattle.std.specs.BTreeMap.{is_at, insert_entry}
use Rattle.std.proofs.lemmas.Bool.Decides.{nat_tests}
use Rattle.std.proofs.lemmas.List.{map-append}
use Rattle.std.proofs.lemmas.List.Elements.{filter-append}
use Rattle.net_prefix.specs.declared.addr.Addr.{Addr}
use Rattle.net_prefix.specs.Address.{addr_cmp}
use Rattle.net_conf.specs.declared.tables.Ends.{Ends}
use Rattle.net_conf.specs.declared.tables.Node.{Node}
use Rattle.net_conf.specs.declared.edit.Edit.{Edit}
use Rattle.net_conf.specs.declared.edit.Edit.TheVariants.{Join}
use Rattle.net_conf.specs.declared.site.SiteSession.{SiteSession}
use Rattle.net_conf.specs.Configuration.{Configuration, node_at, is_virtual, ends_of, ends_cmp, is_end, session_between}
use Rattle.net_conf.specs.Configured.{IsConfigured}
use Rattle.net_conf.specs.Sites.{peer_in, session_of, sessions_of, peers_of, site_at, site_of}
use Rattle.net_conf.specs.Edits.{edited, refusal_of, tests_of, repeats_session, with_session}
use Rattle.net_conf.specs.Kept.{IsExtended, extended, is_below, is_above}
use Rattle.net_conf.proofs.Inserted.{IsSplit, split}
use Rattle.net_conf.proofs.KeptTrees.{ends_exact, ends_total, first_of_two, same_address}
use Rattle.net_conf.proofs.OthersStay.{mapped}
use Rattle.net_conf.proofs.Peers.{peers_in_order}
use Rattle.net_conf.proofs.SiteSettings.{other_session}
use Rattle.net_conf.proofs.Soundness.{all_fail}
use Rattle.net_conf.proofs.TreesAfter.{none_there}

-- A PEER AMONG OTHERS

abbrev below : Addr → Addr → Bool
below u v = nat_lt v.0 u.0

abbrev above : Addr → Addr → Bool
above u v = nat_lt u.0 v.0

less_is : (v u : Addr) → addr_cmp v u ≡ Less → (nat_lt v.0 u.0 ≡ true) × (nat_lt u.0 v.0 ≡ false)
less_is v u less = (grind (arith, nat_tests), grind (arith, nat_tests))

all_above : (u : Addr) (vs : List Addr) → AllByRecursion (λ v. addr_cmp u v ≡ Less) vs → (filter (below u) vs ≡ [])
    × (filter (above u) vs ≡ vs)
all_above u [] all = (refl, refl)
all_above u (v ∷ vs) all =
    let is = less_is u v all.0 in
    let rest = all_above u vs all.1 in (
      ap (λ t. cond t (v ∷ filter (below u) vs) (filter (below u) vs)) is.1 ∙ rest.0,
      ap (λ t. cond t (v ∷ filter (above u) vs) (filter (above u) vs)) is.0 ∙ ap (λ xs. v ∷ xs) rest.1,
    )

among_all : (Q : Addr → Type 0) (u : Addr) (front back : List Addr) → AllByRecursion Q (front ++ u ∷ back) → Q u
among_all Q u [] back all = all.0
among_all Q u (v ∷ front) back all = among_all Q u front back all.1

-- of peers in order those before one are those below it, and those behind it those above
parted : (u : Addr) (front back : List Addr) → IsStrictlySortedBy addr_cmp (front ++ u ∷ back) →
    (filter (below u) (front ++ back) ≡ front) × (filter (above u) (front ++ back) ≡ back)
unfolding IsStrictlySortedBy
parted u [] back sorted = all_above u back sorted.0
parted u (v ∷ front) back sorted =
    let is = less_is v u (among_all (λ x. addr_cmp v x ≡ Less) u front back sorted.0) in
    let rest = parted u front back sorted.1 in (
      ap (λ t. cond t (v ∷ filter (below u) (front ++ back)) (filter (below u) (front ++ back))) is.0
          ∙ ap (λ xs. v ∷ xs) rest.0,
      ap (λ t. cond t (v ∷ filter (above u) (front ++ back)) (filter (above u) (front ++ back))) is.1 ∙ rest.1,
    )

-- THE PEERS

itself : (u : Addr) → (u.0 == u.0) ≡ true
itself u = (unsigned_Decides u.0 u.0).1 refl

second_in : (r u : Addr) → peer_in r (ends_of r u) ≡ u
second_in r u = by (nat_le r.0 u.0)
  where
    low : (t : Bool) → (u.0 == r.0) ≡ t → (if t then r else u) ≡ u
    low true is = sym (same_address u r is)
    low false is = refl

    by : (le : Bool) → peer_in r (if le then record { low = r; high = u } else record { low = u; high = r }) ≡ u
    by true = ap (λ t. if t then u else r) (itself r)
    by false = low (u.0 == r.0) refl

module _ (r : Addr) where
  abbrev peers : List (Ends × Bool) → List Addr
  peers es = map (λ e. peer_in r e.0) (filter (λ e. is_end r e.0) es)

  peers_both : (es fs : List (Ends × Bool)) → peers (es ++ fs) ≡ peers es ++ peers fs
  peers_both es fs = ap (map (λ e. peer_in r e.0)) (filter-append (λ e. is_end r e.0) es fs)
      ∙ map-append (λ e. peer_in r e.0) (filter (λ e. is_end r e.0) es) (filter (λ e. is_end r e.0) fs)

  peer_first : (u : Addr) (on : Bool) (es : List (Ends × Bool)) → peers ((ends_of r u, on) ∷ es) ≡ u ∷ peers es
  peer_first u on es =
      ap (λ t. map (λ (e : Ends × Bool). peer_in r e.0) (cond t ((ends_of r u, on) ∷ filter (λ e. is_end r e.0) es)
      (filter (λ e. is_end r e.0) es))) (first_of_two r u)
      ∙ ap (λ v. v ∷ peers es) (second_in r u)

-- THE SITE

module _ (c : Configuration) (r u : Addr) (on : Bool) (new : session_between c r u ≡ None) (before : IsConfigured c)
    (after : IsConfigured (with_session c r u on)) where
  abbrev d : Configuration
  d = with_session c r u on

  parts : IsSplit (ends_of r u) on (session_between c r u) c.sessions d.sessions
  parts = split ends_cmp ends_exact (ends_of r u) on ends_total c.sessions before.ordered.sessions

  peers_before : peers_of c r ≡ peers r parts.front ++ peers r parts.back
  peers_before = ap (peers r) (parts.was.0 new) ∙ peers_both r parts.front parts.back

  peers_after : peers_of d r ≡ peers r parts.front ++ u ∷ peers r parts.back
  peers_after = ap (peers r) parts.is ∙ peers_both r parts.front ((ends_of r u, on) ∷ parts.back)
      ∙ ap (λ us. peers r parts.front ++ us) (peer_first r u on parts.back)

  in_two : (filter (below u) (peers r parts.front ++ peers r parts.back) ≡ peers r parts.front)
      × (filter (above u) (peers r parts.front ++ peers r parts.back) ≡ peers r parts.back)
  in_two = parted u (peers r parts.front) (peers r parts.back)
      (subst (IsStrictlySortedBy addr_cmp) peers_after (peers_in_order d r after))

  peers_with : peers_of d r ≡ filter (below u) (peers_of c r) ++ u ∷ filter (above u) (peers_of c r)
  peers_with =
      peers_after
      ∙ (λ i. sym in_two.0 i ++ u ∷ sym in_two.1 i)
      ∙ ap (λ us. filter (below u) us ++ u ∷ filter (above u) us) (sym peers_before)

  same_where : (test : Addr → Bool) → ((v : Addr) → test v ≡ true → (v.0 == u.0) ≡ false) → (vs : List Addr) →
      map (session_of d r) (filter test vs) ≡ filter (λ x. test x.peer) (map (session_of c r) vs)
  same_where test apart [] = refl
  same_where test apart (v ∷ vs) = by (test v) refl (same_where test apart vs)
    where
      by : (t : Bool) → test v ≡ t →
          map (session_of d r) (filter test vs) ≡ filter (λ x. test x.peer) (map (session_of c r) vs) →
          map (session_of d r) (cond t (v ∷ filter test vs) (filter test vs))
          ≡ cond t (session_of c r v ∷ filter (λ x. test x.peer) (map (session_of c r) vs))
          (filter (λ x. test x.peer) (map (session_of c r) vs))
      by true is rest = λ i. other_session c r u on v (apart v is) i ∷ rest i
      by false is rest = rest

  below_apart : (v : Addr) → below u v ≡ true → (v.0 == u.0) ≡ false
  below_apart v is = grind (arith, nat_tests)

  above_apart : (v : Addr) → above u v ≡ true → (v.0 == u.0) ≡ false
  above_apart v is = grind (arith, nat_tests)

  sessions_with : sessions_of d r ≡ filter (is_below u) (sessions_of c r) ++ session_of d r u
      ∷ filter (is_above u) (sessions_of c r)
  sessions_with =
      ap (map (session_of d r)) peers_with
      ∙ map-append (session_of d r) (filter (below u) (peers_of c r)) (u ∷ filter (above u) (peers_of c r))
      ∙ (λ i. same_where (below u) below_apart (peers_of c r) i ++ session_of d r u
      ∷ same_where (above u) above_apart (peers_of c r) i)

  extended_site : IsExtended c d r u
  unfolding site_of
  extended_site = mapped (site_at c r) (extended d r u) (site_at d r) one (is_virtual c r) (node_at c r)
    where
      one : (n : Node) → site_at d r n ≡ extended d r u (site_at c r n)
      one n = ap (λ (xs : List SiteSession). record (site_at c r n) { sessions = xs }) sessions_with

-- EDITS

no_session : (c : Configuration) (e : Edit) → refusal_of c e ≡ None → repeats_session c e ≡ false
unfolding refusal_of
no_session c e none = let all = all_fail (tests_of c e) none in all.1.1.1.1.1.1.1.1.1.0

-- a session that is made is one more of each of its ends
pub extended_after : (c : Configuration) (a b r u : Addr) → IsConfigured c → IsConfigured (edited c (Join a b)) →
    refusal_of c (Join a b) ≡ None → ends_of a b ≡ ends_of r u → IsExtended c (edited c (Join a b)) r u
extended_after c a b r u before after none ends =
    let with_ends : Ends → Configuration = λ e. record c { sessions = insert_entry ends_cmp c.sessions e true } in
    let new : session_between c r u ≡ None =
    none_there (session_between c r u) (subst (λ e. is_some (lookup (is_at (ends_cmp e)) c.sessions) ≡ false) ends
    (no_session c (Join a b) none)) in
    subst (λ e. IsExtended c (with_ends e) r u) (sym ends)
    (extended_site c r u true new before (subst (λ e. IsConfigured (with_ends e)) ends after))
