-- The site of a router, after an edit of one of its sessions, of its CLUSTER_ID, or of how it compares MULTI_EXIT_DISC.
use Rattle.std.proofs.Common.{◌≡◌, Bool, true, false, cond, ◌==◌, ◌&&◌, nat_le, List, [], ◌∷◌, ◌++◌, map, filter, Option, Some, None, option_map, is_some, if◌then◌else◌, refl, sym, ap, subst, ◌∙◌}
use Rattle.std.specs.Option.{unwrap_or}
use Rattle.std.specs.Cmp.{both_tied, unsigned_ties, unsigned_Decides}
use Rattle.std.specs.List.{list_any}
use Rattle.std.specs.List.Sorted.{IsStrictlySortedBy}
use Rattle.std.specs.Map.{keys_of, lookup}
use Rattle.std.specs.BTreeMap.{is_at, insert_entry}
use Rattle.std.proofs.lemmas.Bool.{true≢false, and_right, not-false}
use Rattle.net_prefix.specs.declared.addr.Addr.{Addr}
use Rattle.route_policy.specs.declared.rule.Rule.{Rule}
use Rattle.net_conf.specs.declared.tables.End.{End}
use Rattle.net_conf.specs.declared.tables.Ends.{Ends}
use Rattle.net_conf.specs.declared.tables.Node.{Node}
use Rattle.net_conf.specs.declared.tables.PolicySide.{PolicySide}
use Rattle.net_conf.specs.declared.tables.PolicySide.TheVariants.{Import, Export}
use Rattle.net_conf.specs.declared.edit.Edit.{Edit}
use Rattle.net_conf.specs.declared.edit.Edit.TheVariants.{Stop, Start, Client, OwnNext, Cluster, MedAlways, Rule as AddRule, Clear}
use Rattle.net_conf.specs.Configuration.{Configuration, node_at, is_virtual, ends_of, ends_cmp, end_of, end_cmp, is_end, session_between, has_session, rules_at, is_reflector}
use Rattle.net_conf.specs.Costs.{session_up, is_connected}
use Rattle.net_conf.specs.Sites.{peer_in, session_of, sessions_of, peers_of, site_at, site_of}
use Rattle.net_conf.specs.RouterSites.{router_site}
use Rattle.net_conf.specs.Edits.{edited, refusal_of, tests_of, lacks_session, switched, with_rule, without_rules, with_session}
use Rattle.net_conf.specs.Kept.{IsResettled, IsReclustered, IsRecompared, settled, resettled, reclustered, recompared}
use Rattle.net_conf.proofs.Inserted.{IsSplit, split}
use Rattle.net_conf.proofs.KeptTrees.{ends_exact, ends_total, same_ends, same_address}
use Rattle.net_conf.proofs.OthersStay.{end_exact, mapped}
use Rattle.net_conf.proofs.Soundness.{all_fail}
use Rattle.net_conf.proofs.Unseen.{any_with, any_without, lookup_with, lookup_without}

-- ONE SESSION

-- the router has the same peers, and sees the same of its sessions with others than this one
record SeesOthersSame (c d : Configuration) (r u : Addr) : Type 0 where
  peers : peers_of d r ≡ peers_of c r
  others : (v : Addr) → (v.0 == u.0) ≡ false → session_of d r v ≡ session_of c r v

module _ (c : Configuration) (sessions : List (Ends × Bool)) (clients own_next : List End)
    (imports exports : List (End × List Rule)) where
  -- with other sessions, and other settings of them
  abbrev with_sessions : Configuration
  with_sessions = record c {
    sessions = sessions;
    clients = clients;
    own_next = own_next;
    imports = imports;
    exports = exports;
  }

  module _ (r u : Addr) (seen : SeesOthersSame c with_sessions r u) where
    one_settled : (v : Addr) → session_of with_sessions r v ≡ settled with_sessions r u (session_of c r v)
    one_settled v = by (v.0 == u.0) refl
      where
        by : (t : Bool) → (v.0 == u.0) ≡ t →
            session_of with_sessions r v ≡ (if t then session_of with_sessions r u else session_of c r v)
        by true is = ap (session_of with_sessions r) (same_address v u is)
        by false is = seen.others v is

    each_settled : (vs : List Addr) →
        map (session_of with_sessions r) vs ≡ map (settled with_sessions r u) (map (session_of c r) vs)
    each_settled [] = refl
    each_settled (v ∷ vs) = λ i. one_settled v i ∷ each_settled vs i

    all_settled : sessions_of with_sessions r ≡ map (settled with_sessions r u) (sessions_of c r)
    all_settled = ap (map (session_of with_sessions r)) seen.peers ∙ each_settled (peers_of c r)

    settled_site : (by_client : Bool) → is_reflector with_sessions r ≡ (if by_client then is_reflector with_sessions r
        else is_reflector c r) →
        router_site with_sessions r ≡ option_map (resettled with_sessions r u by_client) (router_site c r)
    unfolding site_of
    settled_site by_client same = mapped (site_at c r) (resettled with_sessions r u by_client)
        (site_at with_sessions r) one (is_virtual c r) (node_at c r)
      where
        one : (n : Node) → site_at with_sessions r n ≡ resettled with_sessions r u by_client (site_at c r n)
        one n = λ i. record (site_at c r n) { reflector = same i; sessions = all_settled i }

-- SETTINGS

-- the end with another peer is another one
end_apart : (r v a b : Addr) → (v.0 == b.0) ≡ false → is_at (end_cmp (end_of r v)) (end_of a b) ≡ false
end_apart r v a b other = sym (both_tied _ _ _ _ (unsigned_ties r.0 a.0) (unsigned_ties v.0 b.0))
    ∙ and_right (r.0 == a.0) (v.0 == b.0) other

module _ (c : Configuration) (a b r : Addr) where
  switched_apart : (on : Bool) (v : Addr) → (v.0 == b.0) ≡ false → (es : List End) →
      list_any (is_at (end_cmp (end_of r v))) (switched on (end_of a b) es) ≡ list_any (is_at (end_cmp (end_of r v))) es
  switched_apart true v other es = any_with end_cmp end_exact (is_at (end_cmp (end_of r v))) (end_of a b)
      (end_apart r v a b other) es
  switched_apart false v other es = any_without end_cmp end_exact (is_at (end_cmp (end_of r v))) (end_of a b)
      (end_apart r v a b other) es

  rules_with : (v : Addr) → (v.0 == b.0) ≡ false → (rule : Rule) (policies : List (End × List Rule)) →
      rules_at (with_rule (end_of a b) rule policies) (end_of r v) ≡ rules_at policies (end_of r v)
  rules_with v other rule policies =
      ap (λ rules. unwrap_or rules []) (lookup_with end_cmp end_exact (is_at (end_cmp (end_of r v))) (end_of a b)
      (end_apart r v a b other) (rules_at policies (end_of a b) ++ rule ∷ []) policies)

  rules_without : (v : Addr) → (v.0 == b.0) ≡ false → (policies : List (End × List Rule)) →
      rules_at (without_rules (end_of a b) policies) (end_of r v) ≡ rules_at policies (end_of r v)
  rules_without v other policies =
      ap (λ rules. unwrap_or rules []) (lookup_without end_cmp end_exact (is_at (end_cmp (end_of r v))) (end_of a b)
      (end_apart r v a b other) policies)

  pub by_client : (on : Bool) → IsResettled c (edited c (Client a b on)) r b true
  unfolding session_up
  by_client on =
      let seen : SeesOthersSame c (edited c (Client a b on)) r b = record {
        peers = refl;
        others = λ v other. ap (λ (x : Bool). record (session_of c r v) { client = x })
            (switched_apart on v other c.clients);
      } in
      record {
        site = settled_site c c.sessions (switched on (end_of a b) c.clients) c.own_next c.imports c.exports
            r b seen true refl;
      }

  pub by_own_next : (on : Bool) → IsResettled c (edited c (OwnNext a b on)) r b false
  unfolding session_up
  by_own_next on =
      let seen : SeesOthersSame c (edited c (OwnNext a b on)) r b = record {
        peers = refl;
        others = λ v other. ap (λ (x : Bool). record (session_of c r v) { own_next = x })
            (switched_apart on v other c.own_next);
      } in
      record {
        site = settled_site c c.sessions c.clients (switched on (end_of a b) c.own_next) c.imports c.exports r
            b seen false refl;
      }

  by_imports : (imports : List (End × List Rule)) →
      ((v : Addr) → (v.0 == b.0) ≡ false → rules_at imports (end_of r v) ≡ rules_at c.imports (end_of r v)) →
      IsResettled c (record c { imports = imports }) r b false
  unfolding session_up
  by_imports imports same =
      let seen : SeesOthersSame c (record c { imports = imports }) r b = record {
        peers = refl;
        others = λ v other. ap (λ (x : List Rule). record (session_of c r v) { policy_in = x }) (same v other);
      } in
      record { site = settled_site c c.sessions c.clients c.own_next imports c.exports r b seen false refl }

  by_exports : (exports : List (End × List Rule)) →
      ((v : Addr) → (v.0 == b.0) ≡ false → rules_at exports (end_of r v) ≡ rules_at c.exports (end_of r v)) →
      IsResettled c (record c { exports = exports }) r b false
  unfolding session_up
  by_exports exports same =
      let seen : SeesOthersSame c (record c { exports = exports }) r b = record {
        peers = refl;
        others = λ v other. ap (λ (x : List Rule). record (session_of c r v) { policy_out = x }) (same v other);
      } in
      record { site = settled_site c c.sessions c.clients c.own_next c.imports exports r b seen false refl }

-- WHETHER IT IS ENABLED

-- the peers are told by the keys alone
peers_by_keys : (r : Addr) (es : List (Ends × Bool)) → map (λ e. peer_in r e.0) (filter (λ e. is_end r e.0) es)
    ≡ map (peer_in r) (filter (is_end r) (keys_of es))
peers_by_keys r [] = refl
peers_by_keys r (e ∷ es) = by (is_end r e.0) (peers_by_keys r es)
  where
    by : (t : Bool) → map (λ e. peer_in r e.0) (filter (λ e. is_end r e.0) es)
        ≡ map (peer_in r) (filter (is_end r) (keys_of es)) →
        map (λ e. peer_in r e.0) (cond t (e ∷ filter (λ e. is_end r e.0) es) (filter (λ e. is_end r e.0) es))
        ≡ map (peer_in r) (cond t (e.0 ∷ filter (is_end r) (keys_of es)) (filter (is_end r) (keys_of es)))
    by true rest = ap (λ us. peer_in r e.0 ∷ us) rest
    by false rest = rest

keys_with : {K V : Type 0} (k : K) (v w : V) (front back : List (K × V)) →
    keys_of (front ++ (k, v) ∷ back) ≡ keys_of (front ++ (k, w) ∷ back)
keys_with k v w [] back = refl
keys_with k v w (e ∷ front) back = ap (λ ks. e.0 ∷ ks) (keys_with k v w front back)

keys_split : {K V : Type 0} (k : K) (v : V) (before : Option V) (es new : List (K × V)) → is_some before ≡ true →
    IsSplit k v before es new → keys_of new ≡ keys_of es
keys_split k v None es new some parts = absurd (true≢false (sym some))
keys_split k v (Some w) es new some parts = ap (λ xs. keys_of xs) parts.is ∙ keys_with k v w parts.front parts.back
    ∙ ap (λ xs. keys_of xs) (sym (parts.was.1 w refl))

-- the ends with another are other ones
ends_second : (r v u : Addr) → ends_of r v ≡ ends_of r u → v ≡ u
ends_second r v u same = by (nat_le r.0 v.0) (nat_le r.0 u.0) same
  where
    pair : Addr → Bool → Ends
    pair x le = if le then record { low = r; high = x } else record { low = x; high = r }

    by : (s t : Bool) → pair v s ≡ pair u t → v ≡ u
    by true true is = ap (λ (e : Ends). e.high) is
    by true false is = ap (λ (e : Ends). e.high) is ∙ ap (λ (e : Ends). e.low) is
    by false true is = ap (λ (e : Ends). e.low) is ∙ ap (λ (e : Ends). e.high) is
    by false false is = ap (λ (e : Ends). e.low) is

module _ (c : Configuration) (r u : Addr) (on : Bool) where
  other_ends : (v : Addr) → (v.0 == u.0) ≡ false → is_at (ends_cmp (ends_of r v)) (ends_of r u) ≡ false
  other_ends v other = by (is_at (ends_cmp (ends_of r v)) (ends_of r u)) refl
    where
      itself : v ≡ u → (v.0 == u.0) ≡ true
      itself is = ap (λ (x : Addr). x.0 == u.0) is ∙ (unsigned_Decides u.0 u.0).1 refl

      by : (t : Bool) → is_at (ends_cmp (ends_of r v)) (ends_of r u) ≡ t → t ≡ false
      by true is = absurd (true≢false (sym (itself (ends_second r v u (same_ends (ends_of r v) (ends_of r u) is)))
          ∙ other))
      by false is = refl

  pub other_session : (v : Addr) → (v.0 == u.0) ≡ false → session_of (with_session c r u on) r v ≡ session_of c r v
  unfolding session_up
  other_session v other = ap (λ (x : Option Bool). record (session_of c r v) { up = up_with x })
      (lookup_with ends_cmp ends_exact (is_at (ends_cmp (ends_of r v))) (ends_of r u)
      (other_ends v other) on c.sessions)
    where
      up_with : Option Bool → Bool
      up_with x = unwrap_or (option_map (λ enabled. enabled && is_connected c r v) x) false

  by_session : IsStrictlySortedBy ends_cmp (keys_of c.sessions) → has_session c r u ≡ true →
      IsResettled c (with_session c r u on) r u false
  by_session sorted there =
      let d : Configuration = with_session c r u on in
      let keys : keys_of d.sessions ≡ keys_of c.sessions =
      keys_split (ends_of r u) on (session_between c r u) c.sessions d.sessions there
      (split ends_cmp ends_exact (ends_of r u) on ends_total c.sessions sorted) in
      let seen : SeesOthersSame c d r u = record {
        peers = peers_by_keys r d.sessions ∙ ap (λ ks. map (peer_in r) (filter (is_end r) ks)) keys
            ∙ sym (peers_by_keys r c.sessions);
        others = other_session;
      } in
      record { site = settled_site c d.sessions c.clients c.own_next c.imports c.exports r u seen false refl }

-- EDITS

session_there : (c : Configuration) (e : Edit) → refusal_of c e ≡ None → lacks_session c e ≡ false
unfolding refusal_of
session_there c e none = let all = all_fail (tests_of c e) none in all.1.1.1.1.1.1.1.1.0

-- a session that is there, enabled or disabled
enabled_after : (c : Configuration) (a b r u : Addr) (on : Bool) → IsStrictlySortedBy ends_cmp (keys_of c.sessions) →
    has_session c a b ≡ true → ends_of a b ≡ ends_of r u → IsResettled c (with_session c a b on) r u false
enabled_after c a b r u on sorted there is =
    let there' : has_session c r u ≡ true =
    subst (λ e. is_some (lookup (is_at (ends_cmp e)) c.sessions) ≡ true) is there in
    subst (λ e. IsResettled c (record c { sessions = insert_entry ends_cmp c.sessions e on }) r u false) (sym is)
    (by_session c r u on sorted there')

pub stopped_after : (c : Configuration) (a b r u : Addr) → IsStrictlySortedBy ends_cmp (keys_of c.sessions) →
    refusal_of c (Stop a b) ≡ None → ends_of a b ≡ ends_of r u → IsResettled c (edited c (Stop a b)) r u false
stopped_after c a b r u sorted none is =
    enabled_after c a b r u false sorted (not-false (has_session c a b) (session_there c (Stop a b) none)) is

pub started_after : (c : Configuration) (a b r u : Addr) → IsStrictlySortedBy ends_cmp (keys_of c.sessions) →
    refusal_of c (Start a b) ≡ None → ends_of a b ≡ ends_of r u → IsResettled c (edited c (Start a b)) r u false
started_after c a b r u sorted none is =
    enabled_after c a b r u true sorted (not-false (has_session c a b) (session_there c (Start a b) none)) is

pub ruled_after : (c : Configuration) (a b r : Addr) (side : PolicySide) (rule : Rule) →
    IsResettled c (edited c (AddRule a b side rule)) r b false
ruled_after c a b r Import rule = by_imports c a b r _ (λ v other. rules_with c a b r v other rule c.imports)
ruled_after c a b r Export rule = by_exports c a b r _ (λ v other. rules_with c a b r v other rule c.exports)

pub cleared_after : (c : Configuration) (a b r : Addr) (side : PolicySide) →
    IsResettled c (edited c (Clear a b side)) r b false
cleared_after c a b r Import = by_imports c a b r _ (λ v other. rules_without c a b r v other c.imports)
cleared_after c a b r Export = by_exports c a b r _ (λ v other. rules_without c a b r v other c.exports)

-- THE CLUSTER_ID

other_cluster : (c : Configuration) (clusters : List (Addr × Addr)) (r : Addr) →
    IsReclustered c (record c { clusters = clusters }) r
unfolding site_of session_up
other_cluster c clusters r =
    record {
      site = mapped _ (reclustered (record c { clusters = clusters }) r) _ (λ n. refl)
          (is_virtual c r) (node_at c r);
    }

pub reclustered_after : (c : Configuration) (a id r : Addr) → IsReclustered c (edited c (Cluster a id)) r
reclustered_after c a id r = other_cluster c _ r

-- HOW IT COMPARES MULTI_EXIT_DISC

other_comparison : (c : Configuration) (med_always : List Addr) (r : Addr) →
    IsRecompared c (record c { med_always = med_always }) r
unfolding site_of session_up
other_comparison c med_always r =
    record {
      site = mapped _ (recompared (record c { med_always = med_always }) r) _ (λ n. refl)
          (is_virtual c r) (node_at c r);
    }

pub recompared_after : (c : Configuration) (a : Addr) (on : Bool) (r : Addr) →
    IsRecompared c (edited c (MedAlways a on)) r
recompared_after c a on r = other_comparison c _ r
