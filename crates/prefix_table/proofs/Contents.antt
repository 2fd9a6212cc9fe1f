-- The entries of a trie's nodes, as the map that they make.
use Rattle.std.proofs.Common.{◌≡◌, ℕ, zero, suc, ◌<◌, ◌≤◌, Bool, true, false, cond, T, List, [], ◌∷◌, length, map, get_or, set, Option, Some, None, IsTrue, is_some, refl, sym, ap, subst, ◌∙◌, arith}
use Rattle.std.proofs.lemmas.Bool.{false≢true}
use Rattle.std.specs.Prelude.{min}
use Rattle.std.specs.Option.{option_map, IfSome}
use Rattle.std.specs.List as list
use Rattle.std.specs.declared.cmp.Ordering.TheVariants.{Less, Equal, Greater}
use Rattle.std.specs.Ordering.{is_lt, is_eq, eq_by_cmp}
use Rattle.std.specs.Cmp.{tied_itself}
use Rattle.std.specs.FinMap as fin
use Rattle.std.specs.FinMap.Entries.{find, is_sorted, below_all}
use Rattle.net_prefix.specs.declared.addr.Addr.{Addr}
use Rattle.net_prefix.specs.Prefix.{Prefix, MakePrefix, Covers, prefix_cmp}
use Rattle.net_prefix.specs.Orders.{prefix_total, prefix_exact}
use Rattle.prefix_table.specs.declared.node.Node.{Node}
use Rattle.prefix_table.specs.Places.{prefix_around}
use Rattle.prefix_table.specs.Tables.{Matches, IsKey, IsMatch, IsLongestMatch, HasNoMatch, is_after, first_after}
use Rattle.prefix_table.specs.Trie.{whole, IsUnder, child_of, prefix_at, place_at, child_at, IsBelow, IsTrie, HasPrefix, IsClosest, IsCover, IsDeepest, IsLater, IsFirstLater, entry_or_not, node_places, prefixes, places_in, placed, with_place}
use Rattle.prefix_table.proofs.Prefixes.{covers_itself, covers_trans, one_prefix, prefix_around_covers, lower_lengths}
use Rattle.prefix_table.proofs.Entries.{first, second, less_of}

pub equal_keys : (p q : Prefix) → eq_by_cmp prefix_cmp p q ≡ true → p ≡ q
equal_keys p q e = elim (prefix_cmp p q) as (λ o. prefix_cmp p q ≡ o → is_eq o ≡ true → p ≡ q) [
  | Less ↦ λ _ h. cc
  | Equal ↦ λ same _. prefix_exact p q same
  | Greater ↦ λ _ h. cc
] refl e

pub other_keys : (p q : Prefix) → (p ≡ q → ⊥) → eq_by_cmp prefix_cmp p q ≡ false
other_keys p q other = elim (eq_by_cmp prefix_cmp p q) as (λ b. eq_by_cmp prefix_cmp p q ≡ b → b ≡ false) [
  | true ↦ λ e. absurd (other (equal_keys p q e))
  | false ↦ λ e. refl
] refl

pub same_key : (p q : Prefix) → p ≡ q → eq_by_cmp prefix_cmp p q ≡ true
same_key p q e = ap (eq_by_cmp prefix_cmp p) (sym e) ∙ ap is_eq (tied_itself prefix_total p)

shadowed : {A : Type 0} (b : Bool) (x y z : A) → cond b x z ≡ cond b x (cond b y z)
shadowed true x y z = refl
shadowed false x y z = refl

swapped : {A : Type 0} (a b : Bool) (x y z : A) → (a ≡ true → b ≡ true → ⊥) →
    cond a x (cond b y z) ≡ cond b y (cond a x z)
swapped true true x y z apart = absurd (apart refl refl)
swapped true false x y z apart = refl
swapped false b x y z apart = refl

-- a prefix matches where it covers the prefix of the greatest length that may match
match_covers : (a : Addr) (most : ℕ) (q : Prefix) → Matches a most q → Covers q (prefix_around a (min most 32))
match_covers a most q m = lower_lengths a (min most 32) q (omega (arith, m.0.0, m.1)) m.2

covers_match : (a : Addr) (most : ℕ) (q : Prefix) → MakePrefix q.addr q.len → Covers q (prefix_around a (min most 32)) →
    Matches a most q
covers_match a most q block h =
    let cover : Covers (prefix_around a (min most 32)) (record { addr = a; len = min most 32 }) =
    prefix_around_covers a (min most 32) (record { addr = a; len = min most 32 }) (omega arith) refl in (
      block,
      omega (arith, h.0),
      (covers_trans q (prefix_around a (min most 32)) (record { addr = a; len = min most 32 }) h cover).1,
    )

pub find_missing : (ns : List Node) (q : Prefix) → ((j : ℕ) → j < length ns → prefix_at ns j ≡ q → ⊥) →
    find prefix_cmp q (node_places ns) ≡ None
find_missing [] q none = refl
find_missing (n ∷ ns) q none =
    let rest : find prefix_cmp q (node_places ns) ≡ None = find_missing ns q (λ j lt e. none (suc j) (omega arith) e) in
    elim n.place as (λ v. find prefix_cmp q (entry_or_not n.prefix v (node_places ns)) ≡ None) [
      | None ↦ rest
      | Some v ↦ ap (λ b. cond b (Some v) (find prefix_cmp q (node_places ns)))
          (other_keys q n.prefix (λ e. none 0 (omega arith) (sym e))) ∙ rest
    ]

pub find_there : (ns : List Node) (q : Prefix) (at : ℕ) → at < length ns → prefix_at ns at ≡ q →
    ((j : ℕ) → j < length ns → prefix_at ns j ≡ q → j ≡ at) → find prefix_cmp q (node_places ns) ≡ place_at ns at
find_there [] q at lt is only = absurd (omega arith)
find_there (n ∷ ns) q zero lt is only =
    elim n.place as (λ v. find prefix_cmp q (entry_or_not n.prefix v (node_places ns)) ≡ v) [
      | None ↦ find_missing ns q (λ j less e. let same : suc j ≡ 0 = only (suc j) (omega arith) e in
          absurd (omega arith))
      | Some v ↦ ap (λ b. cond b (Some v) (find prefix_cmp q (node_places ns))) (same_key q n.prefix (sym is))
    ]
find_there (n ∷ ns) q (suc at) lt is only =
    let rest : find prefix_cmp q (node_places ns) ≡ place_at ns at =
    find_there ns q at (omega arith) is (λ j less e. let same : suc j ≡ suc at = only (suc j) (omega arith) e in
    omega arith) in
    elim n.place as (λ v. find prefix_cmp q (entry_or_not n.prefix v (node_places ns)) ≡ place_at ns at) [
      | None ↦ rest
      | Some v ↦ ap (λ b. cond b (Some v) (find prefix_cmp q (node_places ns)))
          (other_keys q n.prefix (λ e. let same : 0 ≡ suc at = only 0 (omega arith) (sym e) in absurd (omega arith)))
          ∙ rest
    ]

pub find_at_node : (ns : List Node) (t : IsTrie ns) (q : Prefix) (at : ℕ) → HasPrefix ns at q →
    find prefix_cmp q (node_places ns) ≡ place_at ns at
find_at_node ns t q at h = find_there ns q at h.0 h.1 (λ j lt e. t.unique j at lt h.0 (e ∙ sym h.1))

-- a key is the prefix of a node with a value
pub node_of : (ns : List Node) (q : Prefix) → IsTrue (is_some (find prefix_cmp q (node_places ns))) → (j : ℕ)
    × (j < length ns) × (prefix_at ns j ≡ q) × IsTrue (is_some (place_at ns j))
node_of [] q h = absurd (false≢true h)
node_of (n ∷ ns) q h =
    elim n.place as (λ v. n.place ≡ v →
    IsTrue (is_some (find prefix_cmp q (entry_or_not n.prefix v (node_places ns)))) → (j : ℕ)
    × (j < length (n ∷ ns)) × (prefix_at (n ∷ ns) j ≡ q) × IsTrue (is_some (place_at (n ∷ ns) j))) [
      | None ↦ λ is k. let w = node_of ns q k in (suc w.0, omega (arith, w.1), w.2, w.3)
      | Some v ↦ λ is k. elim (eq_by_cmp prefix_cmp q n.prefix) as (λ b. eq_by_cmp prefix_cmp q n.prefix ≡ b →
          IsTrue (is_some (cond b (Some v) (find prefix_cmp q (node_places ns)))) → (j : ℕ) × (j < length (n ∷ ns))
          × (prefix_at (n ∷ ns) j ≡ q) × IsTrue (is_some (place_at (n ∷ ns) j))) [
            | true ↦ λ e _. (0, omega arith, sym (equal_keys q n.prefix e), ap is_some is)
            | false ↦ λ e m. let w = node_of ns q m in (suc w.0, omega (arith, w.1), w.2, w.3)
          ] refl k
    ] refl h

-- the entries have this place at q, and else what they had
abbrev IsStored : List Node → List Node → Prefix → ℕ → Type 0
IsStored old new q v = (p : Prefix) → find prefix_cmp p (node_places new) ≡ cond (eq_by_cmp prefix_cmp p q) (Some v)
    (find prefix_cmp p (node_places old))

find_placed : (ns : List Node) (at : ℕ) (v : ℕ) (q : Prefix) → at < length ns → prefix_at ns at ≡ q →
    ((j : ℕ) → j < length ns → prefix_at ns j ≡ q → j ≡ at) → IsStored ns (placed ns at v) q v
find_placed [] at v q lt is only p = absurd (omega arith)
find_placed (n ∷ ns) zero v q lt is only p =
    ap (λ k. cond (eq_by_cmp prefix_cmp p k) (Some v) (find prefix_cmp p (node_places ns))) is
    ∙ elim n.place as (λ w. cond (eq_by_cmp prefix_cmp p q) (Some v) (find prefix_cmp p (node_places ns))
    ≡ cond (eq_by_cmp prefix_cmp p q) (Some v) (find prefix_cmp p (entry_or_not n.prefix w (node_places ns)))) [
      | None ↦ refl
      | Some w ↦ shadowed (eq_by_cmp prefix_cmp p q) (Some v) (Some w) (find prefix_cmp p (node_places ns))
          ∙ ap (λ k. cond (eq_by_cmp prefix_cmp p q) (Some v)
          (cond (eq_by_cmp prefix_cmp p k) (Some w) (find prefix_cmp p (node_places ns)))) (sym is)
    ]
find_placed (n ∷ ns) (suc at) v q lt is only p =
    let rest : find prefix_cmp p (node_places (placed ns at v)) ≡ cond (eq_by_cmp prefix_cmp p q) (Some v)
    (find prefix_cmp p (node_places ns)) =
    find_placed ns at v q (omega arith) is (λ j less e. let same : suc j ≡ suc at = only (suc j) (omega arith) e in
    omega arith) p in
    elim n.place as (λ w. find prefix_cmp p (entry_or_not n.prefix w (node_places (placed ns at v)))
    ≡ cond (eq_by_cmp prefix_cmp p q) (Some v) (find prefix_cmp p (entry_or_not n.prefix w (node_places ns)))) [
      | None ↦ rest
      | Some w ↦ ap (cond (eq_by_cmp prefix_cmp p n.prefix) (Some w)) rest
          ∙ swapped (eq_by_cmp prefix_cmp p n.prefix) (eq_by_cmp prefix_cmp p q) (Some w) (Some v)
          (find prefix_cmp p (node_places ns))
          (λ a b. let same : 0 ≡ suc at = only 0 (omega arith) (sym (equal_keys p n.prefix a) ∙ equal_keys p q b) in
          absurd (omega arith))
    ]

pub stored : (ns : List Node) (t : IsTrie ns) (at : ℕ) (v : ℕ) (q : Prefix) → HasPrefix ns at q →
    IsStored ns (placed ns at v) q v
stored ns t at v q h = find_placed ns at v q h.0 h.1 (λ j lt e. t.unique j at lt h.0 (e ∙ sym h.1))

prefixes-placed : (ns : List Node) (i : ℕ) (v : ℕ) → prefixes (placed ns i v) ≡ prefixes ns
prefixes-placed [] i v = refl
prefixes-placed (x ∷ xs) zero v = refl
prefixes-placed (x ∷ xs) (suc i) v = ap (λ l. x.prefix ∷ l) (prefixes-placed xs i v)

same_child : (u : Bool) (v : ℕ) (n : Node) → child_of u (with_place v n) ≡ child_of u n
same_child true v n = refl
same_child false v n = refl

children-placed : (u : Bool) (ns : List Node) (i : ℕ) (v : ℕ) → map (child_of u) (placed ns i v) ≡ map (child_of u) ns
children-placed u [] i v = refl
children-placed u (x ∷ xs) zero v = ap (λ c. c ∷ map (child_of u) xs) (same_child u v x)
children-placed u (x ∷ xs) (suc i) v = ap (λ l. child_of u x ∷ l) (children-placed u xs i v)

length-placed : (ns : List Node) (i : ℕ) (v : ℕ) → length (placed ns i v) ≡ length ns
length-placed [] i v = refl
length-placed (x ∷ xs) zero v = refl
length-placed (x ∷ xs) (suc i) v = ap suc (length-placed xs i v)

pub set_placed : (ns : List Node) (i : ℕ) (v : ℕ) (n : Node) → i < length ns → n ≡ get_or ns i n →
    set ns i (with_place v n) ≡ placed ns i v
set_placed [] i v n lt is = absurd (omega arith)
set_placed (x ∷ xs) zero v n lt is = ap (λ m. with_place v m ∷ xs) is
set_placed (x ∷ xs) (suc i) v n lt is = ap (λ l. x ∷ l) (set_placed xs i v n (omega arith) is)

-- a place changes nothing of the shape
pub placed_trie : (ns : List Node) (t : IsTrie ns) (i : ℕ) (v : ℕ) → IsTrie (placed ns i v)
placed_trie ns t i v =
    let size = length-placed ns i v in
    let at : (j : ℕ) → prefix_at (placed ns i v) j ≡ prefix_at ns j =
    λ j. ap (λ l. get_or l j whole) (prefixes-placed ns i v) in
    let child : (u : Bool) (j : ℕ) → child_at (placed ns i v) u j ≡ child_at ns u j =
    λ u j. ap (λ l. get_or l j None) (children-placed u ns i v) in
    record {
      blocks = λ j lt. subst (λ p. MakePrefix p.addr p.len) (sym (at j)) (t.blocks j (omega (arith, size)));
      unique = λ j k lj lk e. t.unique j k (omega (arith, size)) (omega (arith, size)) (sym (at j) ∙ e ∙ at k);
      root = at 0 ∙ t.root;
      covered = λ j lt. subst (Covers whole) (sym (at j)) (t.covered j (omega (arith, size)));
      empty = λ j k u lj lk none h. t.empty j k u (omega (arith, size)) (omega (arith, size)) (sym (child u j)
          ∙ none) (subst (λ p. IsUnder p u (prefix_at ns k)) (at j)
          (subst (IsUnder (prefix_at (placed ns i v) j) u) (at k) h));
      below = λ j u m lj is.
          let old = t.below j u m (omega (arith, size)) (sym (child u j) ∙ is) in
          subst (λ p. IsBelow (placed ns i v) p u m.0) (sym (at j)) (record {
            in_range = omega (arith, size, old.in_range);
            under = subst (IsUnder (prefix_at ns j) u) (sym (at m.0)) old.under;
            covers = λ k lk h. subst (λ p. Covers p (prefix_at (placed ns i v) k)) (sym (at m.0))
                (subst (Covers (prefix_at ns m.0)) (sym (at k))
                (old.covers k (omega (arith, size)) (subst (IsUnder (prefix_at ns j) u) (at k) h)));
          });
    }

pub get_of_nodes : (ns : List Node) (q : Prefix) → fin.get (places_in ns) q ≡ find prefix_cmp q (node_places ns)
get_of_nodes ns q = fin.get-from_entries prefix_total (node_places ns) q

pub stored_map : (old new : List Node) (q : Prefix) (v : ℕ) → IsStored old new q v →
    places_in new ≡ fin.insert (places_in old) q v
stored_map old new q v is =
    fin.same_map prefix_total prefix_exact _ _ (λ p. get_of_nodes new p ∙ is p
    ∙ ap (cond (eq_by_cmp prefix_cmp p q) (Some v)) (sym (get_of_nodes old p))
    ∙ sym (fin.get-insert prefix_total (places_in old) q v p))

pub key_node : (ns : List Node) (q : Prefix) → IsKey (places_in ns) q → (j : ℕ) × (j < length ns) × (prefix_at ns j ≡ q)
    × IsTrue (is_some (place_at ns j))
key_node ns q h = node_of ns q (ap is_some (sym (get_of_nodes ns q)) ∙ h)

-- the node of a key that matches
match_node : (ns : List Node) (a : Addr) (most : ℕ) (q : Prefix) → IsMatch (places_in ns) a most q →
    (w : (j : ℕ) × (j < length ns) × (prefix_at ns j ≡ q) × IsTrue (is_some (place_at ns j))) →
    IsCover ns 0 (prefix_around a (min most 32)) w.0
match_node ns a most q m w = record {
  in_range = w.1;
  valued = w.3;
  covers = subst (λ p. Covers p (prefix_around a (min most 32))) (sym w.2) (match_covers a most q m.0);
  long = omega arith;
}

longest_value : (ns : List Node) (t : IsTrie ns) (at : ℕ) (v : ℕ) {q : Prefix} → IsDeepest ns 0 q at →
    place_at ns at ≡ Some v → fin.get (places_in ns) (prefix_at ns at) ≡ Some v
longest_value ns t at v deep is = get_of_nodes ns (prefix_at ns at)
    ∙ find_at_node ns t (prefix_at ns at) at (deep.cover.in_range, refl) ∙ is

pub longest_is : (ns : List Node) (t : IsTrie ns) (a : Addr) (most at : ℕ) (v : ℕ) →
    IsDeepest ns 0 (prefix_around a (min most 32)) at → place_at ns at ≡ Some v →
    IsLongestMatch (places_in ns) a most (prefix_at ns at) v
longest_is ns t a most at v deep is = record {
  value = longest_value ns t at v deep is;
  match = record {
    has = (
      covers_match a most (prefix_at ns at) (t.blocks at deep.cover.in_range) deep.cover.covers,
      ap is_some (longest_value ns t at v deep is),
    );
    longest = λ q m.
        let w = key_node ns q m.1 in
        subst (λ p. p.len ≤ (prefix_at ns at).len) w.2 (deep.longest w.0 (match_node ns a most q m w));
  };
}

pub no_longest : (ns : List Node) (a : Addr) (most : ℕ) → ((j : ℕ) → IsCover ns 0 (prefix_around a (min most 32)) j →
    ⊥) → HasNoMatch (places_in ns) a most
no_longest ns a most none q m = let w = key_node ns q m.1 in none w.0 (match_node ns a most q m w)

below_found : (x p : Prefix) (v : ℕ) (es : List (Prefix × ℕ)) → T (below_all prefix_cmp x es) →
    find prefix_cmp p es ≡ Some v → prefix_cmp x p ≡ Less
below_found x p v [] h is = cc
below_found x p v (e ∷ es) h is =
    elim (eq_by_cmp prefix_cmp p e.0) as (λ b. eq_by_cmp prefix_cmp p e.0 ≡ b →
    cond b (Some e.1) (find prefix_cmp p es) ≡ Some v → prefix_cmp x p ≡ Less) [
      | true ↦ λ same k. ap (prefix_cmp x) (equal_keys p e.0 same)
          ∙ less_of _ (first (is_lt (prefix_cmp x e.0)) (below_all prefix_cmp x es) h)
      | false ↦ λ other k. below_found x p v es (second (is_lt (prefix_cmp x e.0)) (below_all prefix_cmp x es) h) k
    ] refl is

still_key : (q : Prefix) (e : Prefix × ℕ) (es : List (Prefix × ℕ)) → IsTrue (is_some (find prefix_cmp q es)) →
    IsTrue (is_some (find prefix_cmp q (e ∷ es)))
still_key q e es key = elim (eq_by_cmp prefix_cmp q e.0) as (λ b.
    IsTrue (is_some (cond b (Some e.1) (find prefix_cmp q es)))) [ true ↦ refl | false ↦ key ]

none_first : (after : Option Prefix) (es : List (Prefix × ℕ)) →
    ((q : Prefix) → IsTrue (is_some (find prefix_cmp q es)) → is_after after q ≡ false) →
    list.find (λ e. is_after after e.0) es ≡ None
none_first after [] none = refl
none_first after (e ∷ es) none =
    ap (λ b. cond b (Some e) (list.find (λ x. is_after after x.0) es))
    (none e.0 (ap is_some (ap (λ b. cond b (Some e.1) (find prefix_cmp e.0 es)) (same_key e.0 e.0 refl))))
    ∙ none_first after es (λ q key. none q (still_key q e es key))

-- the entry that no later entry comes before is the first later one
found_first : (after : Option Prefix) (es : List (Prefix × ℕ)) (p : Prefix) (v : ℕ) → T (is_sorted prefix_cmp es) →
    find prefix_cmp p es ≡ Some v → is_after after p ≡ true
    → ((q : Prefix) → IsTrue (is_some (find prefix_cmp q es)) → is_after after q ≡ true →
    is_lt (prefix_cmp q p) ≡ false) → list.find (λ e. is_after after e.0) es ≡ Some (p, v)
found_first after [] p v sorted is later least = cc
found_first after (e ∷ es) p v sorted is later least =
    elim (eq_by_cmp prefix_cmp p e.0) as (λ b. eq_by_cmp prefix_cmp p e.0 ≡ b →
    cond b (Some e.1) (find prefix_cmp p es) ≡ Some v →
    list.find (λ e. is_after after e.0) (e ∷ es) ≡ Some (p, v)) [
      | true ↦ λ same h.
          let keys : p ≡ e.0 = equal_keys p e.0 same in
          let values : e.1 ≡ v = cc in
          ap (λ b. cond b (Some e) (list.find (λ x. is_after after x.0) es)) (ap (is_after after) (sym keys) ∙ later)
          ∙ (λ i. Some (sym keys i, values i))
      | false ↦ λ other h.
          let below : prefix_cmp e.0 p ≡ Less =
          below_found e.0 p v es (first (below_all prefix_cmp e.0 es) (is_sorted prefix_cmp es) sorted) h in
          let early : is_after after e.0 ≡ false =
          elim (is_after after e.0) as (λ b. is_after after e.0 ≡ b → b ≡ false) [
            | true ↦ λ k. absurd (false≢true
                (sym (least e.0 (ap is_some
                (ap (λ b. cond b (Some e.1) (find prefix_cmp e.0 es)) (same_key e.0 e.0 refl))) k) ∙ ap is_lt below))
            | false ↦ λ k. refl
          ] refl in
          ap (λ b. cond b (Some e) (list.find (λ x. is_after after x.0) es)) early
          ∙ found_first after es p v (second (below_all prefix_cmp e.0 es) (is_sorted prefix_cmp es) sorted) h later
          (λ q key. least q (still_key q e es key))
    ] refl is

pub first_is : (ns : List Node) (t : IsTrie ns) (after : Option Prefix) (at : ℕ) (v : ℕ) →
    IsFirstLater ns whole after at → place_at ns at ≡ Some v →
    first_after (places_in ns) after ≡ Some (prefix_at ns at, v)
first_is ns t after at v f is =
    let p = prefix_at ns at in
    found_first after (fin.entries (places_in ns)) p v (fin.entries_sorted (places_in ns))
    (sym (fin.get-entries (places_in ns) p) ∙ get_of_nodes ns p ∙ find_at_node ns t p at (f.is.in_range, refl)
    ∙ is) f.is.later
    (λ q key later.
    let w = key_node ns q (ap is_some (fin.get-entries (places_in ns) q) ∙ key) in
    subst (λ x. is_lt (prefix_cmp x p) ≡ false) w.2
    (f.first w.0 (record {
      in_range = w.1;
      valued = w.3;
      covers = t.covered w.0 w.1;
      later = ap (is_after after) w.2 ∙ later;
    })))

pub no_first : (ns : List Node) (t : IsTrie ns) (after : Option Prefix) → ((j : ℕ) → IsLater ns whole after j → ⊥) →
    first_after (places_in ns) after ≡ None
no_first ns t after none =
    none_first after (fin.entries (places_in ns)) (λ q key.
    let w = key_node ns q (ap is_some (fin.get-entries (places_in ns) q) ∙ key) in
    elim (is_after after q) as (λ b. is_after after q ≡ b → b ≡ false) [
      | true ↦ λ e. absurd (none w.0 (record {
        in_range = w.1;
        valued = w.3;
        covers = t.covered w.0 w.1;
        later = ap (is_after after) w.2 ∙ e;
      }))
      | false ↦ λ e. refl
    ] refl)

-- what the entry of a node says of the map
pub entry_longest : (ns : List Node) (t : IsTrie ns) (a : Addr) (most at : ℕ) (r : Option (Prefix × ℕ)) →
    r ≡ option_map (λ v. (prefix_at ns at, v)) (place_at ns at) → IsDeepest ns 0 (prefix_around a (min most 32)) at
    → IfSome r (λ e. IsLongestMatch (places_in ns) a most e.0 e.1)
entry_longest ns t a most at r is deep =
    subst (λ o. IfSome o (λ e. IsLongestMatch (places_in ns) a most e.0 e.1)) (sym is)
    (elim (place_at ns at) as (λ w. place_at ns at ≡ w →
    IfSome {T = Prefix × ℕ} (option_map (λ v. (prefix_at ns at, v)) w)
    (λ e. IsLongestMatch (places_in ns) a most e.0 e.1)) [
      | None ↦ λ there. tt
      | Some v ↦ λ there. longest_is ns t a most at v deep there
    ] refl)

pub entry_first : (ns : List Node) (t : IsTrie ns) (after : Option Prefix) (at : ℕ) → IsFirstLater ns whole after at →
    option_map (λ v. (prefix_at ns at, v)) (place_at ns at) ≡ first_after (places_in ns) after
entry_first ns t after at f =
    elim (place_at ns at) as (λ w. place_at ns at ≡ w →
    option_map (λ v. (prefix_at ns at, v)) w ≡ first_after (places_in ns) after) [
      | None ↦ λ there. absurd (false≢true (sym (ap is_some there) ∙ f.is.valued))
      | Some v ↦ λ there. sym (first_is ns t after at v f there)
    ] refl

pub node_key : (ns : List Node) (t : IsTrie ns) (at place : ℕ) → at < length ns → place_at ns at ≡ Some place →
    fin.get (places_in ns) (prefix_at ns at) ≡ Some place
node_key ns t at place here is = get_of_nodes ns (prefix_at ns at) ∙ find_at_node ns t (prefix_at ns at) at (here, refl)
    ∙ is

pub entry_key : (ns : List Node) (t : IsTrie ns) (at : ℕ) (r : Option (Prefix × ℕ)) → at < length ns →
    r ≡ option_map (λ v. (prefix_at ns at, v)) (place_at ns at) → IfSome r (λ e. fin.get (places_in ns) e.0 ≡ Some e.1)
entry_key ns t at r here is =
    subst (λ o. IfSome o (λ e. fin.get (places_in ns) e.0 ≡ Some e.1)) (sym is)
    (elim (place_at ns at) as (λ w. place_at ns at ≡ w →
    IfSome {T = Prefix × ℕ} (option_map (λ v. (prefix_at ns at, v)) w)
    (λ e. fin.get (places_in ns) e.0 ≡ Some e.1)) [
      | None ↦ λ there. tt
      | Some v ↦ λ there. node_key ns t at v here there
    ] refl)

-- the closest node has the prefix, or none has
pub near_is : (ns : List Node) (near : ℕ) (q : Prefix) → IsTrie ns → MakePrefix q.addr q.len → IsClosest ns q near →
    (prefix_at ns near).len ≡ q.len → HasPrefix ns near q
near_is ns near q t block n same =
    (n.in_range, one_prefix (prefix_at ns near) q (t.blocks near n.in_range) block n.covers (omega arith))

pub near_get : (ns : List Node) (near : ℕ) (q : Prefix) → IsTrie ns → MakePrefix q.addr q.len → IsClosest ns q near →
    (prefix_at ns near).len ≡ q.len → place_at ns near ≡ fin.get (places_in ns) q
near_get ns near q t block n same =
    sym (get_of_nodes ns q ∙ find_at_node ns t q near (near_is ns near q t block n same))

pub near_none : (ns : List Node) (near : ℕ) (q : Prefix) → IsClosest ns q near → ((prefix_at ns near).len ≡ q.len → ⊥) →
    fin.get (places_in ns) q ≡ None
near_none ns near q n other =
    get_of_nodes ns q ∙ find_missing ns q (λ j lt e.
    let len : (prefix_at ns j).len ≡ q.len = ap (λ p. p.len) e in
    let most = n.last j lt (subst (λ p. Covers p q) (sym e) (covers_itself q)) in
    other (omega (arith, len, most, n.covers.0)))

pub none_in_empty : (ns : List Node) (q : Prefix) → length ns ≡ 0 → fin.get (places_in ns) q ≡ None
none_in_empty ns q none = get_of_nodes ns q ∙ find_missing ns q (λ j lt e. absurd (omega arith))

pub empty_trie : IsTrie []
empty_trie = record {
  blocks = λ i lt. absurd (omega arith);
  unique = λ i j lt also e. absurd (omega arith);
  root = refl;
  covered = λ i lt. absurd (omega arith);
  empty = λ i j u lt also is h. omega arith;
  below = λ i u k lt is. absurd (omega arith);
}
