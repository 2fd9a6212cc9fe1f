-- What the trees that move change of those that are carried over.
use Rattle.std.proofs.Common.{◌≡◌, ℕ, zero, suc, ◌+◌, ◌<◌, Bool, true, false, cond, ◌||◌, List, [], ◌∷◌, ◌++◌, map, fold, take, length, get_or, Option, Some, None, option_map, is_some, All, refl, sym, ap, ◌∙◌, arith}
use Rattle.std.specs.List.{AllByRecursion, list_any}
use Rattle.std.specs.Option.{option_or}
use Rattle.std.specs.List.Sorted.{IsStrictlySortedBy}
use Rattle.std.specs.Map.{keys_of, lookup}
use Rattle.std.specs.BTreeMap.{insert_entry, is_at}
use Rattle.std.specs.BTreeSet.{insert_key}
use Rattle.std.proofs.lemmas.Bool.{true≢false}
use Rattle.std.proofs.lemmas.Cmp.{eq_by_cmp_equiv}
use Rattle.std.proofs.lemmas.List.{map-append, append-nil, take_more}
use Rattle.std.proofs.lemmas.List.Concat.{flat_map-append}
use Rattle.std.proofs.lemmas.List.Elements.{All-cons, All-head, All-tail, All-push}
use Rattle.std.proofs.lemmas.List.Folds.{list_any_more, list_any-append}
use Rattle.std.proofs.lemmas.Map.Entries.{lookup_from_place}
use Rattle.std.proofs.lemmas.Map.Keys.{IsDistinct-from_sorted}
use Rattle.std.proofs.lemmas.Option.{slice_get-get_or}
use Rattle.net_prefix.specs.declared.addr.Addr.{Addr}
use Rattle.net_prefix.specs.Address.{addr_cmp}
use Rattle.net_prefix.specs.Orders.{addr_exact, addr_total}
use Rattle.shared_map.specs.EntryChunks.{entries_in}
use Rattle.igp_cost.specs.declared.change.Change.{Change}
use Rattle.igp_cost.specs.Topology.{Topology}
use Rattle.igp_cost.specs.Trees.{Reached, source_of, tree_of}
use Rattle.igp_cost.specs.Walks.{Nodes, Edges}
use Rattle.net_conf.specs.Concerned.{is_among}
use Rattle.net_conf.specs.Kept.{WereTrees, WasTreeOf}
use Rattle.net_conf.specs.MovedTrees.{MovedTree, AreMoved, owners, tree_after, with_tree, with_source}
use Rattle.net_conf.proofs.Inserted.{any_key, found_in}
use Rattle.net_conf.proofs.KeptTrees.{equal_when}

pub both_false : (a b : Bool) → (a || b) ≡ false → (a ≡ false) × (b ≡ false)
both_false true b is = absurd (true≢false is)
both_false false b is = (refl, is)

pub one_address : (r a : Addr) → is_at (addr_cmp r) a ≡ true → r ≡ a
one_address r a at = addr_exact r a (equal_when (addr_cmp r a) at)

module _ {V : Type 0} (f : Addr → V) (a : Addr) (v : V) (is : v ≡ f a) where
  -- what is found after the address's own is put in
  pub put : (es : List (Addr × V)) (r : Addr) → lookup (is_at (addr_cmp r)) (insert_entry addr_cmp es a v)
      ≡ cond (is_at (addr_cmp r) a) (Some (f r)) (lookup (is_at (addr_cmp r)) es)
  put es r = found_in addr_cmp addr_exact a v addr_total r es ∙ by (is_at (addr_cmp r) a) refl
    where
      by : (t : Bool) → is_at (addr_cmp r) a ≡ t → cond t (Some v) (lookup (is_at (addr_cmp r)) es)
          ≡ cond t (Some (f r)) (lookup (is_at (addr_cmp r)) es)
      by true at = ap Some (is ∙ ap f (sym (one_address r a at)))
      by false at = refl

-- who is not among them with one more is not among them, and is not that one
pub not_among : (a : Addr) (ks new : List Addr) → new ≡ insert_key addr_cmp ks a → (r : Addr) → is_among r new ≡ false →
    (is_at (addr_cmp r) a ≡ false) × (is_among r ks ≡ false)
not_among a ks new is r out =
    both_false _ _ (sym (ap (is_among r) is ∙ any_key addr_cmp addr_exact a (is_at (addr_cmp r)) ks) ∙ out)

-- what passes among the first and one more passes among the first, or is that one
pub either_one : {K : Type 0} (test : K → Bool) (xs : List K) (i : ℕ) (d : K) → i < length xs → {P : Type 0} →
    (list_any test (take i xs) ≡ true → P) → (test (get_or xs i d) ≡ true → P) →
    list_any test (take (i + 1) xs) ≡ true → P
either_one test xs i d lt {P} first last any = by (list_any test (take i xs)) (test (get_or xs i d)) refl refl
    (sym (list_any_more test xs i d lt) ∙ any)
  where
    by : (t u : Bool) → list_any test (take i xs) ≡ t → test (get_or xs i d) ≡ u → (t || u) ≡ true → P
    by true u is is' both = first is
    by false u is is' both = last (is' ∙ both)

-- THE TREES THAT MAY MOVE

-- an entry in order is what its key finds
pub was_at : (change : Change) (nodes : Nodes) (edges : Edges) (es : List (Addr × Reached)) →
    IsStrictlySortedBy addr_cmp (keys_of es) → WereTrees change nodes edges es → (i : ℕ) (d : Addr × Reached) →
    i < length es → WasTreeOf change nodes edges (get_or es i d).0 (get_or es i d).1
was_at change nodes edges es sorted were i d lt =
    let e = get_or es i d in
    were e.0 e.1 (lookup_from_place (eq_by_cmp_equiv addr_total) es i e.0 e.1
    (IsDistinct-from_sorted addr_cmp (keys_of es) sorted) (slice_get-get_or es i d lt))

-- what holds at each position holds of all, and of all of each chunk
pub all_from_each : {X : Type 0} (P : X → Type 0) (xs : List X) →
    ((i : ℕ) (d : X) → i < length xs → P (get_or xs i d)) → AllByRecursion P xs
all_from_each P [] each = tt
all_from_each P (x ∷ xs) each = (each 0 x (omega arith), all_from_each P xs (λ i d lt. each (suc i) d (omega arith)))

pub each_from_all : {X : Type 0} (P : X → Type 0) (xs : List X) (i : ℕ) (d : X) → AllByRecursion P xs →
    i < length xs → P (get_or xs i d)
each_from_all P [] i d all lt = absurd (omega arith)
each_from_all P (x ∷ xs) zero d all lt = all.0
each_from_all P (x ∷ xs) (suc i) d all lt = each_from_all P xs i d all.1 (omega arith)

all_front : {X : Type 0} (P : X → Type 0) (xs ys : List X) → AllByRecursion P (xs ++ ys) → AllByRecursion P xs
all_front P [] ys all = tt
all_front P (x ∷ xs) ys all = (all.0, all_front P xs ys all.1)

all_back : {X : Type 0} (P : X → Type 0) (xs ys : List X) → AllByRecursion P (xs ++ ys) → AllByRecursion P ys
all_back P [] ys all = all
all_back P (x ∷ xs) ys all = all_back P xs ys all.1

pub all_of_chunk : {K V : Type 0} (P : K × V → Type 0) (cs : List (List (K × V))) (i : ℕ) (d : List (K × V)) →
    AllByRecursion P (entries_in cs) → i < length cs → AllByRecursion P (get_or cs i d)
all_of_chunk P [] i d all lt = absurd (omega arith)
all_of_chunk P (c ∷ cs) zero d all lt = all_front P c (entries_in cs) all
all_of_chunk P (c ∷ cs) (suc i) d all lt = all_of_chunk P cs i d (all_back P c (entries_in cs) all) (omega arith)

-- the entries of one chunk more
pub one_chunk_more : {K V : Type 0} (cs : List (List (K × V))) (i : ℕ) (d : List (K × V)) → i < length cs →
    entries_in (take (i + 1) cs) ≡ entries_in (take i cs) ++ get_or cs i d
one_chunk_more cs i d lt = ap entries_in (take_more cs i d lt)
    ∙ flat_map-append (λ es. es) (take i cs) (get_or cs i d ∷ [])
    ∙ ap (λ es. entries_in (take i cs) ++ es) (append-nil (get_or cs i d))

found_behind : {K V : Type 0} (test : K → Bool) (es : List (K × V)) (k : K) (v : V) →
    lookup test (es ++ (k, v) ∷ []) ≡ option_or (lookup test es) (cond (test k) (Some v) None)
found_behind test [] k v = refl
found_behind test (e ∷ es) k v = by (test e.0) (found_behind test es k v)
  where
    by : (t : Bool) → lookup test (es ++ (k, v) ∷ []) ≡ option_or (lookup test es) (cond (test k) (Some v) None) →
        cond t (Some e.1) (lookup test (es ++ (k, v) ∷ [])) ≡ option_or (cond t (Some e.1) (lookup test es))
        (cond (test k) (Some v) None)
    by true rest = refl
    by false rest = rest

-- what is found, or else this one
there_or : {V : Type 0} (o : Option V) (t : Bool) (v : V) (among : Bool) → (among ≡ true → is_some o ≡ true) →
    (among || (t || false)) ≡ true → is_some (option_or o (cond t (Some v) None)) ≡ true
there_or (Some x) t v among there is = refl
there_or None true v among there is = refl
there_or None false v true there is = there refl
there_or None false v false there is = is

all_new : {V : Type 0} (o : Option V) (t : Bool) (v new : V) → o ≡ option_map (λ x. new) o → (t ≡ true → v ≡ new) →
    option_or o (cond t (Some v) None) ≡ option_map (λ x. new) (option_or o (cond t (Some v) None))
all_new (Some x) t v new is same = is
all_new None true v new is same = ap Some (same refl)
all_new None false v new is same = refl

module _ (graph : Topology) where
  abbrev new_tree : Addr → Reached
  new_tree r = tree_of graph.nodes graph.edges r

  pub none_moved : AreMoved graph [] []
  none_moved = record {
    graphs = λ k d lt. absurd (omega (arith, lt));
    there = λ r is. absurd (true≢false (sym is));
    others = λ r out. refl;
  }

  -- with a tree that stays
  pub one_stays : (es : List (Addr × Reached)) (moved : List MovedTree) (k : Addr) (t : Reached) →
      AreMoved graph es moved → t ≡ new_tree k → AreMoved graph (es ++ (k, t) ∷ []) moved
  one_stays es moved k t so_far same = record {
    graphs = so_far.graphs;
    there = λ r is.
        ap is_some (found_behind (is_at (addr_cmp r)) es k t)
        ∙ there_or (lookup (is_at (addr_cmp r)) es) (is_at (addr_cmp r) k) t true (λ among. so_far.there r is) refl;
    others = λ r out.
        let found = found_behind (is_at (addr_cmp r)) es k t in
        found
        ∙ all_new (lookup (is_at (addr_cmp r)) es) (is_at (addr_cmp r) k) t (new_tree r) (so_far.others r out)
        (λ at. same ∙ ap new_tree (sym (one_address r k at)))
        ∙ ap (option_map (λ x. new_tree r)) (sym found);
  }

  owners_with : (r : Addr) (moved : List MovedTree) (x : MovedTree) →
      is_among r (owners (moved ++ x ∷ []))
      ≡ (is_among r (owners moved) || (is_at (addr_cmp r) (source_of x.tree) || false))
  owners_with r moved x = ap (is_among r) (map-append (λ (y : MovedTree). source_of y.tree) moved (x ∷ []))
      ∙ list_any-append (is_at (addr_cmp r)) (owners moved) (source_of x.tree ∷ [])

  -- with a tree that may move
  pub one_moves : (es : List (Addr × Reached)) (moved : List MovedTree) (k : Addr) (x : MovedTree) →
      AreMoved graph es moved → x.graph ≡ graph → source_of x.tree ≡ k →
      AreMoved graph (es ++ (k, x.tree) ∷ []) (moved ++ x ∷ [])
  one_moves es moved k x so_far of source = record {
    graphs = All-push (λ (y : MovedTree). y.graph ≡ graph) moved x so_far.graphs of;
    there = λ r is.
        ap is_some (found_behind (is_at (addr_cmp r)) es k x.tree)
        ∙ there_or (lookup (is_at (addr_cmp r)) es) (is_at (addr_cmp r) k) x.tree
        (is_among r (owners moved)) (so_far.there r)
        (ap (λ s. is_among r (owners moved) || (is_at (addr_cmp r) s || false)) (sym source)
        ∙ sym (owners_with r moved x) ∙ is);
    others = λ r out.
        let found = found_behind (is_at (addr_cmp r)) es k x.tree in
        let apart = both_false (is_among r (owners moved)) _ (sym (owners_with r moved x) ∙ out) in
        let other : is_at (addr_cmp r) k ≡ false = ap (is_at (addr_cmp r)) (sym source)
        ∙ (both_false (is_at (addr_cmp r) (source_of x.tree)) false apart.1).0 in
        found
        ∙ all_new (lookup (is_at (addr_cmp r)) es) (is_at (addr_cmp r) k) x.tree (new_tree r) (so_far.others r apart.0)
        (λ at. absurd (true≢false (sym at ∙ other)))
        ∙ ap (option_map (λ y. new_tree r)) (sym found);
  }

-- THE TREES WITH WHAT MOVED

source_after : (nodes : Nodes) (edges : Edges) (r : Addr) → source_of (tree_of nodes edges r) ≡ r
unfolding tree_of
source_after nodes edges r = refl

-- the sources of what becomes of them
sources_after : (moved : List MovedTree) → map source_of (map tree_after moved) ≡ owners moved
sources_after [] = refl
sources_after (x ∷ moved) = λ i. source_after x.graph.nodes x.graph.edges (source_of x.tree) i ∷ sources_after moved i

-- whom the set of sources holds
pub among_sources : (r : Addr) (made : List Reached) (ks : List Addr) →
    is_among r (fold with_source ks made) ≡ (is_among r (map source_of made) || is_among r ks)
among_sources r [] ks = refl
among_sources r (t ∷ made) ks =
    among_sources r made (with_source ks t)
    ∙ ap (λ b. is_among r (map source_of made) || b) (any_key addr_cmp addr_exact (source_of t) (is_at (addr_cmp r)) ks)
    ∙ turned (is_among r (map source_of made)) (is_at (addr_cmp r) (source_of t)) (is_among r ks)
  where
    turned : (a b c : Bool) → (a || (b || c)) ≡ ((b || a) || c)
    turned true true c = refl
    turned true false c = refl
    turned false true c = refl
    turned false false c = refl

-- what is found, once these trees of the graph are put in
pub found_after : (graph : Topology) (r : Addr) (made : List Reached) (es : List (Addr × Reached)) →
    All (λ t. t ≡ new_tree graph (source_of t)) made → lookup (is_at (addr_cmp r)) (fold with_tree es made)
    ≡ cond (is_among r (map source_of made)) (Some (new_tree graph r)) (lookup (is_at (addr_cmp r)) es)
found_after graph r [] es all = refl
found_after graph r (t ∷ made) es all =
    found_after graph r made (with_tree es t) (All-tail (λ x. x ≡ new_tree graph (source_of x)) t made all)
    ∙ ap (cond (is_among r (map source_of made)) (Some (new_tree graph r)))
    (put (new_tree graph) (source_of t) t (All-head (λ x. x ≡ new_tree graph (source_of x)) t made all) es r)
    ∙ either (is_among r (map source_of made)) (is_at (addr_cmp r) (source_of t))
  where
    either : (a b : Bool) → cond a (Some (new_tree graph r))
        (cond b (Some (new_tree graph r)) (lookup (is_at (addr_cmp r)) es)) ≡ cond (b || a) (Some (new_tree graph r))
        (lookup (is_at (addr_cmp r)) es)
    either true true = refl
    either true false = refl
    either false true = refl
    either false false = refl

-- what becomes of trees of the graph are trees of it
made_of_graph : (graph : Topology) (moved : List MovedTree) → All (λ x. x.graph ≡ graph) moved →
    All (λ t. t ≡ new_tree graph (source_of t)) (map tree_after moved)
made_of_graph graph [] all = λ k d lt. absurd (omega (arith, lt))
made_of_graph graph (x ∷ moved) all =
    let here : x.graph ≡ graph = All-head (λ (y : MovedTree). y.graph ≡ graph) x moved all in
    let is : tree_after x ≡ new_tree graph (source_of (tree_after x)) =
    ap (λ (g : Topology). tree_of g.nodes g.edges (source_of x.tree)) here
    ∙ ap (new_tree graph) (sym (source_after x.graph.nodes x.graph.edges (source_of x.tree))) in
    All-cons (λ t. t ≡ new_tree graph (source_of t)) (tree_after x) (map tree_after moved) is
    (made_of_graph graph moved (All-tail (λ (y : MovedTree). y.graph ≡ graph) x moved all))

-- what is found of the trees with what moved
pub found_moved : (graph : Topology) (es : List (Addr × Reached)) (moved : List MovedTree) →
    All (λ x. x.graph ≡ graph) moved → (r : Addr) →
    lookup (is_at (addr_cmp r)) (fold with_tree es (map tree_after moved)) ≡ cond (is_among r (owners moved))
    (Some (new_tree graph r)) (lookup (is_at (addr_cmp r)) es)
found_moved graph es moved graphs r =
    found_after graph r (map tree_after moved) es (made_of_graph graph moved graphs)
    ∙ ap (λ ks. cond (is_among r ks) (Some (new_tree graph r)) (lookup (is_at (addr_cmp r)) es)) (sources_after moved)

pub one_carried : (new : Reached) (among : Bool) (o : Option Reached) → (among ≡ true → is_some o ≡ true) →
    (among ≡ false → o ≡ option_map (λ t. new) o) → cond among (Some new) o ≡ option_map (λ t. new) o
one_carried new true (Some x) there others = refl
one_carried new true None there others = absurd (true≢false (sym (there refl)))
one_carried new false o there others = others refl

-- who is not among those that are told has none that moved
pub not_owner : (moved : List MovedTree) (r : Addr) → is_among r (fold with_source [] (map tree_after moved)) ≡ false →
    is_among r (owners moved) ≡ false
not_owner moved r out =
    let none = both_false (is_among r (map source_of (map tree_after moved))) false
    (sym (among_sources r (map tree_after moved) []) ∙ out) in
    sym (ap (is_among r) (sources_after moved)) ∙ none.0

module _ (graph : Topology) (es : List (Addr × Reached)) (moved : List MovedTree)
    (are : AreMoved graph es moved) (r : Addr) where
  abbrev carried : Option Reached
  carried = lookup (is_at (addr_cmp r)) (fold with_tree es (map tree_after moved))

  abbrev was : Option Reached
  was = lookup (is_at (addr_cmp r)) es

  -- each that has a tree has that of the graph
  pub all_carried : carried ≡ option_map (λ t. new_tree graph r) was
  all_carried = found_moved graph es moved are.graphs r
      ∙ one_carried (new_tree graph r) (is_among r (owners moved)) was (are.there r) (are.others r)

  -- and who is not among the sources has that from before
  pub others_carried : is_among r (fold with_source [] (map tree_after moved)) ≡ false → carried ≡ was
  others_carried out = found_moved graph es moved are.graphs r
      ∙ ap (λ b. cond b (Some (new_tree graph r)) was) (not_owner moved r out)
