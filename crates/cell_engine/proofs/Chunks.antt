-- Lists made of chunks, one for each key, in the order of the keys: what becomes of the whole when one chunk changes.
use Rattle.std.proofs.Common.{◌≡◌, Bool, true, false, cond, ◌&&◌, T, List, [], ◌∷◌, ◌++◌, Option, Some, None, refl, sym, ap, subst, ◌∙◌}
use Rattle.std.proofs.lemmas.List.{append-nil}
use Rattle.std.proofs.lemmas.Map.Lookups.{CmpEqualImpliesEq}
use Rattle.std.specs.List.{flat_map}
use Rattle.std.specs.Map.{lookup, remove_entry}
use Rattle.std.specs.BTreeMap.{insert_entry, is_at}
use Rattle.std.specs.declared.cmp.Ordering.{Ordering}
use Rattle.std.specs.declared.cmp.Ordering.TheVariants.{Less, Equal, Greater}
use Rattle.std.specs.Ordering.{match_ordering, is_lt, is_eq}
use Rattle.std.specs.Cmp.{IsTotalOrder}
use Rattle.std.specs.FinMap.Entries.{put, find, below_all, is_sorted, by_order}

pub T_of : (b : Bool) → b ≡ true → T b
T_of b e = subst T (sym e) tt

pub of_T : (b : Bool) → T b → b ≡ true
of_T true t = refl
of_T false t = absurd t

less_of : (o : Ordering) → T (is_lt o) → o ≡ Less
less_of Less e = refl
less_of Equal e = absurd e
less_of Greater e = absurd e

first : (a b : Bool) → T (a && b) → T a
first true b p = tt
first false b p = p

second : (a b : Bool) → T (a && b) → T b
second true b p = p
second false b p = absurd p

-- SIDES OF A KEY

-- each stands on this side of the key to which c compares
abbrev pub Each : {E : Type 0} → (E → Ordering) → Ordering → List E → Type 0
Each c o [] = Unit {0}
Each c o (e ∷ es) = (c e ≡ o) × Each c o es

pub each_append : {E : Type 0} (c : E → Ordering) (o : Ordering) (xs ys : List E) → Each c o xs → Each c o ys →
    Each c o (xs ++ ys)
each_append c o [] ys a b = b
each_append c o (x ∷ xs) ys a b = (a.0, each_append c o xs ys a.1 b)

-- a change at the key: it leaves alone what comes before the key, and what comes after it
pub record IsEdit {E : Type 0} (c : E → Ordering) (g : List E → List E) : Type 0 where
  pub before : (xs ys : List E) → Each c Greater xs → g (xs ++ ys) ≡ xs ++ g ys
  pub past : (xs ys : List E) → Each c Less ys → g (xs ++ ys) ≡ g xs ++ ys

-- a look at the key: it sees neither what comes before the key, nor what comes after it
pub record IsLook {E Y : Type 0} (c : E → Ordering) (g : List E → Y) : Type 0 where
  pub before : (xs ys : List E) → Each c Greater xs → g (xs ++ ys) ≡ g ys
  pub past : (xs ys : List E) → Each c Less ys → g (xs ++ ys) ≡ g xs

-- no change
pub no_edit : {E : Type 0} (c : E → Ordering) → IsEdit c (λ es. es)
no_edit c = record { before = λ xs ys a. refl; past = λ xs ys a. refl }

module _ {K V : Type 0} (cmp : K → K → Ordering) (k : K) where
  -- an entry, seen from the key
  abbrev pub seen : K × V → Ordering
  seen e = cmp k e.0

  insert_before : (v : V) (xs ys : List (K × V)) → Each seen Greater xs →
      insert_entry cmp (xs ++ ys) k v ≡ xs ++ insert_entry cmp ys k v
  insert_before v [] ys a = refl
  insert_before v (x ∷ xs) ys a =
      ap (λ r. match_ordering r ((k, v) ∷ x ∷ (xs ++ ys)) ((x.0, v) ∷ (xs ++ ys)) (x ∷ insert_entry cmp (xs ++ ys) k v))
      a.0
      ∙ ap (λ es. x ∷ es) (insert_before v xs ys a.1)

  insert_first : (v : V) (ys : List (K × V)) → Each seen Less ys → insert_entry cmp ys k v ≡ (k, v) ∷ ys
  insert_first v [] a = refl
  insert_first v (y ∷ ys) a =
      ap (λ r. match_ordering r ((k, v) ∷ y ∷ ys) ((y.0, v) ∷ ys) (y ∷ insert_entry cmp ys k v)) a.0

  insert_past : (v : V) (xs ys : List (K × V)) → Each seen Less ys →
      insert_entry cmp (xs ++ ys) k v ≡ insert_entry cmp xs k v ++ ys
  insert_past v [] ys a = insert_first v ys a
  insert_past v (x ∷ xs) ys a =
      elim (cmp k x.0) as (λ r. match_ordering r ((k, v) ∷ x ∷ (xs ++ ys)) ((x.0, v) ∷ (xs ++ ys))
      (x ∷ insert_entry cmp (xs ++ ys) k v) ≡ match_ordering r ((k, v) ∷ x ∷ xs) ((x.0, v) ∷ xs)
      (x ∷ insert_entry cmp xs k v) ++ ys) [
        | Less ↦ refl
        | Equal ↦ refl
        | Greater ↦ ap (λ es. x ∷ es) (insert_past v xs ys a)
      ]

  -- an entry put in
  pub insert_edit : (v : V) → IsEdit seen (λ es. insert_entry cmp es k v)
  insert_edit v = record { before = insert_before v; past = insert_past v }

  remove_before : (xs ys : List (K × V)) → Each seen Greater xs → remove_entry (is_at (cmp k)) (xs ++ ys) ≡ xs
      ++ remove_entry (is_at (cmp k)) ys
  remove_before [] ys a = refl
  remove_before (x ∷ xs) ys a =
      ap (λ r. cond (is_eq r) (xs ++ ys) (x ∷ remove_entry (is_at (cmp k)) (xs ++ ys))) a.0
      ∙ ap (λ es. x ∷ es) (remove_before xs ys a.1)

  remove_none : (ys : List (K × V)) → Each seen Less ys → remove_entry (is_at (cmp k)) ys ≡ ys
  remove_none [] a = refl
  remove_none (y ∷ ys) a = ap (λ r. cond (is_eq r) ys (y ∷ remove_entry (is_at (cmp k)) ys)) a.0
      ∙ ap (λ es. y ∷ es) (remove_none ys a.1)

  remove_past : (xs ys : List (K × V)) → Each seen Less ys →
      remove_entry (is_at (cmp k)) (xs ++ ys) ≡ remove_entry (is_at (cmp k)) xs ++ ys
  remove_past [] ys a = remove_none ys a
  remove_past (x ∷ xs) ys a =
      elim (is_eq (cmp k x.0)) as (λ b. cond b (xs ++ ys) (x ∷ remove_entry (is_at (cmp k)) (xs ++ ys))
      ≡ cond b xs (x ∷ remove_entry (is_at (cmp k)) xs) ++ ys) [
        | true ↦ refl
        | false ↦ ap (λ es. x ∷ es) (remove_past xs ys a)
      ]

  -- the entry of the key taken out
  pub remove_edit : IsEdit seen (remove_entry (is_at (cmp k)))
  remove_edit = record { before = remove_before; past = remove_past }

  lookup_before : (xs ys : List (K × V)) → Each seen Greater xs →
      lookup (is_at (cmp k)) (xs ++ ys) ≡ lookup (is_at (cmp k)) ys
  lookup_before [] ys a = refl
  lookup_before (x ∷ xs) ys a = ap (λ r. cond (is_eq r) (Some x.1) (lookup (is_at (cmp k)) (xs ++ ys))) a.0
      ∙ lookup_before xs ys a.1

  lookup_none : (ys : List (K × V)) → Each seen Less ys → lookup (is_at (cmp k)) ys ≡ None
  lookup_none [] a = refl
  lookup_none (y ∷ ys) a = ap (λ r. cond (is_eq r) (Some y.1) (lookup (is_at (cmp k)) ys)) a.0 ∙ lookup_none ys a.1

  lookup_past : (xs ys : List (K × V)) → Each seen Less ys →
      lookup (is_at (cmp k)) (xs ++ ys) ≡ lookup (is_at (cmp k)) xs
  lookup_past [] ys a = lookup_none ys a
  lookup_past (x ∷ xs) ys a = ap (cond (is_eq (cmp k x.0)) (Some x.1)) (lookup_past xs ys a)

  -- the value of the key
  pub lookup_look : IsLook seen (lookup (is_at (cmp k)))
  lookup_look = record { before = lookup_before; past = lookup_past }

-- CHUNKS

abbrev pub flat : {E K X : Type 0} → (K → X → List E) → List (K × X) → List E
flat f es = flat_map (λ e. f e.0 e.1) es

-- the chunk of the key, where it has a value
abbrev pub chunk : {E K X : Type 0} → (K → X → List E) → K → Option X → List E
chunk f q None = []
chunk f q (Some x) = f q x

-- a chunk of another key lies wholly on the side of its key
pub record IsChunked {E K X : Type 0} (c : E → Ordering) (R : K → K → Ordering) (f : K → X →
    List E) (q : K) : Type 0 where
  pub total : IsTotalOrder R
  pub exact : CmpEqualImpliesEq R
  pub less : (k : K) (x : X) → R q k ≡ Less → Each c Less (f k x)
  pub greater : (k : K) (x : X) → R q k ≡ Greater → Each c Greater (f k x)

module _ {E K X : Type 0} {c : E → Ordering} {R : K → K → Ordering} {f : K → X →
    List E} {q : K} (chunked : IsChunked c R f q) where
  find_below : (y : K) (es : List (K × X)) → T (below_all R y es) → find R y es ≡ None
  find_below y [] h = refl
  find_below y (e ∷ es) h = ap (λ r. cond (is_eq r) (Some e.1) (find R y es)) (less_of _ (first _ _ h))
      ∙ find_below y es (second _ _ h)

  below_less : (x y : K) (es : List (K × X)) → R x y ≡ Less → T (below_all R y es) → T (below_all R x es)
  below_less x y [] p h = tt
  below_less x y (e ∷ es) p h =
      let a : R x e.0 ≡ Less = chunked.total.trans x y e.0 p (less_of _ (first _ _ h)) in
      subst (λ r. T (is_lt r && below_all R x es)) (sym a) (below_less x y es p (second _ _ h))

  below_same : (x y : K) (es : List (K × X)) → R x y ≡ Equal → T (below_all R y es) → T (below_all R x es)
  below_same x y es p h = subst (λ k. T (below_all R k es)) (sym (chunked.exact x y p)) h

  all_less : (es : List (K × X)) → T (below_all R q es) → Each c Less (flat f es)
  all_less [] h = tt
  all_less (e ∷ es) h = each_append c Less (f e.0 e.1) (flat f es) (chunked.less e.0 e.1 (less_of _ (first _ _ h)))
      (all_less es (second _ _ h))

  less_from : (e : K × X) (es : List (K × X)) → R q e.0 ≡ Less → T (is_sorted R (e ∷ es)) →
      Each c Less (flat f (e ∷ es))
  less_from e es p h = each_append c Less (f e.0 e.1) (flat f es) (chunked.less e.0 e.1 p)
      (all_less es (below_less q e.0 es p (first _ _ h)))

  found_at : (r : Ordering) (e : K × X) (es : List (K × X)) → R q e.0 ≡ r →
      find R q (e ∷ es) ≡ cond (is_eq r) (Some e.1) (find R q es)
  found_at r e es p = ap (λ r. cond (is_eq r) (Some e.1) (find R q es)) p

  none_at : (e : K × X) (es : List (K × X)) → R q e.0 ≡ Less → T (is_sorted R (e ∷ es)) → find R q (e ∷ es) ≡ None
  none_at e es p h = found_at Less e es p ∙ find_below q es (below_less q e.0 es p (first _ _ h))

  -- a value put in at the key changes the whole as it changes the chunk of the key
  pub flat_put : {g : List E → List E} → IsEdit c g → (v : X) (es : List (K × X)) → T (is_sorted R es) →
      f q v ≡ g (chunk f q (find R q es)) → flat f (put R q v es) ≡ g (flat f es)
  flat_put {g} edit v [] h is = append-nil (f q v) ∙ is
  flat_put {g} edit v (e ∷ es) h is =
      elim (R q e.0) as (λ r. R q e.0 ≡ r → flat f (by_order r ((q, v) ∷ e ∷ es) ((e.0, v) ∷ es) (e ∷ put R q v es))
      ≡ g (flat f (e ∷ es))) [
        | Less ↦ λ p.
            let alone : f q v ≡ g [] = is ∙ ap (λ x. g (chunk f q x)) (none_at e es p h) in
            ap (λ l. l ++ flat f (e ∷ es)) alone ∙ sym (edit.past [] (flat f (e ∷ es)) (less_from e es p h))
        | Equal ↦ λ p.
            let here : f q v ≡ g (f q e.1) = is ∙ ap (λ x. g (chunk f q x)) (found_at Equal e es p) in
            ap (λ k. f k v ++ flat f es) (sym (chunked.exact q e.0 p))
            ∙ ap (λ l. l ++ flat f es) here
            ∙ ap (λ k. g (f k e.1) ++ flat f es) (chunked.exact q e.0 p)
            ∙ sym (edit.past (f e.0 e.1) (flat f es) (all_less es (below_same q e.0 es p (first _ _ h))))
        | Greater ↦ λ p.
            let later : f q v ≡ g (chunk f q (find R q es)) = is
            ∙ ap (λ x. g (chunk f q x)) (found_at Greater e es p) in
            ap (λ l. f e.0 e.1 ++ l) (flat_put edit v es (second (below_all R e.0 es) (is_sorted R es) h) later)
            ∙ sym (edit.before (f e.0 e.1) (flat f es) (chunked.greater e.0 e.1 p))
      ] refl

  -- a look at the whole sees the chunk of the key
  pub flat_at : {Y : Type 0} {g : List E → Y} → IsLook c g → (es : List (K × X)) → T (is_sorted R es) →
      g (flat f es) ≡ g (chunk f q (find R q es))
  flat_at {g = g} look [] h = refl
  flat_at {g = g} look (e ∷ es) h =
      elim (R q e.0) as (λ r. R q e.0 ≡ r →
      g (flat f (e ∷ es)) ≡ g (chunk f q (cond (is_eq r) (Some e.1) (find R q es)))) [
        | Less ↦ λ p.
            look.past [] (flat f (e ∷ es)) (less_from e es p h)
            ∙ ap (λ x. g (chunk f q x)) (sym (find_below q es (below_less q e.0 es p (first _ _ h))))
        | Equal ↦ λ p.
            look.past (f e.0 e.1) (flat f es) (all_less es (below_same q e.0 es p (first _ _ h)))
            ∙ ap (λ k. g (f k e.1)) (sym (chunked.exact q e.0 p))
        | Greater ↦ λ p.
            look.before (f e.0 e.1) (flat f es) (chunked.greater e.0 e.1 p)
            ∙ flat_at look es (second (below_all R e.0 es) (is_sorted R es) h)
      ] refl
