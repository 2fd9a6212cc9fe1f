-- What the first difference of two lists of routes tells.
use Rattle.std.proofs.Common.{◌≡◌, Bool, true, false, ◌&&◌, cond, List, [], ◌∷◌, Option, Some, None, if◌then◌else◌, refl, sym, ap, ◌∙◌, subst}
use Rattle.std.proofs.lemmas.Bool.{true≢false}
use Rattle.std.proofs.lemmas.Option.{none-some, same_Some}
use Rattle.std.proofs.lemmas.Map.{lookup-none}
use Rattle.std.proofs.lemmas.Map.Entries.{lookup_head, lookup_tail, none_below_head}
use Rattle.std.proofs.lemmas.Cmp.{tied_itself}
use Rattle.std.specs.Cmp.{unsigned_Decides, first_so, second_so}
use Rattle.std.specs.List.{AllByRecursion}
use Rattle.std.specs.List.Sorted.{IsStrictlySortedBy}
use Rattle.std.specs.Map.{keys_of}
use Rattle.std.specs.BTreeMap.{is_at}
use Rattle.std.specs.declared.cmp.Ordering.{Ordering}
use Rattle.std.specs.declared.cmp.Ordering.TheVariants.{Less, Equal, Greater}
use Rattle.std.specs.Ordering.{is_eq, is_lt, ordering_reverse}
use Rattle.net_prefix.specs.declared.addr.Addr.{Addr}
use Rattle.net_prefix.specs.Address.{same_addr, addr_cmp}
use Rattle.net_prefix.specs.Orders.{addr_total, addr_exact}
use Rattle.path_attr.specs.declared.attr.Attr.{Attr}
use Rattle.path_attr.specs.Attribute.{same_attr}
use Rattle.path_attr.specs.Sameness.{attrs_exact}
use Rattle.cell_engine.specs.Cells.{route_of}
use Rattle.cell_engine.specs.Senders.{AreInOrder}
use Rattle.room.specs.Differences.{same_route, lower, first_difference}

addr_true : (a b : Addr) → same_addr a b ≡ true → a ≡ b
addr_true a b h = ap (λ n. record { 0 = n }) ((unsigned_Decides a.0 b.0).0 h)

addr_itself : (a : Addr) → same_addr a a ≡ true
addr_itself a = (unsigned_Decides a.0 a.0).1 refl

route_true : (x y : Addr × Attr) → same_route x y ≡ true → (x.0 ≡ y.0) × (x.1 ≡ y.1)
route_true x y h = (
  addr_true x.0 y.0 (first_so (same_addr x.0 y.0) (same_attr x.1 y.1) h),
  (attrs_exact x.1 y.1).0 (second_so (same_addr x.0 y.0) (same_attr x.1 y.1) h),
)

route_itself : (x : Addr × Attr) → same_route x x ≡ true
route_itself x = λ i. addr_itself x.0 i && (attrs_exact x.1 x.1).1 refl i

some_is_none : {A : Type 0} (o : Option A) (a : A) → o ≡ Some a → o ≡ None → ⊥
some_is_none o a some none = none-some a (sym none ∙ some)

-- THE SAME

same_step : (b : Bool) (x y : Addr × Attr) (xs ys : List (Addr × Attr)) → same_route x y ≡ b →
    (if b then first_difference xs ys else Some (lower x.0 y.0)) ≡ None → (first_difference xs ys ≡ None → xs ≡ ys) →
    x ∷ xs ≡ y ∷ ys
same_step true x y xs ys is none later =
    let parts = route_true x y is in
    let rest = later none in
    λ i. (parts.0 i, parts.1 i) ∷ rest i
same_step false x y xs ys is none later = absurd (none-some (lower x.0 y.0) (sym none))

-- lists that differ nowhere are the same
pub same_lists : (xs ys : List (Addr × Attr)) → first_difference xs ys ≡ None → xs ≡ ys
same_lists [] [] none = refl
same_lists (x ∷ xs) [] none = absurd (none-some x.0 (sym none))
same_lists [] (y ∷ ys) none = absurd (none-some y.0 (sym none))
same_lists (x ∷ xs) (y ∷ ys) none = same_step (same_route x y) x y xs ys refl none (same_lists xs ys)

-- ANOTHER ROUTE

-- the address comes before all senders
abbrev IsAbove : Addr → List (Addr × Attr) → Type 0
IsAbove a xs = AllByRecursion (λ k. addr_cmp a k ≡ Less) (keys_of xs)

lower_above : (a : Addr) (b : Bool) (u v w : Addr) → addr_cmp a u ≡ Less → addr_cmp a v ≡ Less →
    Some (if b then u else v) ≡ Some w → addr_cmp a w ≡ Less
lower_above a true u v w hu hv is = subst (λ x. addr_cmp a x ≡ Less) (same_Some u w is) hu
lower_above a false u v w hu hv is = subst (λ x. addr_cmp a x ≡ Less) (same_Some v w is) hv

above_step : (a w : Addr) (b : Bool) (x y : Addr × Attr) (xs ys : List (Addr × Attr)) → addr_cmp a x.0 ≡ Less →
    addr_cmp a y.0 ≡ Less → (if b then first_difference xs ys else Some (lower x.0 y.0)) ≡ Some w →
    (first_difference xs ys ≡ Some w → addr_cmp a w ≡ Less) → addr_cmp a w ≡ Less
above_step a w true x y xs ys hx hy is later = later is
above_step a w false x y xs ys hx hy is later = lower_above a (is_lt (addr_cmp x.0 y.0)) x.0 y.0 w hx hy is

above_found : (a w : Addr) (xs ys : List (Addr × Attr)) → IsAbove a xs → IsAbove a ys →
    first_difference xs ys ≡ Some w → addr_cmp a w ≡ Less
above_found a w [] [] hx hy is = absurd (none-some w is)
above_found a w (x ∷ xs) [] hx hy is = subst (λ u. addr_cmp a u ≡ Less) (same_Some x.0 w is) hx.0
above_found a w [] (y ∷ ys) hx hy is = subst (λ u. addr_cmp a u ≡ Less) (same_Some y.0 w is) hy.0
above_found a w (x ∷ xs) (y ∷ ys) hx hy is = above_step a w (same_route x y) x y xs ys hx.0 hy.0 is
    (above_found a w xs ys hx.1 hy.1)

at_head : (x : Addr × Attr) (xs : List (Addr × Attr)) → route_of (x ∷ xs) x.0 ≡ Some x.1
at_head x xs = lookup_head (is_at (addr_cmp x.0)) x xs (ap is_eq (tied_itself addr_total x.0))

below_head : (u : Addr) (x : Addr × Attr) (xs : List (Addr × Attr)) → AreInOrder (x ∷ xs) → addr_cmp u x.0 ≡ Less →
    route_of (x ∷ xs) u ≡ None
below_head u x xs ordered less =
    lookup-none (is_at (addr_cmp u)) (x ∷ xs) (none_below_head addr_total u x xs ordered less)

past_head : (w : Addr) (x : Addr × Attr) (xs : List (Addr × Attr)) → addr_cmp x.0 w ≡ Less →
    route_of (x ∷ xs) w ≡ route_of xs w
past_head w x xs less = lookup_tail (is_at (addr_cmp w)) x xs
    (ap is_eq (addr_total.antisymm w x.0 ∙ ap ordering_reverse less))

-- the first entries are other routes
other_heads : (o : Ordering) (x y : Addr × Attr) (xs ys : List (Addr × Attr)) → addr_cmp x.0 y.0 ≡ o →
    AreInOrder (x ∷ xs) → AreInOrder (y ∷ ys) → same_route x y ≡ false → (w : Addr) →
    Some (if is_lt o then x.0 else y.0) ≡ Some w → route_of (x ∷ xs) w ≡ route_of (y ∷ ys) w → ⊥
other_heads Less x y xs ys is ox oy other w at same =
    let here : x.0 ≡ w = same_Some x.0 w at in
    some_is_none (route_of (y ∷ ys) w) x.1 (sym same ∙ subst (λ u. route_of (x ∷ xs) u ≡ Some x.1) here (at_head x xs))
    (subst (λ u. route_of (y ∷ ys) u ≡ None) here (below_head x.0 y ys oy is))
other_heads Equal x y xs ys is ox oy other w at same =
    let there : y.0 ≡ w = same_Some y.0 w at in
    let key : x.0 ≡ y.0 = addr_exact x.0 y.0 is in
    let left : route_of (x ∷ xs) w ≡ Some x.1 = subst (λ u. route_of (x ∷ xs) u ≡ Some x.1) (key
    ∙ there) (at_head x xs) in
    let right : route_of (y ∷ ys) w ≡ Some y.1 = subst (λ u. route_of (y ∷ ys) u ≡ Some y.1) there (at_head y ys) in
    let value : x.1 ≡ y.1 = same_Some x.1 y.1 (sym left ∙ same ∙ right) in
    true≢false (sym (route_itself x) ∙ (λ i. same_route x (key i, value i)) ∙ other)
other_heads Greater x y xs ys is ox oy other w at same =
    let there : y.0 ≡ w = same_Some y.0 w at in
    let less : addr_cmp y.0 x.0 ≡ Less = addr_total.antisymm y.0 x.0 ∙ ap ordering_reverse is in
    some_is_none (route_of (x ∷ xs) w) y.1 (same ∙ subst (λ u. route_of (y ∷ ys) u ≡ Some y.1) there (at_head y ys))
    (subst (λ u. route_of (x ∷ xs) u ≡ None) there (below_head y.0 x xs ox less))

differs_step : (b : Bool) (x y : Addr × Attr) (xs ys : List (Addr × Attr)) → same_route x y ≡ b → AreInOrder (x ∷ xs) →
    AreInOrder (y ∷ ys) → (w : Addr) → (if b then first_difference xs ys else Some (lower x.0 y.0)) ≡ Some w →
    (first_difference xs ys ≡ Some w → route_of xs w ≡ route_of ys w → ⊥) → route_of (x ∷ xs) w ≡ route_of (y ∷ ys) w →
    ⊥
unfolding IsStrictlySortedBy
differs_step true x y xs ys is ox oy w at later same =
    let key : x.0 ≡ y.0 = (route_true x y is).0 in
    let above : IsAbove x.0 ys = subst (λ u. IsAbove u ys) (sym key) oy.0 in
    let less : addr_cmp x.0 w ≡ Less = above_found x.0 w xs ys ox.0 above at in
    later at (sym (past_head w x xs less) ∙ same ∙ past_head w y ys (subst (λ u. addr_cmp u w ≡ Less) key less))
differs_step false x y xs ys is ox oy w at later same = other_heads (addr_cmp x.0 y.0) x y xs ys refl ox oy is w at same

-- where two lists differ first they have other routes
pub other_route : (xs ys : List (Addr × Attr)) → AreInOrder xs → AreInOrder ys → (w : Addr) →
    first_difference xs ys ≡ Some w → route_of xs w ≡ route_of ys w → ⊥
unfolding IsStrictlySortedBy
other_route [] [] ox oy w at same = none-some w at
other_route (x ∷ xs) [] ox oy w at same = some_is_none (route_of [] w) x.1 (sym same
    ∙ subst (λ u. route_of (x ∷ xs) u ≡ Some x.1) (same_Some x.0 w at) (at_head x xs)) refl
other_route [] (y ∷ ys) ox oy w at same = some_is_none (route_of [] w) y.1 (same
    ∙ subst (λ u. route_of (y ∷ ys) u ≡ Some y.1) (same_Some y.0 w at) (at_head y ys)) refl
other_route (x ∷ xs) (y ∷ ys) ox oy w at same = differs_step (same_route x y) x y xs ys refl ox oy w at
    (other_route xs ys ox.1 oy.1 w) same

-- THE SAME ROUTES BELOW

below_both : (u : Addr) (x y : Addr × Attr) (xs ys : List (Addr × Attr)) → AreInOrder (x ∷ xs) → AreInOrder (y ∷ ys) →
    addr_cmp u x.0 ≡ Less → addr_cmp u y.0 ≡ Less → route_of (x ∷ xs) u ≡ route_of (y ∷ ys) u
below_both u x y xs ys ox oy hx hy = below_head u x xs ox hx ∙ sym (below_head u y ys oy hy)

-- the first entries are other routes
below_heads : (o : Ordering) (x y : Addr × Attr) (xs ys : List (Addr × Attr)) → addr_cmp x.0 y.0 ≡ o →
    AreInOrder (x ∷ xs) → AreInOrder (y ∷ ys) → (w u : Addr) → Some (if is_lt o then x.0 else y.0) ≡ Some w →
    addr_cmp u w ≡ Less → route_of (x ∷ xs) u ≡ route_of (y ∷ ys) u
below_heads Less x y xs ys is ox oy w u at below =
    let first : addr_cmp u x.0 ≡ Less = subst (λ v. addr_cmp u v ≡ Less) (sym (same_Some x.0 w at)) below in
    below_both u x y xs ys ox oy first (addr_total.trans u x.0 y.0 first is)
below_heads Equal x y xs ys is ox oy w u at below =
    let second : addr_cmp u y.0 ≡ Less = subst (λ v. addr_cmp u v ≡ Less) (sym (same_Some y.0 w at)) below in
    below_both u x y xs ys ox oy (subst (λ v. addr_cmp u v ≡ Less) (sym (addr_exact x.0 y.0 is)) second) second
below_heads Greater x y xs ys is ox oy w u at below =
    let second : addr_cmp u y.0 ≡ Less = subst (λ v. addr_cmp u v ≡ Less) (sym (same_Some y.0 w at)) below in
    let less : addr_cmp y.0 x.0 ≡ Less = addr_total.antisymm y.0 x.0 ∙ ap ordering_reverse is in
    below_both u x y xs ys ox oy (addr_total.trans u y.0 x.0 second less) second

below_step : (b : Bool) (x y : Addr × Attr) (xs ys : List (Addr × Attr)) → same_route x y ≡ b → AreInOrder (x ∷ xs) →
    AreInOrder (y ∷ ys) → (w u : Addr) → (if b then first_difference xs ys else Some (lower x.0 y.0)) ≡ Some w →
    addr_cmp u w ≡ Less → (first_difference xs ys ≡ Some w → route_of xs u ≡ route_of ys u) →
    route_of (x ∷ xs) u ≡ route_of (y ∷ ys) u
below_step true x y xs ys is ox oy w u at below later =
    let parts = route_true x y is in
    let rest = later at in
    λ i. cond (is_at (addr_cmp u) (parts.0 i)) (Some (parts.1 i)) (rest i)
below_step false x y xs ys is ox oy w u at below later =
    below_heads (addr_cmp x.0 y.0) x y xs ys refl ox oy w u at below

-- below where two lists differ first they have the same routes
pub same_below : (xs ys : List (Addr × Attr)) → AreInOrder xs → AreInOrder ys → (w u : Addr) →
    first_difference xs ys ≡ Some w → addr_cmp u w ≡ Less → route_of xs u ≡ route_of ys u
unfolding IsStrictlySortedBy
same_below [] [] ox oy w u at below = refl
same_below (x ∷ xs) [] ox oy w u at below =
    below_head u x xs ox (subst (λ v. addr_cmp u v ≡ Less) (sym (same_Some x.0 w at)) below)
same_below [] (y ∷ ys) ox oy w u at below =
    sym (below_head u y ys oy (subst (λ v. addr_cmp u v ≡ Less) (sym (same_Some y.0 w at)) below))
same_below (x ∷ xs) (y ∷ ys) ox oy w u at below = below_step (same_route x y) x y xs ys refl ox oy w u at below
    (λ there. same_below xs ys ox.1 oy.1 w u there below)
