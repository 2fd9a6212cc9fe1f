-- Where senders' routes stand, and what becomes of them where one is written over, put in or taken out.
use Rattle.std.proofs.Common.{◌≡◌, true, cond, ◌&&◌, List, [], ◌∷◌, Some, None, refl, sym, ap}
use Rattle.std.proofs.lemmas.Option.{none-some}
use Rattle.std.specs.declared.cmp.Ordering.{Ordering}
use Rattle.std.specs.declared.cmp.Ordering.TheVariants.{Less, Equal, Greater}
use Rattle.std.specs.Ordering.{is_eq, is_lt, match_ordering}
use Rattle.std.specs.List.{AllByRecursion}
use Rattle.std.specs.List.Sorted.{IsStrictlySortedBy}
use Rattle.std.specs.Map.{keys_of, remove_entry}
use Rattle.std.specs.BTreeMap.{insert_entry, is_at}
use Rattle.std.specs.FinMap.Entries.{put, find, by_order, below_all, is_sorted}
use Rattle.net_prefix.specs.declared.addr.Addr.{Addr}
use Rattle.net_prefix.specs.Address.{addr_cmp}
use Rattle.path_attr.specs.declared.attr.Attr.{Attr}
use Rattle.cell_engine.specs.RouterTables.{AreByRouter}
use Rattle.cell_engine.specs.Senders.{AreInOrder}

below : (k : Addr) (es : List (Addr × Attr)) → AllByRecursion (λ y. addr_cmp k y ≡ Less) (keys_of es) →
    below_all addr_cmp k es ≡ true
below k [] h = refl
below k (e ∷ es) h = λ i. is_lt (h.0 i) && below k es h.1 i

sorted : (es : List (Addr × Attr)) → AreInOrder es → is_sorted addr_cmp es ≡ true
unfolding IsStrictlySortedBy
sorted [] h = refl
sorted (e ∷ es) h = λ i. below e.0 es h.0 i && sorted es h.1 i

-- senders in order are addresses in order
pub sorted_senders : (es : List (Addr × Attr)) → AreInOrder es → AreByRouter es
sorted_senders es h = sorted es h

-- one way to say it and the other
pub put_is : (k : Addr) (v : Attr) (es : List (Addr × Attr)) → put addr_cmp k v es ≡ insert_entry addr_cmp es k v
put_is k v [] = refl
put_is k v (e ∷ es) =
    elim (addr_cmp k e.0) as (λ o. by_order o ((k, v) ∷ e ∷ es) ((e.0, v) ∷ es) (e ∷ put addr_cmp k v es)
    ≡ match_ordering o ((k, v) ∷ e ∷ es) ((e.0, v) ∷ es) (e ∷ insert_entry addr_cmp es k v)) [
      | Less ↦ refl
      | Equal ↦ refl
      | Greater ↦ ap (λ l. e ∷ l) (put_is k v es)
    ]

kept_by : (o : Ordering) (k : Addr) (e : Addr × Attr) (es : List (Addr × Attr)) →
    cond (is_eq o) (Some e.1) (find addr_cmp k es) ≡ None →
    (find addr_cmp k es ≡ None → es ≡ remove_entry (is_at (addr_cmp k)) es) →
    e ∷ es ≡ cond (is_eq o) es (e ∷ remove_entry (is_at (addr_cmp k)) es)
kept_by Less k e es none rest = ap (λ l. e ∷ l) (rest none)
kept_by Equal k e es none rest = absurd (none-some e.1 (sym none))
kept_by Greater k e es none rest = ap (λ l. e ∷ l) (rest none)

-- where the sender has no route, nothing is taken out
pub none_taken_out : (k : Addr) (es : List (Addr × Attr)) → find addr_cmp k es ≡ None →
    es ≡ remove_entry (is_at (addr_cmp k)) es
none_taken_out k [] none = refl
none_taken_out k (e ∷ es) none = kept_by (addr_cmp k e.0) k e es none (none_taken_out k es)
