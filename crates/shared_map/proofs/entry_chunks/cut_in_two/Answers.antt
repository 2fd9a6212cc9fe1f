-- Both halves of what is in order are in order.
use Rattle.std.proofs.Common.{◌≡◌, ◌∙◌, ◌++◌, sym, ap, subst}
use Rattle.std.specs.List.Sorted.{IsStrictlySortedBy}
use Rattle.std.specs.Map.{keys_of}
use Rattle.std.proofs.lemmas.List.{map-append, take-append-drop}
use Rattle.shared_map.proofs.Splits.{sorted_front, sorted_back}
use Rattle.shared_map.proofs.entry_chunks.cut_in_two.Goals as goal

pub copied-requires : goal.copied-requires
copied-requires g c =
    let front = c.split_at.result.0.now in
    let back = c.split_at.result.1.now in
    let whole : c.as_slice-entries.result.now ≡ front ++ back =
    sym ((λ i. c.split_at.ensures.front i ++ c.split_at.ensures.back i)
    ∙ take-append-drop _ c.as_slice-entries.result.now) in
    let keys : keys_of c.args.chunk.now ≡ keys_of front ++ keys_of back =
    ap keys_of (sym c.as_slice-entries.ensures.value ∙ whole) ∙ map-append (λ e. e.0) front back in
    sorted_front g.K.Ord.cmp (keys_of front) (keys_of back)
    (subst (IsStrictlySortedBy g.K.Ord.cmp) keys c.as_slice-entries.ensures.ordered)

pub copied-requires-2 : goal.copied-requires-2
copied-requires-2 g c =
    let front = c.split_at.result.0.now in
    let back = c.split_at.result.1.now in
    let whole : c.as_slice-entries.result.now ≡ front ++ back =
    sym ((λ i. c.split_at.ensures.front i ++ c.split_at.ensures.back i)
    ∙ take-append-drop _ c.as_slice-entries.result.now) in
    let keys : keys_of c.args.chunk.now ≡ keys_of front ++ keys_of back =
    ap keys_of (sym c.as_slice-entries.ensures.value ∙ whole) ∙ map-append (λ e. e.0) front back in
    sorted_back g.K.Ord.cmp (keys_of front) (keys_of back)
    (subst (IsStrictlySortedBy g.K.Ord.cmp) keys c.as_slice-entries.ensures.ordered)
