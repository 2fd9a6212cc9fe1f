use Rattle.std.proofs.Common.{◌∙◌, sym, ap, subst}
use Rattle.std.specs.List.Sorted.{IsStrictlySortedBy}
use Rattle.std.specs.Map.{keys_of}
use Rattle.seq.specs.Shown.{items_shown}
use Rattle.shared_map.proofs.EntryPlaces.{same_keys}
use Rattle.shared_map.proofs.chunked_map.ChunkedMap.order.Goals as goal

pub returns : goal.returns
returns g c = subst (IsStrictlySortedBy g.K.Ord.cmp) (sym (same_keys (items_shown c.self.inside.chunks))
    ∙ ap keys_of c.self.view_is) c.self.invariant.1
