-- What contracts see of a shared list. No public contract cites this file; the model of the list does.
use Rattle.std.specs.Prelude.{List, [], Option, Some, None}
use Rattle.std.specs.declared.alloc.Global.{Global}
use Rattle.std.specs.declared.sync.Arc.{Arc}
use Rattle.std.specs.declared.vec.Vec.{Vec}
use Rattle.std.specs.Arc.{arc_value}

-- the elements of the list that is shared, none where none is
abbrev pub items_shown : {T : Type 0} → Option (Arc (Vec T Global) Global) → List T
items_shown None = []
items_shown (Some items) = (arc_value items).items
