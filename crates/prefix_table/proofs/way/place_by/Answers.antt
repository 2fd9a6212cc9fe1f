use Rattle.std.proofs.Common.{sym, subst}
use Rattle.prefix_table.specs.Ways.{IsNear}
use Rattle.prefix_table.proofs.Contents.{none_in_empty}
use Rattle.prefix_table.proofs.way.place_by.Goals as goal

pub returns-in-None : goal.returns-in-None
returns-in-None c =
    sym (none_in_empty c.args.nodes.now c.args.prefix
    (subst (IsNear c.args.nodes.now c.args.prefix) c.in-None.is c.requires.near))
