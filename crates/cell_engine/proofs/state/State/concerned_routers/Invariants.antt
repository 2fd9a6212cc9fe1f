use Rattle.std.proofs.Common.{◌≡◌, ◌++◌, length}
use Rattle.net_conf.specs.declared.edit.Scope.TheVariants.{Network}
use Rattle.cell_engine.specs.Changes.{changes_in}
use Rattle.cell_engine.specs.Becomings.{AreOf, all_changes}
use Rattle.cell_engine.proofs.WalksInOrder.{tables_past}
use Rattle.cell_engine.proofs.state.State.concerned_routers.Given as goal

-- with the tables that are left, the cells of all routers
abbrev pub invariant-walk : goal.invariant-walk
invariant-walk g l =
    AreOf l.self.conf l.becomings
    × (all_changes l.becomings l.self.tables ++ changes_in Network l.self.conf l.conf (tables_past l.past l.self.tables)
    ≡ changes_in Network l.self.conf l.conf l.self.tables)

abbrev pub decreases-walk : goal.decreases-walk
decreases-walk g l = length (tables_past l.past l.self.tables)
