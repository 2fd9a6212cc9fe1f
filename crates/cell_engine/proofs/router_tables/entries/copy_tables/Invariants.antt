use Rattle.std.proofs.Common.{◌≡◌, take}
use Rattle.cell_engine.proofs.router_tables.entries.copy_tables.Given as goal

-- the tables so far are copied
abbrev pub invariant-loop-entry : goal.invariant-loop-entry
invariant-loop-entry g l = l.copies.items ≡ take l.entry-index l.entries
