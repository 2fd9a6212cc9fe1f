-- How the prover knows again what is taken (its Model asks for it). No public contract cites this file.
use Rattle.std.specs.Prelude.{refl}
use Rattle.std.specs.Coded.{Coded, code_by, coded×}
use Rattle.net_prefix.specs.Prefix.{Prefix}
use Rattle.prefix_table.specs.Tables.{coded_prefix}
use Rattle.session_queue.specs.declared.direction.Direction.{Direction}
use Rattle.session_queue.specs.contracts.direction.Direction as direction
use Rattle.cell_engine.specs.Cells.{Outcome}
use Rattle.cell_engine.specs.CellCoding.{coded_outcome}
use Rattle.sim_core.specs.Plans.{Taken}

abbrev pub coded_taken : Coded Taken
coded_taken = code_by ((Direction × Prefix) × Outcome)
    (coded× (coded× direction.the_row.coded coded_prefix) coded_outcome)
    (λ t. ((t.direction, t.prefix), t.outcome)) (λ p. record { direction = p.0.0; prefix = p.0.1; outcome = p.1 })
    (λ _. refl)
