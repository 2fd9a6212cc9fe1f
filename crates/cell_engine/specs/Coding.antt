-- How the prover knows the tables of a state again, and the edited cells of an edit (their Models ask for it). No
-- public contract cites this file.
use Rattle.std.specs.Prelude.{ℕ, Option, refl}
use Rattle.std.specs.Coded.{Coded, code_by, coded×, coded_ℕ, coded_option}
use Rattle.std.specs.FinMap as finite
use Rattle.net_prefix.specs.declared.addr.Addr.{Addr}
use Rattle.net_prefix.specs.contracts.addr.Addr as address
use Rattle.net_prefix.specs.Prefix.{Prefix}
use Rattle.prefix_table.specs.Tables.{Table, coded_prefix}
use Rattle.cell_engine.specs.Cells.{Cell, Outcome}
use Rattle.cell_engine.specs.CellCoding.{coded_cell, coded_outcome}
use Rattle.cell_engine.specs.CellEdits.{CellEdit}

abbrev pub coded_table : Coded (Table Cell)
coded_table = finite.code coded_prefix coded_cell

abbrev pub coded_edit : Coded CellEdit
coded_edit = code_by ((Addr × Prefix) × (Option Outcome × ℕ))
    (coded× (coded× address.the_row.coded coded_prefix) (coded× (coded_option coded_outcome) coded_ℕ))
    (λ x. ((x.router, x.prefix), (x.remade, x.cost))) (λ p. record {
      router = p.0.0;
      prefix = p.0.1;
      remade = p.1.0;
      cost = p.1.1;
    }) (λ _. refl)
