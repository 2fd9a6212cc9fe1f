-- How the prover knows a cell again (its Model asks for it). No public contract cites this file.
use Rattle.std.specs.Prelude.{List, refl}
use Rattle.std.specs.Coded.{Coded, code_by, coded×, coded_list}
use Rattle.net_prefix.specs.declared.addr.Addr.{Addr}
use Rattle.net_prefix.specs.contracts.addr.Addr as address
use Rattle.path_attr.specs.declared.attr.Attr.{Attr}
use Rattle.path_attr.specs.contracts.attr.Attr as attributes
use Rattle.route_select.specs.Coding.{coded_standings}
use Rattle.route_select.specs.Selection.{Standings}
use Rattle.session_queue.specs.declared.message.Message.{Message}
use Rattle.session_queue.specs.contracts.message.Message as messages
use Rattle.cell_engine.specs.Cells.{Cell, Outcome}

abbrev pub coded_cell : Coded Cell
coded_cell = code_by (List (Addr × Attr) × Standings)
    (coded× (coded_list (coded× address.the_row.coded attributes.the_row.coded)) coded_standings)
    (λ h. (h.received, h.standings)) (λ p. record { received = p.0; standings = p.1 }) (λ _. refl)

abbrev pub coded_outcome : Coded Outcome
coded_outcome = code_by (Cell × List (Addr × Message))
    (coded× coded_cell (coded_list (coded× address.the_row.coded messages.the_row.coded))) (λ o. (o.cell, o.sends))
    (λ p. record { cell = p.0; sends = p.1 }) (λ _. refl)
