-- An entry that has the router's address stands at its place.
use Rattle.std.proofs.Common.{sym, ap, ◌∙◌}
use Rattle.std.specs.Ordering.{is_eq}
use Rattle.prefix_table.proofs.Entries.{T_of}
use Rattle.cell_engine.proofs.Halving.{seen_at, read_some}
use Rattle.cell_engine.proofs.router_tables.places.place_from.Goals as goal

pub returns-in-Some-clause-found : goal.returns-in-Some-clause-found
returns-in-Some-clause-found g c =
    seen_at c.args.entries.now c.args.router c.args.first c.in-Some.entry.now (T_of _ c.requires)
    (read_some c.args.entries.now c.args.first c.in-Some.entry.now c.in-Some.ensures.lookup.0
    c.in-Some.ensures.lookup.1) (sym (ap is_eq c.cmp.ensures) ∙ sym c.is_eq.ensures ∙ c.if-is_eq.true)
