use Rattle.std.proofs.Common.{sym, subst, ◌∙◌}
use Rattle.cell_engine.specs.Hops.{Have}
use Rattle.cell_engine.proofs.Knowing.{known_when}
use Rattle.cell_engine.proofs.hop_table.HopTablePrefixTableCell.replace.Goals as goal

pub invariant_of-self : goal.invariant_of-self
invariant_of-self g c =
    let covers = subst (Have c.with-hops.result) c.received.ensures.routes c.with-hops.ensures.covers in
    known_when c.self.inside.hops c.with-hops.result _ c.self.invariant c.with-hops.ensures.keeps
    c.replace-replaced.result c.args.prefix c.args.value _ covers c.replace-replaced.ensures.replaced
    (sym c.is_ok.ensures.value ∙ c.if-is_ok.true)
