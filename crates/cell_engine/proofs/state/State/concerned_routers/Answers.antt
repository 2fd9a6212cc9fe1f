use Rattle.std.proofs.Common.{◌++◌, length, Some, ap, sym, subst, arith}
use Rattle.std.specs.FinMap as finite
use Rattle.net_conf.specs.declared.edit.Scope.TheVariants.{Network}
use Rattle.cell_engine.specs.RouterTables.{table_at}
use Rattle.cell_engine.specs.Changes.{router_changes, changes_in}
use Rattle.cell_engine.specs.Moves.{moves}
use Rattle.cell_engine.proofs.Chunks.{T_of}
use Rattle.cell_engine.specs.Becomings.{AreOf, all_changes}
use Rattle.cell_engine.proofs.WalksInOrder.{tables_past, tables_start, tables_step, tables_end}
use Rattle.cell_engine.proofs.Remade.{gathered_more, gathered_all}
use Rattle.cell_engine.proofs.state.State.concerned_routers.Goals as goal

pub walk-init : goal.walk-init
walk-init g c =
    let ts = c.args.self.now.tables in (
      subst (AreOf c.args.self.now.conf) (sym c.new-becomings.ensures) tt,
      λ i. all_changes (c.new-becomings.ensures i) ts ++ changes_in Network c.args.self.now.conf c.args.conf.now
          (tables_start ts i),
    )

pub returns-in-None-clause-all : goal.returns-in-None-clause-all
returns-in-None-clause-all g c =
    let ts = c.args.self.now.tables in
    let made = changes_in Network c.args.self.now.conf c.args.conf.now in
    gathered_all (all_changes c.walk.becomings ts) (made (tables_past c.walk.past ts)) (made ts)
    (ap made (tables_end ts c.walk.past (sym c.in-None.ensures))) c.walk.invariant.1

pub walk-smaller : goal.walk-smaller
walk-smaller g c =
    let step = tables_step c.args.self.now.tables c.walk.past c.in-Some.router (T_of _ c.facts.ensures.sound.by_address)
    (sym c.in-Some.ensures) in
    let n = ap length step in omega (arith, n)

pub walk-preserved : goal.walk-preserved
walk-preserved g c =
    let ts = c.args.self.now.tables in
    let r = c.in-Some.router in
    let made = changes_in Network c.args.self.now.conf c.args.conf.now in
    let step = tables_step ts c.walk.past r (T_of _ c.facts.ensures.sound.by_address) (sym c.in-Some.ensures) in (
      c.in_ok-add_concerned-in-Some.ensures.of c.walk.invariant.0,
      gathered_more (all_changes c.walk.becomings ts)
          (router_changes (moves c.args.self.now.conf c.args.conf.now) c.args.self.now.conf c.args.conf.now r
          (finite.entries (table_at r ts))) (made (tables_past (Some r) ts)) (made (tables_past c.walk.past ts))
          (made ts) (all_changes c.add_concerned.new.becomings ts)
          (sym (ap made step)) c.walk.invariant.1 c.in_ok-add_concerned-in-Some.ensures.more,
    )
