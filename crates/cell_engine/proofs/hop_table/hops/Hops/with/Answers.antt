use Rattle.std.proofs.Common.{◌+◌, ap, sym, subst, ◌∙◌, drop}
use Rattle.std.proofs.lemmas.List.{at_drop_more, at_drop_all}
use Rattle.path_attr.specs.declared.attr.Attr.{Attr}
use Rattle.cell_engine.specs.Hops.{Have, with_hop, with_hops}
use Rattle.cell_engine.proofs.Widening.{covered, kept, several_stay}
use Rattle.cell_engine.proofs.hop_table.hops.Hops.with.Goals as goal

pub loop-route-preserved : goal.loop-route-preserved
loop-route-preserved c =
    let routes = c.args.routes.now in
    let i = c.loop-route.route-index in
    let rest = drop (i + 1) routes in
    ap (λ k. with_hops k rest) c.with_hop-hops.ensures
    ∙ ap (λ (x : Attr). with_hops (with_hop c.loop-route.hops x.next) rest) c.attr.ensures
    ∙ ap (λ e. with_hops (with_hop c.loop-route.hops e.1.next) rest) c.route-item.is
    ∙ sym (at_drop_more (with_hops c.loop-route.hops) routes i c.route-item.result c.loop-route-test.true)
    ∙ c.loop-route.invariant

pub returns : goal.returns
returns c =
    let routes = c.args.routes.now in
    let all = sym (at_drop_all (with_hops c.loop-route.hops) routes c.loop-route.route-index c.loop-route-test.false)
    ∙ c.loop-route.invariant in
    record {
      value = all;
      covers = subst (λ k. Have k routes) (sym all) (covered c.args.self routes);
      keeps = λ known have. subst (λ k. Have k known) (sym all) (kept c.args.self routes known have);
    }

pub returns-in-Several : goal.returns-in-Several
returns-in-Several c =
    let routes = c.args.routes.now in
    let rest = drop c.loop-route.route-index routes in
    let all = c.in-Several.is ∙ sym (several_stay rest) ∙ ap (λ k. with_hops k rest) (sym c.in-Several.is)
    ∙ c.loop-route.invariant in
    record {
      value = all;
      covers = subst (λ k. Have k routes) (sym all) (covered c.args.self routes);
      keeps = λ known have. subst (λ k. Have k known) (sym all) (kept c.args.self routes known have);
    }
