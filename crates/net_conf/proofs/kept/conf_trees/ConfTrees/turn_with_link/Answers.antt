use Rattle.std.proofs.Common.{◌≡◌, true, sym, subst}
use Rattle.net_conf.specs.Configuration.{has_link_up}
use Rattle.net_conf.specs.Kept.{IsLinked, NoneGoesDown}
use Rattle.net_conf.proofs.LinkTurns.{HasLaws, IsOrderly, stay_up, stay_down}
use Rattle.net_conf.proofs.kept.conf_trees.ConfTrees.turn_with_link.Goals as goal

pub returns-clause-down : goal.returns-clause-down
returns-clause-down c still =
    let s = c.self.inside.tables in
    let d = c.after.inside.tables in
    let a = c.args.one in
    let b = c.args.other in
    let laws : HasLaws = record {
      more = c.more_edges_reach_more.ensures;
      least = c.costs_are_least.ensures;
      one = c.costs_are_one.ensures;
      trees = c.tree_of_is_a_tree.ensures;
    } in
    let before : IsOrderly s = record { sound = c.self.invariant.0; nodes = c.orders.ensures.nodes } in
    let after : IsOrderly d = record { sound = c.after.invariant.0; nodes = c.orders-2.ensures.nodes } in
    let linked = subst (λ x. IsLinked x d a b) (sym c.self.view_is)
    (subst (λ x. IsLinked c.args.self.now x a b) (sym c.after.view_is) c.requires) in
    let still' = subst (λ x. has_link_up x a b ≡ true → has_link_up d a b ≡ true) (sym c.self.view_is)
    (subst (λ x. has_link_up c.args.self.now a b ≡ true → has_link_up x a b ≡ true) (sym c.after.view_is) still) in
    subst (λ x. NoneGoesDown x c.args.after.now) c.self.view_is
    (subst (λ x. NoneGoesDown s x) c.after.view_is
    (stay_up laws s d a b before after c.orders.ensures.links linked still'))

pub returns-clause-up : goal.returns-clause-up
returns-clause-up c still =
    let s = c.self.inside.tables in
    let d = c.after.inside.tables in
    let a = c.args.one in
    let b = c.args.other in
    let laws : HasLaws = record {
      more = c.more_edges_reach_more.ensures;
      least = c.costs_are_least.ensures;
      one = c.costs_are_one.ensures;
      trees = c.tree_of_is_a_tree.ensures;
    } in
    let before : IsOrderly s = record { sound = c.self.invariant.0; nodes = c.orders.ensures.nodes } in
    let after : IsOrderly d = record { sound = c.after.invariant.0; nodes = c.orders-2.ensures.nodes } in
    let linked = subst (λ x. IsLinked x d a b) (sym c.self.view_is)
    (subst (λ x. IsLinked c.args.self.now x a b) (sym c.after.view_is) c.requires) in
    let still' = subst (λ x. has_link_up d a b ≡ true → has_link_up x a b ≡ true) (sym c.self.view_is)
    (subst (λ x. has_link_up x a b ≡ true → has_link_up c.args.self.now a b ≡ true) (sym c.after.view_is) still) in
    subst (λ x. NoneGoesDown c.args.after.now x) c.self.view_is
    (subst (λ x. NoneGoesDown x s) c.after.view_is
    (stay_down laws s d a b before after c.orders.ensures.links linked still'))
