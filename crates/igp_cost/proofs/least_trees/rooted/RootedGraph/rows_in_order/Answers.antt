use Rattle.std.proofs.Common.{ℕ, ◌<◌, ◌≤◌, List, length, get_or, sym, subst}
use Rattle.net_prefix.specs.declared.addr.Addr.{Addr}
use Rattle.igp_cost.specs.declared.label.Label.{Label}
use Rattle.igp_cost.specs.Offers.{AreLabelsOf}
use Rattle.igp_cost.specs.Placed.{labels_of, ArePlaced}
use Rattle.igp_cost.specs.Wired.{no_row}
use Rattle.igp_cost.proofs.InPlace.{limited_rows, labels_in_place}
use Rattle.igp_cost.proofs.least_trees.rooted.RootedGraph.rows_in_order.Goals as goal

abbrev Within : List (Addr × Label) → Type 0
Within rows = (v : ℕ) → v < length rows → (get_or rows v no_row).1.cost ≤ 268435456

pub returns-then-are_in_order-clause-limited : goal.returns-then-are_in_order-clause-limited
returns-then-are_in_order-clause-limited c = limited_rows c.in_ok-rows.rows.now c.if-are_in_order.ensures.within

pub returns-then-are_in_order-clause-known : goal.returns-then-are_in_order-clause-known
returns-then-are_in_order-clause-known c =
    let nodes = c.args.self.now.nodes.now in
    let is = c.in_ok-rows.ensures.rows in
    let placed = subst (ArePlaced nodes) is c.if-are_in_order.ensures.placed in
    let within = subst Within is c.if-are_in_order.ensures.within in
    subst (λ rows. AreLabelsOf nodes c.args.old.now (labels_of rows)) (sym is)
    (labels_in_place nodes c.args.old.now c.in_ok-rows.ensures.ascending placed within)
