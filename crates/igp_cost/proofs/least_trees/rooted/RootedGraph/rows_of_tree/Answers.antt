use Rattle.std.proofs.Common.{◌≡◌, ℕ, ◌+◌, ◌<◌, [], ◌∷◌, ◌++◌, length, Option, sym, ap, ◌∙◌, subst, rules}
use Rattle.std.proofs.lemmas.List.{get_or_default, length-map}
use Rattle.net_prefix.specs.declared.addr.Addr.{Addr}
use Rattle.igp_cost.specs.declared.label.Label.{Label}
use Rattle.igp_cost.specs.Labels.{Labels, AreLimited, nowhere, addr_at, label_at}
use Rattle.igp_cost.specs.Placed.{known, labels_of}
use Rattle.igp_cost.specs.Trees.{label_in}
use Rattle.igp_cost.proofs.Before.{more, limited_more}
use Rattle.igp_cost.proofs.InPlace.{more_rows, labels_of_more}
use Rattle.igp_cost.proofs.least_trees.rooted.RootedGraph.rows_of_tree.Goals as goal

pub loop-at-preserved : goal.loop-at-preserved
loop-at-preserved c =
    let nodes = c.args.self.now.nodes.now in
    let n = c.loop-at.at in
    let rows = c.loop-at.rows.items in
    let row = c.row_of.result in
    let label = c.label_near-label.result in
    let addr = ap (λ (node : Addr × ℕ). node.0)
    (get_or_default nodes n c.index-self-at.result nowhere c.loop-at-test.true) in
    let said : label ≡ label_in c.args.old.now (addr_at nodes n) = c.label_near-label.ensures
    ∙ ap (label_in c.args.old.now) addr in
    let is_known : known row.1 ≡ label = c.row_of.ensures.known c.if-not-is_limited.ensures in
    let size : length rows ≡ n = search rules in
    let count : length (labels_of rows) ≡ n = length-map rows (λ r. known r.1) ∙ size in
    let labels = labels_of_more rows row ∙ ap (λ (o : Option Label). labels_of rows ++ o ∷ []) is_known in
    rw (c.in_ok-push.ensures.items) (record {
      same_length = search rules;
      same = more_rows (λ v r. r.0 ≡ addr_at nodes v) rows n row size c.loop-at.invariant.same (c.row_of.ensures.same
          ∙ addr);
      limited = subst AreLimited (sym labels)
          (limited_more (labels_of rows) label c.loop-at.invariant.limited c.if-not-is_limited.ensures);
      known = subst (λ (some : Labels). (v : ℕ) → v < n + 1 →
          label_at some v ≡ label_in c.args.old.now (addr_at nodes v)) (sym labels)
          (more (λ v o. o ≡ label_in c.args.old.now (addr_at nodes v))
          (labels_of rows) n label count c.loop-at.invariant.known said);
    })
