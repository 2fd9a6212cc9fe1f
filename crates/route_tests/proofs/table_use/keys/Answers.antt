use Rattle.std.proofs.Common.{Some, ◌++◌, ◌∷◌, [], map, length, ap, sym, ◌∙◌, append_assoc, arith}
use Rattle.std.proofs.lemmas.List.{append-nil}
use Rattle.route_tests.specs.Walks.{rest_after}
use Rattle.route_tests.proofs.Walks.{walk_step, none_after, all_first}
use Rattle.std.specs.FinMap as fin
use Rattle.route_tests.proofs.table_use.keys.Goals as goal

pub walk-init : goal.walk-init
walk-init g c = rw c.new-keys.ensures.items
    (ap (map (λ e. e.0)) (sym (all_first (fin.entries (g.T.PrefixTable.table c.args.table.now)))))

pub returns-in-None : goal.returns-in-None
returns-in-None g c =
    sym (append-nil c.walk.keys.items)
    ∙ ap (λ l. c.walk.keys.items ++ map (λ e. e.0) l)
    (sym (none_after c.walk.after (fin.entries (g.T.PrefixTable.table c.args.table.now)) (sym c.in-None.ensures)))
    ∙ sym c.walk.invariant

pub walk-smaller : goal.walk-smaller
walk-smaller g c =
    let s = walk_step (g.T.PrefixTable.table c.args.table.now) c.walk.after (c.in-Some.entry.0, c.in-Some.entry.1.now)
    (sym c.in-Some.ensures) in
    let n = ap length s in omega (arith, n)

pub walk-preserved : goal.walk-preserved
walk-preserved g c =
    let s = walk_step (g.T.PrefixTable.table c.args.table.now) c.walk.after (c.in-Some.entry.0, c.in-Some.entry.1.now)
    (sym c.in-Some.ensures) in
    c.walk.invariant
    ∙ ap (λ l. c.walk.keys.items ++ map (λ e. e.0) l) s
    ∙ sym (append_assoc c.walk.keys.items (c.in-Some.entry.0 ∷ [])
    (map (λ e. e.0) (rest_after (g.T.PrefixTable.table c.args.table.now) (Some c.in-Some.entry.0))))
    ∙ ap (λ l. l ++ map (λ e. e.0) (rest_after (g.T.PrefixTable.table c.args.table.now) (Some c.in-Some.entry.0)))
    (sym c.in_ok-push-in-Some.ensures.items)
