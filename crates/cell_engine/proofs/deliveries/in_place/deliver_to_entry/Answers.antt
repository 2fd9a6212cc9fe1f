use Rattle.std.proofs.Common.{◌≡◌, Result, Ok, Err, OnOk, option_copied, unwrap_or, ap, sym, ◌∙◌}
use Rattle.std.proofs.lemmas.Option.{none-some}
use Rattle.session_queue.specs.Telling.{prefix_of}
use Rattle.cell_engine.specs.RouterTables.{value_at, with_value}
use Rattle.cell_engine.specs.Cells.{new_cell}
use Rattle.cell_engine.specs.State.{cell_at}
use Rattle.cell_engine.specs.Deliveries.{outcome_by}
use Rattle.cell_engine.proofs.Growth.{at_error}
use Rattle.cell_engine.proofs.Lent.{with_same, with_twice}
use Rattle.cell_engine.proofs.Taken.{value_here}
use Rattle.cell_engine.proofs.deliveries.in_place.deliver_to_entry.Goals as goal

-- an empty cell stands where the other one is lent out
pub unreachable-requires : goal.unreachable-requires
unreachable-requires g c =
    none-some c.new.result (sym c.in-Err-replace.ensures.absent
    ∙ ap (value_at c.args.direction.to c.prefix-prefix.result) c.in-Ok.ensures.replaced
    ∙ value_here c.args.direction.to c.prefix-prefix.result c.new.result c.args.tables.now)

at_ok : {A F P Q : Type 0} (r : Result A F) → (P → Q) → OnOk r P → OnOk r Q
at_ok (Ok x) f p = f p
at_ok (Err x) f p = tt

pub returns-clause-cell : goal.returns-clause-cell
returns-clause-cell g c =
    let r = c.args.direction.to in
    let u = c.args.direction.from in
    let m = c.args.message.now in
    let ts = c.args.tables.now in
    let q = c.prefix-prefix.result in
    let h = c.receive_in_entry-sends.new.cell in
    let put : c.replace-2.new.self ≡ with_value r (prefix_of m) h ts = c.in-Ok-replace.ensures.replaced
    ∙ ap (with_value r q h) c.in-Ok.ensures.replaced ∙ with_twice r q c.new.result h ts
    ∙ ap (λ x. with_value r x h ts) c.prefix-prefix.ensures in
    let lent : cell_at r (prefix_of m) ts ≡ c.in-Ok.cell = ap (λ x. cell_at r x ts) (sym c.prefix-prefix.ensures)
    ∙ ap (λ x. unwrap_or x new_cell) c.in-Ok.ensures.before in
    at_ok c.receive_in_entry-sends.result (λ is. put
    ∙ ap (λ x. with_value r (prefix_of m) x ts) (is
    ∙ ap (λ x. (outcome_by (option_copied c.args.site) x u m).cell) (sym lent))) c.receive_in_entry-sends.ensures.cell

pub returns-clause-same : goal.returns-clause-same
returns-clause-same g c =
    let r = c.args.direction.to in
    let m = c.args.message.now in
    let ts = c.args.tables.now in
    let q = c.prefix-prefix.result in
    let h = c.receive_in_entry-sends.new.cell in
    let put : c.replace-2.new.self ≡ with_value r q h ts = c.in-Ok-replace.ensures.replaced
    ∙ ap (with_value r q h) c.in-Ok.ensures.replaced ∙ with_twice r q c.new.result h ts in
    at_error c.receive_in_entry-sends.result (λ is. put ∙ ap (λ x. with_value r q x ts) is
    ∙ with_same r q c.in-Ok.cell ts c.replace.ensures.by_address c.in-Ok.ensures.before)
    c.receive_in_entry-sends.ensures.same
