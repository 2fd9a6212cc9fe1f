use Rattle.std.proofs.Common.{◌≤◌, length, ap, ◌∙◌, arith}
use Rattle.std.proofs.lemmas.Bool.Decides.{nat_tests}
use Rattle.std.specs.List.{flat_map}
use Rattle.std.proofs.lemmas.List.Concat.{flat_map-append}
use Rattle.reply_text.specs.Pieces.{writes_same, writes_cut, writes_next, each_end}
use Rattle.log_text.specs.Logs.{entry_text}
use Rattle.log_text.proofs.in_threads.write_turns.Goals as goal

pub returns-in_err-write_turn : goal.returns-in_err-write_turn
returns-in_err-write_turn g c =
    let turn = c.split_at.result.0.now in
    let later = c.split_at.result.1.now in
    let text = ap (flat_map entry_text) c.split_at.ensures.by_index.0 ∙ flat_map-append entry_text turn later in
    let r = c.from_residual.result in
    c.loop-left.invariant r c.write_turn.new.output
    (writes_same c.loop-left.output c.write_turn.new.output _ _ r text
    (writes_cut c.loop-left.output c.write_turn.new.output (flat_map entry_text turn)
    (flat_map entry_text later) r c.from_residual.ensures.0 c.in_err-write_turn.ensures))

pub loop-left-preserved : goal.loop-left-preserved
loop-left-preserved g c =
    let turn = c.split_at.result.0.now in
    let later = c.split_at.result.1.now in
    let text = ap (flat_map entry_text) c.split_at.ensures.by_index.0 ∙ flat_map-append entry_text turn later in
    λ r new h. c.loop-left.invariant r new
    (writes_same c.loop-left.output new _ _ r text
    (writes_next c.loop-left.output c.write_turn.new.output new (flat_map entry_text turn)
    (flat_map entry_text later) r c.in_ok-write_turn.ensures h))

pub returns : goal.returns
returns g c =
    let none : length c.loop-left.left.now ≤ 0 = grind (arith, nat_tests) in
    each_end entry_text c.args.output.now c.loop-left.output _ c.loop-left.left.now 0 none c.loop-left.invariant
