use Rattle.std.proofs.Common.{codes, ◌++◌, ◌∷◌, []}
use Rattle.std.specs.List.{join_with_byte}
use Rattle.net_prefix.specs.Address.{addr_text}
use Rattle.command_text.specs.Words.{match_words, action_words, side_word}
use Rattle.reply_text.specs.Pieces.{writes_same, writes_cut, writes_next}
use Rattle.log_text.specs.Rules.{spaced}
use Rattle.log_text.proofs.Spaces.{join_three}
use Rattle.log_text.proofs.rule.write_rule.Goals as goal

pub returns-in_err-write_policy : goal.returns-in_err-write_policy
returns-in_err-write_policy g c =
    let ws = addr_text c.args.first ∷ addr_text c.args.second ∷ side_word c.args.side ∷ [] in
    let head = join_with_byte 32 (codes "rule" ∷ ws) in
    let a = match_words c.args.rule.now.cond in
    let b = action_words c.args.rule.now.act in
    let r = c.from_residual.result in
    writes_same c.args.output.now c.write_policy.new.output _ _ r (join_three (codes "rule") ws a b)
    (writes_cut c.args.output.now c.write_policy.new.output head (spaced a ++ spaced b) r c.from_residual.ensures.0
    c.in_err-write_policy.ensures)

pub returns-in_err-write_match : goal.returns-in_err-write_match
returns-in_err-write_match g c =
    let ws = addr_text c.args.first ∷ addr_text c.args.second ∷ side_word c.args.side ∷ [] in
    let head = join_with_byte 32 (codes "rule" ∷ ws) in
    let a = match_words c.args.rule.now.cond in
    let b = action_words c.args.rule.now.act in
    let r = c.from_residual-in_err-write_match.result in
    writes_same c.args.output.now c.write_match.new.output _ _ r (join_three (codes "rule") ws a b)
    (writes_next c.args.output.now c.write_policy.new.output c.write_match.new.output head
    (spaced a ++ spaced b) r c.in_ok-write_policy.ensures
    (writes_cut c.write_policy.new.output c.write_match.new.output (spaced a)
    (spaced b) r c.from_residual-in_err-write_match.ensures.0 c.in_err-write_match.ensures))

pub returns : goal.returns
returns g c =
    let ws = addr_text c.args.first ∷ addr_text c.args.second ∷ side_word c.args.side ∷ [] in
    let head = join_with_byte 32 (codes "rule" ∷ ws) in
    let a = match_words c.args.rule.now.cond in
    let b = action_words c.args.rule.now.act in
    let r = c.write_action.result in
    writes_same c.args.output.now c.write_action.new.output _ _ r (join_three (codes "rule") ws a b)
    (writes_next c.args.output.now c.write_policy.new.output c.write_action.new.output head
    (spaced a ++ spaced b) r c.in_ok-write_policy.ensures
    (writes_next c.write_policy.new.output c.write_match.new.output c.write_action.new.output (spaced a)
    (spaced b) r c.in_ok-write_match.ensures c.write_action.ensures))
