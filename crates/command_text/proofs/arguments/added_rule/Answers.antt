use Rattle.std.proofs.Common.{◌∷◌}
use Rattle.command_text.specs.Words.{side_word}
use Rattle.command_text.specs.Rules.{rule_words}
use Rattle.command_text.specs.Arguments.{IsAddedRule, added_words}
use Rattle.command_text.proofs.Readings.{unspelled}
use Rattle.command_text.proofs.arguments.added_rule.Goals as goal

pub returns-in_err-second : goal.returns-in_err-second
returns-in_err-second c =
    unspelled IsAddedRule added_words _ _ c.from_residual-in_err-second.ensures
    (λ v h s. c.in_err-second.ensures.none v.1 (side_word v.2 ∷ rule_words v.3) h.1
    (cc (c.in_ok-first.ensures.found, s)))
