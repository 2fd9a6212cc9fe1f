use Rattle.std.proofs.Common.{◌≡◌, length}
use Rattle.command_text.specs.Lines.{tokens}
use Rattle.converge_text.proofs.words.next_word.Given as goal

abbrev pub invariant-loop-word : goal.invariant-loop-word
invariant-loop-word l = tokens l.rest ≡ tokens l.text

abbrev pub decreases-loop-word : goal.decreases-loop-word
decreases-loop-word l = length l.rest
