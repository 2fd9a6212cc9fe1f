use Rattle.std.proofs.Common.{◌<◌, length, sym, ◌∙◌, arith}
use Rattle.std.proofs.lemmas.Bool.Decides.{nat_tests}
use Rattle.converge_text.proofs.Tokens.{word_first, word_last}
use Rattle.converge_text.proofs.words.next_word.Goals as goal

pub returns-then-not-is_empty-clause-found : goal.returns-then-not-is_empty-clause-found
returns-then-not-is_empty-clause-found c =
    let some : 0 < length c.in-Some.word.now = grind (arith, nat_tests) in
    sym c.loop-word.invariant ∙ word_first _ _ _ c.in-Some.ensures.whole c.in-Some.ensures.first some

pub returns-clause-found : goal.returns-clause-found
returns-clause-found c =
    let some : 0 < length c.loop-word.rest.now = grind (arith, nat_tests) in
    sym c.loop-word.invariant ∙ word_last _ c.in_default.ensures.none some
