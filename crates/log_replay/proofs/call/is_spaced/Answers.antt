use Rattle.std.proofs.Common.{◌<◌, length, arith}
use Rattle.std.proofs.lemmas.Bool.Decides.{nat_tests}
use Rattle.log_replay.proofs.Calls.{spaced_before, spaced_after, spaced_word, word_spaced}
use Rattle.log_replay.proofs.call.is_spaced.Goals as goal

pub loop-word-preserved : goal.loop-word-preserved
loop-word-preserved c =
    let some : 0 < length c.in-Some.word.now = grind (arith, nat_tests) in record {
      whole = λ h. c.loop-word.invariant.whole
          (spaced_before c.loop-word.rest.now c.in-Some.word.now c.in-Some.after.now c.in-Some.ensures.whole
          c.in-Some.ensures.first some h);
      left = λ h. (spaced_after c.loop-word.rest.now c.in-Some.word.now c.in-Some.after.now c.in-Some.ensures.whole
          c.in-Some.ensures.first (c.loop-word.invariant.left h)).1;
    }

pub returns : goal.returns
returns c =
    let lacks = c.in_default.ensures.none in
    let rest = c.loop-word.rest.now in (
      (λ t. let some : 0 < length rest = grind (arith, nat_tests) in
          c.loop-word.invariant.whole (spaced_word rest lacks some)),
      (λ h. let some = word_spaced rest lacks (c.loop-word.invariant.left h) in grind (arith, nat_tests)),
    )
