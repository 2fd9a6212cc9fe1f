use Rattle.std.proofs.Common.{◌≡◌, true, ◌<◌, length, ap, sym, ◌∙◌, arith}
use Rattle.std.proofs.lemmas.Bool.{true≢false}
use Rattle.std.proofs.lemmas.Bool.Decides.{nat_tests}
use Rattle.log_replay.specs.Replaying.{Place, is_finished}
use Rattle.log_replay.specs.Reading.{IsAt}
use Rattle.log_replay.proofs.Steps.{end_bad}
use Rattle.log_replay.proofs.progress.ending.Goals.{else-is_empty-via-then-is_empty+else-has_ended, else-is_empty-via-else-is_empty}
use Rattle.log_replay.proofs.progress.ending.Goals as goal

pub returns : goal.returns
returns c = λ bytes i s read comes.
    let pending = c.args.progress.now.pending in
    let checker = c.args.progress.now.checker in
    let len = ap length c.as_slice.ensures in
    let more : (p : Place) → IsAt checker s p → is_finished p ≡ true →
    0 < length pending = λ p at finished. elim c.else-is_empty.branch [
      | else-is_empty-via-then-is_empty+else-has_ended w ↦
          absurd (true≢false (sym finished ∙ sym (w.has_ended.ensures s p at) ∙ w.if-has_ended.false))
      | else-is_empty-via-else-is_empty w ↦ grind (arith, nat_tests)
    ] in
    end_bad bytes pending c.args.progress.now.lines checker s i c.requires.next more comes
