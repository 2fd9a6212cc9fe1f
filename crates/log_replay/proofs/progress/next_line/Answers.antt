use Rattle.std.proofs.Common.{◌+◌, ◌<◌, [], ◌∷◌, length, take, drop, ap, sym, ◌∙◌, arith, append-nil}
use Rattle.std.proofs.lemmas.Bool.Decides.{nat_tests}
use Rattle.std.proofs.lemmas.List.{length-take-le}
use Rattle.watched.specs.LineFeeds.{cut_at, no_cut}
use Rattle.log_replay.specs.Replaying.{most_bytes, most_lines}
use Rattle.log_replay.proofs.Steps.{lacks_whole}
use Rattle.log_replay.proofs.progress.next_line.Goals.{else-lines-ge-MOST_LINES-via-then-lines-ge-MOST_LINES+else-not-is_empty, else-lines-ge-MOST_LINES-via-else-lines-ge-MOST_LINES}
use Rattle.log_replay.proofs.progress.next_line.Goals as goal

pub returns-in_default : goal.returns-in_default
returns-in_default c =
    let pending = c.args.pending.now in
    let end = c.in-Some.end in
    let at = cut_at pending end (sym c.line_feed_at.ensures ∙ c.in-Some.is) in
    let len = ap length c.as_slice-bytes.ensures in
    let long : most_bytes < length (take end pending) = omega (
      arith,
      length-take-le end pending (omega (arith, at.0)),
      c.is_short.ensures.long c.if-is_short.false,
    ) in
    let few : c.args.lines < most_lines = elim c.else-lines-ge-MOST_LINES.branch [
      | else-lines-ge-MOST_LINES-via-then-lines-ge-MOST_LINES+else-not-is_empty w ↦ grind (arith, nat_tests)
      | else-lines-ge-MOST_LINES-via-else-lines-ge-MOST_LINES w ↦ grind (arith, nat_tests)
    ] in
    ((take end pending, 10 ∷ drop (end + 1) pending, at.2, lacks_whole (take end pending) at.1, long), few)

pub returns-in_default-2 : goal.returns-in_default-2
returns-in_default-2 c =
    let pending = c.args.pending.now in
    let len = ap length c.as_slice-bytes.ensures in
    let long : most_bytes < length pending = omega (arith, len, c.if-bytes-lt-CAPACITY.false) in
    let few : c.args.lines < most_lines = elim c.else-lines-ge-MOST_LINES.branch [
      | else-lines-ge-MOST_LINES-via-then-lines-ge-MOST_LINES+else-not-is_empty w ↦ grind (arith, nat_tests)
      | else-lines-ge-MOST_LINES-via-else-lines-ge-MOST_LINES w ↦ grind (arith, nat_tests)
    ] in (
      (
        pending,
        [],
        sym (append-nil pending),
        lacks_whole pending (no_cut pending (sym c.line_feed_at.ensures ∙ c.in-None.is)),
        long,
      ),
      few,
    )
