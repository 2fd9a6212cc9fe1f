use Rattle.std.proofs.Common.{◌≡◌, ◌+◌, ◌-◌, ℕ, length, position, slice_range, rules, Some, ap, sym, ◌∙◌, arith}
use Rattle.std.proofs.lemmas.List.{length-take, length-drop}
use Rattle.watched.proofs.BufferLemmas.{cut}
use Rattle.watched.specs.LineFeeds.{is_line_feed, position_after, position_nowhere}
use Rattle.watched.proofs.line_buffer.LineBuffer.line_feed_at.Goals as goal

pub returns-in_err-index : goal.returns-in_err-index
returns-in_err-index g c =
    let b = c.self.inside in
    let front = slice_range b.bytes.items b.start b.searched in
    let back = slice_range b.bytes.items b.searched b.end in
    let parts = cut b.bytes.items b.start b.searched b.end c.self.invariant.0 c.self.invariant.1 in
    let now : c.as_slice.result.now ≡ b.bytes.items = search rules in
    rw c.from_residual.ensures (sym (ap (position is_line_feed) (sym c.self.view_is ∙ parts)
    ∙ position_nowhere front back c.self.invariant.4 (ap (λ xs. position is_line_feed (slice_range xs b.searched b.end))
    (sym now) ∙ sym c.line_feed_in.ensures ∙ c.in_err-index.was)))

pub returns : goal.returns
returns g c =
    let b = c.self.inside in
    let front = slice_range b.bytes.items b.start b.searched in
    let back = slice_range b.bytes.items b.searched b.end in
    let parts = cut b.bytes.items b.start b.searched b.end c.self.invariant.0 c.self.invariant.1 in
    let len : length front ≡ b.searched - b.start = omega (arith, length-take {A = ℕ}, length-drop {A = ℕ}) in
    let now : c.as_slice.result.now ≡ b.bytes.items = search rules in
    sym (ap (position is_line_feed) (sym c.self.view_is ∙ parts)
    ∙ position_after front back c.in_ok-index.index c.self.invariant.4
    (ap (λ xs. position is_line_feed (slice_range xs b.searched b.end)) (sym now) ∙ sym c.line_feed_in.ensures
    ∙ c.in_ok-index.was)
    ∙ ap (λ n. Some (n + c.in_ok-index.index)) len)
