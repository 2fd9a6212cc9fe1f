use Rattle.std.proofs.Common.{rules, ◌≡◌, ◌≤◌, ◌+◌, ◌++◌, ◌-◌, ℕ, eqb, false, length, take, ap, ◌∙◌, slice_range, vec_len, arith}
use Rattle.std.proofs.lemmas.Bool.{ltb-true, ltb-false}
use Rattle.std.proofs.lemmas.List.{length-take-le, length-take, length-drop}
use Rattle.std.proofs.lemmas.List.Elements.{All-same}
use Rattle.watched.proofs.BufferLemmas.{refilled, kept}
use Rattle.watched.specs.LineFeeds.{no_cut}
use Rattle.watched.proofs.line_buffer.LineBuffer.read_more.Goals as goal

pub invariant_of-self : goal.invariant_of-self
invariant_of-self g c =
    let b = c.self.inside in
    let held = b.end - b.start in
    let there = c.move_to_front.new.bytes in
    let value : c.as_mut_slice-bytes.result.now ≡ b.bytes.items = search rules in
    let whole : held - 0 ≡ held = omega arith in
    let within : held ≤ length there = omega (
      arith,
      c.move_to_front.auto.bytes,
      ap length value,
      c.self.invariant.2,
      c.self.invariant.3,
    ) in
    let front : slice_range there 0 held ≡ c.args.self.now =
    ap (λ j. take j there) whole ∙ c.move_to_front.ensures ∙ ap (λ xs. slice_range xs b.start b.end) value
    ∙ c.self.view_is in (
      omega arith,
      omega arith,
      omega arith,
      c.self.invariant.3,
      All-same (λ x. eqb x 10 ≡ false) _ c.args.self.now
          (kept there c.read.new.buffer b.bytes.items (vec_len b.bytes) held _ within (omega arith)
          ∙ front) (no_cut c.args.self.now c.requires.whole),
    )

pub invariant_of-self-2 : goal.invariant_of-self-2
invariant_of-self-2 g c =
    let b = c.self.inside in
    let held = b.end - b.start in
    let there = c.move_to_front.new.bytes in
    let value : c.as_mut_slice-bytes.result.now ≡ b.bytes.items = search rules in
    let whole : held - 0 ≡ held = omega arith in
    let bound : c.in_ok-count.count ≤ length c.read.new.buffer = c.in_ok-count.ensures.bound in
    let within : held ≤ length there = omega (
      arith,
      c.move_to_front.auto.bytes,
      ap length value,
      c.self.invariant.2,
      c.self.invariant.3,
    ) in
    let front : slice_range there 0 held ≡ c.args.self.now =
    ap (λ j. take j there) whole ∙ c.move_to_front.ensures ∙ ap (λ xs. slice_range xs b.start b.end) value
    ∙ c.self.view_is in (
      omega arith,
      omega arith,
      omega (arith, c.read.auto.buffer, c.move_to_front.auto.bytes, ap length value),
      c.self.invariant.3,
      All-same (λ x. eqb x 10 ≡ false) _ c.args.self.now
          (kept there c.read.new.buffer b.bytes.items (vec_len b.bytes) held _ within (omega arith)
          ∙ front) (no_cut c.args.self.now c.requires.whole),
    )

pub returns-clause-ok : goal.returns-clause-ok
returns-clause-ok g c =
    let b = c.self.inside in
    let held = b.end - b.start in
    let n = c.in_ok-count.count in
    let read = c.read.new.buffer in
    let there = c.move_to_front.new.bytes in
    let value : c.as_mut_slice-bytes.result.now ≡ b.bytes.items = search rules in
    let len : length (slice_range b.bytes.items b.start b.end) ≡ held = omega (
      arith,
      length-take {A = ℕ},
      length-drop {A = ℕ},
    ) in
    let room = rw (← c.self.view_is) at c.requires.room in
    let bound : n ≤ length read = c.in_ok-count.ensures.bound in
    let within : held ≤ length there = omega (arith, c.move_to_front.auto.bytes, ap length value) in
    let whole : held - 0 ≡ held = omega arith in
    let front : slice_range there 0 held ≡ c.args.self.now =
    ap (λ j. take j there) whole ∙ c.move_to_front.ensures ∙ ap (λ xs. slice_range xs b.start b.end) value
    ∙ c.self.view_is in
    let fits : held + n ≤ vec_len b.bytes = omega (
      arith,
      c.read.auto.buffer,
      c.move_to_front.auto.bytes,
      ap length value,
    ) in (
      take n read,
      refilled there read b.bytes.items (vec_len b.bytes) held _ n within bound fits ∙ ap (λ t. t ++ take n read) front,
      c.in_ok-count.ensures.bytes.0,
      (λ t. let some = ltb-true 0 n t in omega (arith, length-take-le n read bound)),
      (λ f. let none : n ≡ 0 = omega (arith, ltb-false 0 n f) in (
        ap (λ j. take j read) none,
        c.in_ok-count.ensures.bytes.1 none (omega (
          arith,
          c.read.auto.buffer,
          c.move_to_front.auto.bytes,
          ap length value,
        )),
      )),
    )
