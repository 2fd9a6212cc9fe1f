use Rattle.std.proofs.Common.{◌≡◌, ℕ, ◌+◌, List, None, rules, sym, subst, ◌∙◌}
use Rattle.room.specs.Books.{SeatBook}
use Rattle.team_run.specs.declared.told.ToldLine.{ToldLine}
use Rattle.team_run.specs.Playing.{AreCalledFrom, IsLineCalled}
use Rattle.team_run.proofs.Calls.{called_more, none_called}
use Rattle.team_run.proofs.engineer.play.Goals as goal

pub loop-line-preserved : goal.loop-line-preserved
loop-line-preserved g c = λ (end : SeatBook) (told : List ToldLine) rest.
    let file = c.engineer.inside.file in
    let line = c.in-Some.line.bytes.now in
    let left = c.next.new.self.left in
    let old = c.loop-line.seat in
    let mid = c.call-uncalled.new.seat in
    let before = c.loop-line.told in
    let between = c.add.new.self in
    let number : ℕ = c.loop-line.lines.before + 1 in
    let first : IsLineCalled file number old line c.call-uncalled.result mid =
    subst (λ n. IsLineCalled file n old line c.call-uncalled.result mid) c.in-Some.ensures.number c.call-uncalled.ensures in
    let others : AreCalledFrom file (number + 1) left mid end between told =
    subst (λ n. AreCalledFrom file (n + 1) left mid end between told)
    (c.in-Some.ensures.count ∙ c.in-Some.ensures.number) rest in
    c.loop-line.invariant end told
    (subst (λ ls. AreCalledFrom file number ls old end before told) (sym c.in-Some.ensures.line)
    (called_more file number line left c.call-uncalled.result old mid end before between told first c.in_ok-add.ensures others))

pub returns : goal.returns
returns g c =
    let none : c.next.result ≡ None = search rules in
    let seat = c.loop-line.seat in
    let told = c.loop-line.told in
    let file = c.engineer.inside.file in
    let number : ℕ = c.loop-line.lines.before + 1 in
    c.loop-line.invariant seat told (subst (λ ls. AreCalledFrom file number ls seat seat told told)
    (sym (c.next.ensures.none none)) (none_called file number seat told))
