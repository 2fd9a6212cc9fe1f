use Rattle.std.proofs.Common.{arith, ◌≡◌, ◌-◌, ◌∙◌, length, drop, take, ◌≤◌}
use Rattle.std.proofs.lemmas.List.{take_rest, length-drop}
use Rattle.watched.proofs.Appending.{appends_more}
use Rattle.watched.proofs.output.write_all.Goals as goal

pub loop-done-preserved : goal.loop-done-preserved
loop-done-preserved g c =
    let bytes = c.args.bytes.now in
    let done = c.loop-done.done in
    let n = c.in_ok-done.field-0 in
    let whole : take (length bytes - done) (drop done bytes) ≡ drop done bytes = take_rest bytes done in
    let bound : n ≤ length (drop done bytes) = rw whole at c.in_ok-done.ensures.bound in
    record {
      in_range = omega (arith, length-drop done bytes);
      so_far = appends_more _ _ _ _ _ _ c.loop-done.invariant.so_far (rw whole at c.in_ok-done.ensures.bytes);
      calm = c.in_ok-done.ensures.ok ∙ c.loop-done.invariant.calm;
    }
