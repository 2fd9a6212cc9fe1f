use Rattle.std.proofs.Common.{ℕ, List, sym, subst}
use Rattle.std.specs.Fmt.{decimal}
use Rattle.command_text.specs.Ascending.{IsFrom}
use Rattle.command_text.specs.Reading.{Reads}
use Rattle.command_text.proofs.Numbers.{NumbersGoOn, numbers_first, numbers_after, numbers_last, numbers_go_more}
use Rattle.command_text.proofs.Readings.{reads_some}
use Rattle.command_text.proofs.communities.build_numbers.Goals as goal

pub unwrap-requires : goal.unwrap-requires
unwrap-requires c =
    reads_some (IsFrom 0) decimal _ _ c.number_from.ensures
    (numbers_first 0 _ _ _ c.in-Some.ensures.whole c.in-Some.ensures.first c.loop-first.invariant.left)

pub loop-first-preserved : goal.loop-first-preserved
loop-first-preserved c =
    let read = subst (Reads (IsFrom 0) decimal c.in-Some.first.now) c.unwrap.ensures c.number_from.ensures in
    let on = numbers_go_more 0 c.loop-first.numbers.items c.unwrap.result _ _ _ _ c.in-Some.ensures.whole read.0 read.1
    c.loop-first.invariant.on in
    record {
      left = numbers_after 0 _ _ _ c.in-Some.ensures.whole c.in-Some.ensures.first c.loop-first.invariant.left;
      on = subst (λ ns. NumbersGoOn 0 ns c.in-Some.after.now c.args.text.now)
          (sym {A = List ℕ} c.in_ok-push.ensures.items) on;
    }

pub unwrap-requires-2 : goal.unwrap-requires-2
unwrap-requires-2 c = reads_some (IsFrom 0) decimal _ _ c.number_from-2.ensures
    (numbers_last 0 _ c.in_default.ensures.none c.loop-first.invariant.left)
