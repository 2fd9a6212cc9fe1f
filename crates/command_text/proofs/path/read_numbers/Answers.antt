use Rattle.std.proofs.Common.{sym, subst}
use Rattle.command_text.proofs.Numbers.{NumbersGoOn, numbers_first, numbers_after, numbers_last, numbers_go_more}
use Rattle.command_text.proofs.path.read_numbers.Goals as goal

pub returns-in_default-asn_of-clause-none : goal.returns-in_default-asn_of-clause-none
returns-in_default-asn_of-clause-none c has =
    let one = numbers_first 1 _ _ _ c.in-Some.ensures.whole c.in-Some.ensures.first (c.loop-first.invariant.down has) in
    c.in_default-asn_of.ensures one.0 one.1 one.2

pub loop-first-preserved : goal.loop-first-preserved
loop-first-preserved c =
    let read = c.in-Some-asn_of.ensures in
    let on = numbers_go_more 1 c.loop-first.numbers c.in-Some-asn_of.number _ _ _ _ c.in-Some.ensures.whole read.0
    read.1 c.loop-first.invariant.on in
    record {
      down = λ has. numbers_after 1 _ _ _ c.in-Some.ensures.whole c.in-Some.ensures.first
          (c.loop-first.invariant.down has);
      on = subst (λ ns. NumbersGoOn 1 ns c.in-Some.after.now c.args.text.now) (sym c.in_ok-push.ensures.ok) on;
    }

pub returns-in_default-asn_of-2-clause-none : goal.returns-in_default-asn_of-2-clause-none
returns-in_default-asn_of-2-clause-none c has =
    let one = numbers_last 1 _ c.in_default.ensures.none (c.loop-first.invariant.down has) in
    c.in_default-asn_of-2.ensures one.0 one.1 one.2
