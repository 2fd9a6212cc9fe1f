use Rattle.std.proofs.Common.{◌≤◌, length, arith}
use Rattle.std.specs.Fmt.{decimal}
use Rattle.std.proofs.lemmas.Fmt.{length-decimal-le}
use Rattle.reply_text.proofs.backward.put_number.Goals as goal

pub write_digits-requires : goal.write_digits-requires
write_digits-requires c =
    let short : length (decimal c.from.result) ≤ 3 =
    length-decimal-le 3 c.from.result (omega arith) (omega arith) (omega arith) in
    (omega arith, c.requires.within)

pub returns-clause-start : goal.returns-clause-start
returns-clause-start c =
    let short : length (decimal c.from.result) ≤ 3 =
    length-decimal-le 3 c.from.result (omega arith) (omega arith) (omega arith) in
    omega (arith, c.write_digits.ensures.start)
