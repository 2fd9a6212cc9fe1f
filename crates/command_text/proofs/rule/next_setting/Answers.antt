use Rattle.std.proofs.Common.{◌≡◌, ℕ, ◌<◌, ◌^◌}
use Rattle.std.specs.Fmt.{decimal}
use Rattle.command_text.proofs.Readings.{when_none}
use Rattle.command_text.proofs.Settings.{unnumbered}
use Rattle.command_text.proofs.rule.next_setting.Goals as goal

pub returns-in_err-read_decimal-in-Some-clause-none : goal.returns-in_err-read_decimal-in-Some-clause-none
returns-in_err-read_decimal-in-Some-clause-none c =
    let none : (n : ℕ) → n < 2 ^ 32 → c.in-Some.value.now ≡ decimal n →
    ⊥ = λ n h e. cc (c.in_err-read_decimal-in-Some.ensures.complete n h e) in
    when_none _ _ c.from_residual.ensures (unnumbered _ _ _ _ c.in-Some.ensures.found none)
