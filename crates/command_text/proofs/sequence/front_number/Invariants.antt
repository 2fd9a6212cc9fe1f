use Rattle.std.proofs.Common.{◌≡◌, ◌<◌, ◌^◌, take}
use Rattle.std.specs.Str.Parse.{AllDigits, digits_value}
use Rattle.command_text.proofs.sequence.front_number.Given as goal

-- the bytes so far are digits, and the value is theirs
abbrev pub invariant-loop-i : goal.invariant-loop-i
invariant-loop-i l = record {
  digits : AllDigits 10 (take l.i l.text);
  value : l.value ≡ digits_value 10 (take l.i l.text);
  small : l.value < 2 ^ 32;
}
