use Rattle.std.proofs.Common.{◌≡◌, ◌<◌, ◌^◌, take}
use Rattle.std.specs.Str.Parse.{AllDigits, digits_value}
use Rattle.decimal.proofs.value_of.Given as goal

-- the bytes so far are digits, and the value is theirs
abbrev pub invariant-loop-byte : goal.invariant-loop-byte
invariant-loop-byte l = record {
  digits : AllDigits 10 (take l.byte-index l.text);
  value : l.value ≡ digits_value 10 (take l.byte-index l.text);
  small : l.value < 2 ^ 32;
}
