use Rattle.std.proofs.Common.{◌≡◌, ◌<◌, ◌^◌, drop}
use Rattle.std.specs.Str.Parse.{AllDigits, digits_value_after, digits_value}
use Rattle.tree_json.proofs.pull.number_of.Given as goal

abbrev pub invariant-loop-byte : goal.invariant-loop-byte
invariant-loop-byte l = record {
  value : digits_value_after 10 l.value (drop l.byte-index l.digits) ≡ digits_value 10 l.digits;
  small : l.value < 2 ^ 32;
  digits : AllDigits 10 (drop l.byte-index l.digits) → AllDigits 10 l.digits;
}
