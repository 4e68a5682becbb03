use Rattle.std.proofs.Common.{◌≡◌, ◌≤◌, drop}
use Rattle.std.specs.Str.{all_ascii_digits}
use Rattle.invring_app.specs.Numerals.{digits_value, is_numeral}
use Rattle.invring_app.proofs.number.number.Given as goal

abbrev pub invariant-loop-byte : goal.invariant-loop-byte
invariant-loop-byte l = record {
  bound : l.value ≤ 4000000009;
  plain : is_numeral l.text ≡ all_ascii_digits l.text;
  all : all_ascii_digits (drop l.byte-index l.text) ≡ all_ascii_digits l.text;
  value : digits_value l.value (drop l.byte-index l.text) ≡ digits_value 0 l.text;
}
