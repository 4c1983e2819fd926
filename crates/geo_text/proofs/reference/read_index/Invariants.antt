use Rattle.std.proofs.Common.{◌≡◌, ◌≤◌, drop}
use Rattle.sop_fixed.specs.Numerals.{are_digits}
use Rattle.sop_fixed.proofs.Rounding.{going_on}
use Rattle.geo_text.proofs.reference.read_index.Given as goal

abbrev pub invariant-loop-byte : goal.invariant-loop-byte
invariant-loop-byte l = record {
  within : l.number ≤ 18446744073709551615;
  digits : are_digits (drop l.byte-index l.text) ≡ are_digits l.text;
  number : going_on l.number (drop l.byte-index l.text) 18446744073709551615 ≡ going_on 0 l.text 18446744073709551615;
}
