use Rattle.std.proofs.Common.{◌-◌, ◌≡◌, ◌≤◌, ◌<◌, true, length, take}
use Rattle.sop_fixed.specs.Numerals.{are_digits, number_of}
use Rattle.geo_text.proofs.leading.leading_number.Given as goal

abbrev pub invariant-loop-number : goal.invariant-loop-number
invariant-loop-number l = record {
  within : l.len ≤ length l.text;
  digits : are_digits (take l.len l.text) ≡ true;
  number : l.number ≡ number_of (take l.len l.text);
  small : l.number < 1000000000;
}

abbrev pub decreases-loop-number : goal.decreases-loop-number
decreases-loop-number l = length l.text - l.len
