-- What texts that parameters take are read as.
use Rattle.std.proofs.Common.{◌≡◌, refl, ap, ℕ, zero, suc, ℤ, List, [], ◌∷◌, Bool, true, false, IsTrue, length, nat_le}
use Rattle.std.specs.Prelude.{None, Some, Result, Ok, Err, slice_get, int_le, is_ok, if◌then◌else◌}
use Rattle.std.specs.Result.{result_ok}
use Rattle.std.proofs.lemmas.Bool.{and_parts}
use Rattle.sop_fixed.specs.Numerals.{value_of, after_minus, whole_number_of}
use Rattle.sop_fixed.specs.declared.fault.NumeralFault.{NumeralFault}
use Rattle.sop_net.specs.Limits.{most_whole_digits}
use Rattle.sop_net.specs.NodeTable.{Parm, Whole, Numeral}
use Rattle.sop_net.specs.ParmValues.{is_value, is_between}
use Rattle.sop_net.specs.Network.{AreValues}

-- there are as many texts as parameters
pub values-length : (parms : List Parm) (texts : List (List ℕ)) → AreValues parms texts → length texts ≡ length parms
values-length [] [] v = refl
values-length [] (t ∷ texts) v = absurd v
values-length (p ∷ parms) [] v = absurd v
values-length (p ∷ parms) (t ∷ texts) v = ap suc (values-length parms texts v.1)

-- each text is one that the parameter at its place takes
pub value-at : (parms : List Parm) (texts : List (List ℕ)) (i : ℕ) (p : Parm) (text : List ℕ) → AreValues parms texts → slice_get parms i ≡ Some p → slice_get texts i ≡ Some text → IsTrue (is_value p.kind text)
value-at [] texts i p text v e t = absurd (cc)
value-at (q ∷ parms) [] i p text v e t = absurd v
value-at (q ∷ parms) (s ∷ texts) zero p text v e t =
    let kind : q ≡ p = cc in
    let same : s ≡ text = cc in
    rw (← kind, ← same) v.0
value-at (q ∷ parms) (s ∷ texts) (suc i) p text v e t = value-at parms texts i p text v.1 e t

-- a text that a parameter of whole numbers takes says an Int within its bounds
pub record SaysWhole (low high : ℤ) (text : List ℕ) : Type 0 where
  pub number : ℤ
  pub is : whole_number_of text ≡ Ok number
  pub from : IsTrue (int_le low number)
  pub to : IsTrue (int_le number high)

pub whole-said : (low high : ℤ) (text : List ℕ) → IsTrue (is_value (Whole low high) text) → SaysWhole low high text
whole-said low high text h = by (nat_le (length (after_minus text)) most_whole_digits) (whole_number_of text) refl h
  where
    by : (short : Bool) (number : Result ℤ NumeralFault) → whole_number_of text ≡ number → IsTrue (is_between low high (if short then result_ok number else None)) → SaysWhole low high text
    by true (Ok n) is h = let parts = and_parts (int_le low n) (int_le n high) h in record { number = n; is = is; from = parts.0; to = parts.1 }
    by true (Err fault) is h = let no : ⊥ = cc in absurd no
    by false number is h = let no : ⊥ = cc in absurd no

-- a text that a parameter of numerals takes says a Real
pub numeral-said : (text : List ℕ) → IsTrue (is_value Numeral text) → (x : ℤ) × (value_of text ≡ Ok x)
numeral-said text h = by (value_of text) refl h
  where
    by : (number : Result ℤ NumeralFault) → value_of text ≡ number → IsTrue (is_ok number) → (x : ℤ) × (value_of text ≡ Ok x)
    by (Ok x) is h = (x, is)
    by (Err fault) is h = let no : ⊥ = cc in absurd no
