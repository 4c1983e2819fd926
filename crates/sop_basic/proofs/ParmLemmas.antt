-- The texts of parameters, as their types take them.
use Rattle.std.proofs.Common.{◌≡◌, ℕ, zero, suc, ◌≤◌, ◌&&◌, Bool, true, false, List, [], ◌∷◌, length, refl, ap, subst, arith}
use Rattle.std.specs.Prelude.{ℤ, pos, negsuc, int_le, unsigned_abs, Option, Some, None, slice_get, IsTrue, nat_le, if◌then◌else◌, unwrap_or}
use Rattle.std.specs.Result.{result_ok}
use Rattle.std.proofs.lemmas.Bool.{and_parts}
use Rattle.sop_fixed.specs.Numerals.{after_minus, whole_number_of}
use Rattle.sop_net.specs.Limits.{most_whole_digits}
use Rattle.sop_net.specs.NodeTable.{Parm, Whole}
use Rattle.sop_net.specs.ParmValues.{is_value, is_between}
use Rattle.sop_net.specs.Network.{AreValues, parm_at}
use Rattle.sop_basic.specs.ParmTexts.{count_in}

pub values_long : (parms : List Parm) (texts : List (List ℕ)) → AreValues parms texts → length texts ≡ length parms
values_long [] [] are = refl
values_long [] (text ∷ texts) are = absurd are
values_long (p ∷ parms) [] are = absurd are
values_long (p ∷ parms) (text ∷ texts) are = ap suc (values_long parms texts are.1)

pub value_at : (parms : List Parm) (texts : List (List ℕ)) → AreValues parms texts → (i : ℕ) (p : Parm) → slice_get parms i ≡ Some p → IsTrue (is_value p.kind (parm_at texts i))
value_at [] [] are i p is = absurd (cc)
value_at [] (text ∷ texts) are i p is = absurd are
value_at (p ∷ parms) [] are i q is = absurd are
value_at (p ∷ parms) (text ∷ texts) are zero q is = let same : p ≡ q = cc in subst (λ (x : Parm). IsTrue (is_value x.kind text)) same are.0
value_at (p ∷ parms) (text ∷ texts) are (suc i) q is = value_at parms texts are.1 i q is

pub parm_read : (texts : List (List ℕ)) (i : ℕ) (text : List ℕ) → slice_get texts i ≡ Some text → parm_at texts i ≡ text
parm_read [] i text is = absurd (cc)
parm_read (t ∷ texts) zero text is = cc
parm_read (t ∷ texts) (suc i) text is = parm_read texts i text is

between : (low high : ℕ) (z : ℤ) → int_le (pos low) z && int_le z (pos high) ≡ true → (low ≤ unsigned_abs z) × (unsigned_abs z ≤ high)
between low high (pos n) is = let both = and_parts (int_le (pos low) (pos n)) (int_le (pos n) (pos high)) is in (grind (arith, both.0), grind (arith, both.1))
between low high (negsuc n) is = let both = and_parts (int_le (pos low) (negsuc n)) (int_le (negsuc n) (pos high)) is in absurd (cc)

short : (low high : ℕ) (few : Bool) (o : Option ℤ) → is_between (pos low) (pos high) (if few then o else None) ≡ true → (low ≤ unsigned_abs (unwrap_or o (pos 0))) × (unsigned_abs (unwrap_or o (pos 0)) ≤ high)
short low high true (Some z) is = between low high z is
short low high true None is = absurd (cc)
short low high false o is = absurd (cc)

pub count_between : (low high : ℕ) (text : List ℕ) → IsTrue (is_value (Whole (pos low) (pos high)) text) → (low ≤ count_in text) × (count_in text ≤ high)
count_between low high text is = short low high (nat_le (length (after_minus text)) most_whole_digits) (result_ok (whole_number_of text)) is
