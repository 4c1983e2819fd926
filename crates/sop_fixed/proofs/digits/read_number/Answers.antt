use Rattle.std.proofs.Common.{◌≡◌, ◌+◌, ◌*◌, ◌^◌, ◌≤◌, ◌<◌, ℕ, List, length, Bool, true, false, Some, None, IfSome, if◌then◌else◌, sym, subst, refl, arith}
use Rattle.sop_fixed.specs.Numerals.{are_digits, number_of}
use Rattle.sop_fixed.proofs.NumberOf.{few_below}
use Rattle.sop_fixed.proofs.digits.read_number.Goals as goal

below : (text : List ℕ) (most : ℕ) → length text ≤ most → (b : Bool) → b ≡ are_digits text → IfSome (if b then Some (0 * 10 ^ length text + number_of text) else None) (λ n. n < 10 ^ most)
below text most short true all = omega (arith, few_below text most (sym all) short)
below text most short false all = tt

pub returns-clause-below : goal.returns-clause-below
returns-clause-below c = subst (λ r. IfSome r (λ n. n < 10 ^ c.args.most)) (sym c.short_number.ensures) (below c.args.text.now c.args.most (omega arith) (are_digits c.args.text.now) refl)
