use Rattle.std.proofs.Common.{rules, ◌≡◌, ◌++◌, ◌∷◌, [], ℕ, ℤ, pos, negsuc, List, Result, Ok, Err, OnOk, is_ok, cond, unsigned_abs, refl, sym, ap, ◌∙◌}
use Rattle.std.specs.Fmt.{digits}
use Rattle.sop_fixed.specs.Numerals.{decimal_of}
use Rattle.geo_text.proofs.obj_writer.write_real.Goals as goal

zero_text : decimal_of (pos 0) ≡ 48 ∷ []
unfolding digits
zero_text = refl

zero_from : (x : ℤ) → unsigned_abs x ≡ 0 → x ≡ pos 0
zero_from (pos n) e = ap pos e
zero_from (negsuc n) e = cc

zero_written : {T E : Type 0} (r : Result T E) (old now : List ℕ) (x : ℤ) → x ≡ pos 0 → now ≡ cond (is_ok r) (old ++ 32 ∷ 48 ∷ []) old → OnOk r (now ≡ old ++ 32 ∷ decimal_of x)
zero_written (Ok y) old now x zero n = n ∙ ap (λ l. old ++ 32 ∷ l) (sym zero_text) ∙ ap (λ z. old ++ 32 ∷ decimal_of z) (sym zero)
zero_written (Err e) old now x zero n = tt

pub returns-then-unsigned_abs-eq0 : goal.returns-then-unsigned_abs-eq0
returns-then-unsigned_abs-eq0 c =
    let none : unsigned_abs c.args.number ≡ 0 = search rules in
    zero_written c.extend_from_slice.result c.args.text.now.items c.extend_from_slice.new.self.items c.args.number (zero_from c.args.number none) c.extend_from_slice.ensures.items
