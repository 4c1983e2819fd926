-- Names of groups, mended.
use Rattle.std.proofs.Common.{◌≡◌, ℕ, List, [], ◌∷◌, ◌++◌, map, take, true, false, refl, sym, ap, ◌∙◌, arith}
use Rattle.std.specs.Prelude.{codes, if◌then◌else◌}
use Rattle.std.specs.Char.{is_ascii_digit}
use Rattle.std.proofs.lemmas.Bool.Decides.{nat_tests}
use Rattle.std.proofs.lemmas.List.{take-map}
use Rattle.sop_model.specs.Limits.{most_name_bytes}
use Rattle.geo_text.specs.ObjStatements.{mended, mended_byte}
use Rattle.geo_text.specs.ObjScan.{begins_with_digit}

digit_stays : (b : ℕ) → is_ascii_digit (mended_byte b) ≡ is_ascii_digit b
digit_stays b = grind (arith, nat_tests)

pub mended_digit : (word : List ℕ) → begins_with_digit word ≡ true → codes "_" ++ map mended_byte (take 63 word) ≡ mended word
mended_digit [] h = cc
mended_digit (b ∷ word) h =
    let digit : is_ascii_digit (mended_byte b) ≡ true = digit_stays b ∙ h in
    ap (λ l. 95 ∷ l) (sym (take-map mended_byte 63 (b ∷ word))) ∙ ap (λ t. take most_name_bytes (if t then 95 ∷ map mended_byte (b ∷ word) else map mended_byte (b ∷ word))) (sym digit)

pub mended_plain : (word : List ℕ) → begins_with_digit word ≡ false → codes "" ++ map mended_byte (take most_name_bytes word) ≡ mended word
mended_plain [] h = refl
mended_plain (b ∷ word) h =
    let plain : is_ascii_digit (mended_byte b) ≡ false = digit_stays b ∙ h in
    sym (take-map mended_byte most_name_bytes (b ∷ word)) ∙ ap (λ t. take most_name_bytes (if t then 95 ∷ map mended_byte (b ∷ word) else map mended_byte (b ∷ word))) (sym plain)
