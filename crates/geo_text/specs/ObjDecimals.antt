-- Plain decimals at the start of a text, as private contracts speak of them.
use Rattle.std.specs.Prelude.{◌≡◌, ℕ, ◌*◌, ◌^◌, Bool, true, false, ◌&&◌, nat_le, List, ◌∷◌, ◌++◌, length, Option, None, Some, Ok, ℤ}
use Rattle.std.specs.List.{list_all}
use Rattle.std.specs.Borrow.{Bor}
use Rattle.sop_fixed.specs.Numbers.{nearest}
use Rattle.sop_fixed.specs.Numerals.{is_some_digits, digits_of, number_of, fraction_of, after_sign, has_minus, value_of}
use Rattle.sop_fixed.specs.declared.vec3.Vec3.{Vec3}
use Rattle.geo_text.specs.ObjStatements.{place_in, vector_in}
use Rattle.geo_text.specs.ObjScan.{words_here}

-- a digit, a point, a minus or a slash
abbrev pub is_number_byte : ℕ → Bool
is_number_byte b = nat_le 45 b && nat_le b 57

-- digits, and places behind a point, that say a size in millionths
pub record IsPlainSize (word : List ℕ) (size : ℕ) : Type 0 where
  pub some : is_some_digits (digits_of word) ≡ true
  pub says : size ≡ nearest (number_of (digits_of word) * 10 ^ 6) (10 ^ length (fraction_of word))
  pub inside : list_all is_number_byte word ≡ true
  pub unsigned : after_sign word ≡ word
  pub positive : has_minus word ≡ false

-- a text that begins with such a size, and what stands behind it
abbrev pub LeadsWith : List ℕ → ℕ → List ℕ → Type 0
LeadsWith text size rest = (word : List ℕ) × (text ≡ word ++ rest) × IsPlainSize word size

-- the first word of a text says a number, and what stands behind it
abbrev pub SaysDecimal : List ℕ → ℤ → List ℕ → Type 0
SaysDecimal text number rest = (word : List ℕ) × (words_here text ≡ word ∷ words_here rest) × (value_of word ≡ Ok number)

-- the first three words of a text say a vector, and what stands behind them
abbrev pub SaysVector : List ℕ → Vec3 → List ℕ → Type 0
SaysVector text at rest = (x : List ℕ) × (y : List ℕ) × (z : List ℕ) × (words_here text ≡ x ∷ y ∷ z ∷ words_here rest) × (vector_in x y z ≡ Some at)

-- the vector of the first three words, or that the words are no place
abbrev pub IsFirstVector : Option (Vec3 × Bor (List ℕ)) → List ℕ → Type 0
IsFirstVector None text = place_in (words_here text) ≡ None
IsFirstVector (Some next) text = SaysVector text next.0 next.1.now
