-- What the words of a text that is written say.
use Rattle.std.proofs.Common.{◌≡◌, ℕ, ◌^◌, ◌<◌, ◌≤◌, List, [], ◌∷◌, ◌++◌, length, map, take, append_assoc, append-nil, refl, ap, ◌∙◌, arith, rules, Option, Some, None, Bool, true, false}
use Rattle.std.specs.Prelude.{◌&&◌, ◌==◌, nat_lt, nat_le, codes, decimal, if◌then◌else◌, option_map}
use Rattle.std.specs.List.{list_all, slice_split, onto_first}
use Rattle.std.specs.Char.{is_ascii_digit}
use Rattle.std.proofs.lemmas.Bool.{and_parts, and_from}
use Rattle.std.proofs.lemmas.Bool.Decides.{nat_tests}
use Rattle.std.proofs.lemmas.List.{take_all}
use Rattle.std.proofs.lemmas.Fmt.{digits_decimal, digits_value-decimal, decimal_nonempty}
use Rattle.std.proofs.lemmas.Str.Parse.{IsNumeralModel, numerals_by_weight}
use Rattle.sop_fixed.specs.declared.vec3.Vec3.{Vec3}
use Rattle.sop_fixed.specs.Numerals.{number_of, is_sign, is_some_digits, after_sign, decimal_of}
use Rattle.sop_fixed.proofs.RoundTrip.{reads_back}
use Rattle.sop_model.specs.declared.geo.Row.{Row}
use Rattle.sop_model.specs.Limits.{most_name_bytes}
use Rattle.sop_model.specs.Names.{is_name, starts_name, continues_name}
use Rattle.sop_model.specs.Places.{place_of}
use Rattle.geo_text.specs.declared.obj_writer.Parts.{Parts}
use Rattle.geo_text.specs.ObjLines.{is_filled}
use Rattle.geo_text.specs.ObjStatements.{Part, Absent, Ahead, Wrong, Point, Texture, Normal, vector_in, place_with, counted, part_of, reference_of, reference_from, without_empty_end, mended, mended_byte, with_start, statement_of}
use Rattle.geo_text.specs.ObjText.{parts_text, vector_under}
use Rattle.geo_text.specs.ObjWords.{vector_words, point_words}
use Rattle.geo_text.specs.ObjRange.{IsRealVector, IsRealUnder}

own : IsNumeralModel (λ ds. list_all is_ascii_digit ds ≡ true) number_of
own = numerals_by_weight _ (search rules) number_of (search rules)

-- ---- vectors
pub vector_back : (v : Vec3) → IsRealVector v → vector_in (decimal_of v.x) (decimal_of v.y) (decimal_of v.z) ≡ Some v
vector_back v real = rw (reads_back v.x real.0, reads_back v.y real.1, reads_back v.z real.2) refl

pub point_back : (colour : Option ℕ) (row : Row) → IsRealVector (place_of row) → IsRealUnder colour row
    → statement_of (point_words colour row) ≡ Point (Some (record { at = place_of row; colour = option_map (λ head. vector_under head row) colour }))
point_back None row place real = ap (λ v. Point (option_map (λ at. record { at = at; colour = None }) v)) (vector_back (place_of row) place)
point_back (Some head) row place real =
    ap (λ v. Point (place_with v (vector_in (decimal_of (vector_under head row).x) (decimal_of (vector_under head row).y) (decimal_of (vector_under head row).z)))) (vector_back (place_of row) place)
    ∙ ap (λ v. Point (place_with (Some (place_of row)) v)) (vector_back (vector_under head row) real)

pub texture_back : (v : Vec3) → IsRealVector v → statement_of (codes "vt" ∷ vector_words v) ≡ Texture (Some v)
texture_back v real = ap Texture (vector_back v real)

pub normal_back : (v : Vec3) → IsRealVector v → statement_of (codes "vn" ∷ vector_words v) ≡ Normal (Some v)
normal_back v real = ap Normal (vector_back v real)

-- ---- references
digit_sign : (b : ℕ) → is_ascii_digit b ≡ true → is_sign b ≡ false
digit_sign b h = grind (arith, nat_tests)

digit_minus : (b : ℕ) → is_ascii_digit b ≡ true → (b == 45) ≡ false
digit_minus b h = grind (arith, nat_tests)

digit_slash : (b : ℕ) → is_ascii_digit b ≡ true → (b == 47) ≡ false
digit_slash b h = grind (arith, nat_tests)

digits_part : (ds : List ℕ) → 0 < length ds → list_all is_ascii_digit ds ≡ true → part_of ds ≡ Ahead (number_of ds)
digits_part [] some h = absurd (omega arith)
digits_part (d ∷ ds) some h =
    let first = (and_parts (is_ascii_digit d) (list_all is_ascii_digit ds) h).0 in
    let plain : after_sign (d ∷ ds) ≡ d ∷ ds = rw (digit_sign d first) refl in
    let digits : is_some_digits (d ∷ ds) ≡ true = (let long : nat_lt 0 (length (d ∷ ds)) ≡ true = grind (arith, nat_tests) in and_from (nat_lt 0 (length (d ∷ ds))) (list_all is_ascii_digit (d ∷ ds)) long h) in
    ap (λ t. if is_some_digits t then counted (d == 45) (number_of t) else Wrong) plain
    ∙ ap (λ b. if b then counted (d == 45) (number_of (d ∷ ds)) else Wrong) digits ∙ ap (λ b. counted b (number_of (d ∷ ds))) (digit_minus d first)

part_back : (n : ℕ) → n < 2 ^ 64 → part_of (decimal n) ≡ Ahead n
part_back n h = digits_part (decimal n) (decimal_nonempty n h) (digits_decimal own n h) ∙ ap Ahead (digits_value-decimal own n h)

one_part : (ds : List ℕ) → list_all is_ascii_digit ds ≡ true → slice_split (λ b. b == 47) ds ≡ ds ∷ []
one_part [] h = refl
one_part (d ∷ ds) h =
    let parts = and_parts (is_ascii_digit d) (list_all is_ascii_digit ds) h in rw (digit_slash d parts.0) (ap (onto_first d) (one_part ds parts.1))

part_before : (ds rest : List ℕ) → list_all is_ascii_digit ds ≡ true → slice_split (λ b. b == 47) (ds ++ 47 ∷ rest) ≡ ds ∷ slice_split (λ b. b == 47) rest
part_before [] rest h = refl
part_before (d ∷ ds) rest h =
    let parts = and_parts (is_ascii_digit d) (list_all is_ascii_digit ds) h in rw (digit_slash d parts.0) (ap (onto_first d) (part_before ds rest parts.1))

filled_decimal : (n : ℕ) → n < 2 ^ 64 → is_filled (decimal n) ≡ true
filled_decimal n h = some (decimal n) (decimal_nonempty n h)
  where
    some : (ds : List ℕ) → 0 < length ds → is_filled ds ≡ true
    some [] h = absurd (omega arith)
    some (d ∷ ds) h = refl

-- the part that is there where it is wanted
abbrev pub part_if : Bool → ℕ → Part
part_if true k = Ahead k
part_if false k = Absent

reference_plain : (a k : ℕ) (t n : Bool) → a < 2 ^ 64 → k < 2 ^ 64
    → reference_of (decimal a ++ (if t then (if n then codes "/" ++ decimal k ++ codes "/" ++ decimal k else codes "/" ++ decimal k) else (if n then codes "//" ++ decimal k else [])))
    ≡ record { point = Ahead a; texture = part_if t k; normal = part_if n k; is_long = false }
reference_plain a k true true h i =
    let x = decimal a in
    let y = decimal k in
    let dx = digits_decimal own a h in
    let dy = digits_decimal own k i in
    let split : slice_split (λ b. b == 47) (x ++ 47 ∷ (y ++ 47 ∷ y)) ≡ x ∷ y ∷ y ∷ [] = part_before x (y ++ 47 ∷ y) dx ∙ ap (λ l. x ∷ l) (part_before y y dy ∙ ap (λ l. y ∷ l) (one_part y dy)) in
    let text : x ++ (codes "/" ++ y ++ codes "/" ++ y) ≡ x ++ 47 ∷ (y ++ 47 ∷ y) = ap (λ l. x ++ l) (append_assoc (codes "/" ++ y) (codes "/") y) in
    ap reference_of text ∙ ap (λ l. reference_from (without_empty_end l)) split ∙ rw (filled_decimal k i) (rw (part_back a h, part_back k i) refl)
reference_plain a k true false h i =
    let x = decimal a in
    let y = decimal k in
    let split : slice_split (λ b. b == 47) (x ++ 47 ∷ y) ≡ x ∷ y ∷ [] = part_before x y (digits_decimal own a h) ∙ ap (λ l. x ∷ l) (one_part y (digits_decimal own k i)) in
    ap (λ l. reference_from (without_empty_end l)) split ∙ rw (filled_decimal k i) (rw (part_back a h, part_back k i) refl)
reference_plain a k false true h i =
    let x = decimal a in
    let y = decimal k in
    let split : slice_split (λ b. b == 47) (x ++ 47 ∷ 47 ∷ y) ≡ x ∷ [] ∷ y ∷ [] = part_before x (47 ∷ y) (digits_decimal own a h) ∙ ap (λ l. x ∷ [] ∷ l) (one_part y (digits_decimal own k i)) in
    ap (λ l. reference_from (without_empty_end l)) split ∙ rw (filled_decimal k i) (rw (part_back a h, part_back k i) refl)
reference_plain a k false false h i =
    let x = decimal a in
    ap reference_of (append-nil x) ∙ ap (λ l. reference_from (without_empty_end l)) (one_part x (digits_decimal own a h)) ∙ rw (filled_decimal a h) (rw (part_back a h) refl)

pub reference_back : (parts : Parts) (a k : ℕ) → a < 2 ^ 64 → k < 2 ^ 64
    → reference_of (decimal a ++ parts_text parts k) ≡ record { point = Ahead a; texture = part_if parts.texture k; normal = part_if parts.normal k; is_long = false }
reference_back parts a k h i = reference_plain a k parts.texture parts.normal h i

-- ---- names
name_kept : (b : ℕ) → continues_name b ≡ true → mended_byte b ≡ b
name_kept b h = rw h refl

names_kept : (name : List ℕ) → list_all continues_name name ≡ true → map mended_byte name ≡ name
names_kept [] h = refl
names_kept (b ∷ name) h =
    let parts = and_parts (continues_name b) (list_all continues_name name) h in ap (λ x. x ∷ map mended_byte name) (name_kept b parts.0) ∙ ap (λ l. b ∷ l) (names_kept name parts.1)

first_continues : (b : ℕ) → starts_name b ≡ true → continues_name b ≡ true
first_continues b h = grind (arith, nat_tests)

first_plain : (b : ℕ) → starts_name b ≡ true → is_ascii_digit b ≡ false
first_plain b h = grind (arith, nat_tests)

short_name : (name : List ℕ) → nat_le (length name) most_name_bytes ≡ true → length name ≤ most_name_bytes
short_name name h = grind (arith, nat_tests)

pub name_back : (name : List ℕ) → is_name name ≡ true → mended name ≡ name
name_back [] h = cc
name_back (b ∷ name) h =
    let outer = and_parts (starts_name b && list_all continues_name name) (nat_le (length (b ∷ name)) most_name_bytes) h in
    let inner = and_parts (starts_name b) (list_all continues_name name) outer.0 in
    let same = names_kept (b ∷ name) (and_from (continues_name b) (list_all continues_name name) (first_continues b inner.0) inner.1) in
    ap (λ l. take most_name_bytes (with_start l)) same
    ∙ ap (λ t. take most_name_bytes (if t then 95 ∷ b ∷ name else b ∷ name)) (first_plain b inner.0) ∙ take_all most_name_bytes (b ∷ name) (short_name (b ∷ name) outer.1)

pub names_back : (names : List (List ℕ)) → list_all is_name names ≡ true → map mended names ≡ names
names_back [] h = refl
names_back (name ∷ names) h =
    let parts = and_parts (is_name name) (list_all is_name names) h in ap (λ x. x ∷ map mended names) (name_back name parts.0) ∙ ap (λ l. name ∷ l) (names_back names parts.1)
