-- What the pieces of a text that isn't refused keep: references name elements, names of groups are names, and primitives have corners.
use Rattle.std.proofs.Common.{◌≡◌, ℕ, zero, suc, ◌+◌, ◌-◌, ◌<◌, ◌≤◌, List, [], ◌∷◌, length, map, take, refl, sym, ap, ◌∙◌, subst, arith, Ok, Option, Some, None, Bool, true, false, inl, inr}
use Rattle.std.specs.Prelude.{◌&&◌, All, nat_le, nat_lt, filter, filter_map, sum_by}
use Rattle.std.specs.List.{list_all, slice_split}
use Rattle.std.specs.Char.{is_ascii_digit}
use Rattle.std.proofs.lemmas.Bool.{cases_Bool, and_parts, and_from}
use Rattle.std.proofs.lemmas.Bool.Decides.{nat_tests}
use Rattle.std.proofs.lemmas.List.{length-map, length-take}
use Rattle.std.proofs.lemmas.List.Elements.{All-nil, All-cons}
use Rattle.std.proofs.lemmas.List.Sums.{sum_by-cons}
use Rattle.sop_model.specs.Limits.{most_name_bytes}
use Rattle.sop_model.specs.Names.{is_name, starts_name, continues_name}
use Rattle.geo_text.specs.declared.reference.Counts.{Counts}
use Rattle.geo_text.specs.declared.reference.Named.{Named}
use Rattle.geo_text.specs.declared.reader.Keyword.{Keyword}
use Rattle.geo_text.specs.declared.reader.Keyword.TheVariants as key
use Rattle.geo_text.specs.ObjLines.{joints_in, is_filled, is_blank, is_comment, before_comment, words_of}
use Rattle.geo_text.specs.ObjStatements.{Part, Absent, Ahead, Back, Wrong, Reference, Statement, reference_of, mended, mended_byte, shape_in, statement_of, place_in, texture_in, normal_in}
use Rattle.geo_text.specs.ObjMeaning.{Piece, PointPiece, TexturePiece, NormalPiece, ShapePiece, GroupsPiece, NoPiece, Said, within, element_of, named_or_index, needed, optional, named_by, each_of, piece_of, pieces_of, counted_in, counts_of, references_of, is_shape, place_of, Shaped, shapes_under}
use Rattle.geo_text.specs.ObjRun.{statement_as}
use Rattle.geo_text.specs.ObjSurvey.{key_of}
use Rattle.geo_text.specs.ObjLoop.{counts_sum}
use Rattle.geo_text.proofs.ObjCounting.{key_says, said_lines}
use Rattle.geo_text.proofs.ObjFound.{ok_of, ok_then, ended_ok, or_number_ok, put_ok}
use Rattle.geo_text.proofs.ObjLooping.{counts_more, counts_below}

-- ---- names
continues : (b : ℕ) → continues_name (mended_byte b) ≡ true
continues b = grind (arith, nat_tests)

all_continue : (word : List ℕ) → list_all continues_name (map mended_byte word) ≡ true
all_continue [] = refl
all_continue (b ∷ word) = and_from (continues_name (mended_byte b)) (list_all continues_name (map mended_byte word)) (continues b) (all_continue word)

take_continue : (n : ℕ) (name : List ℕ) → list_all continues_name name ≡ true → list_all continues_name (take n name) ≡ true
take_continue zero name h = refl
take_continue (suc n) [] h = refl
take_continue (suc n) (b ∷ name) h =
    let parts = and_parts (continues_name b) (list_all continues_name name) h in
    and_from (continues_name b) (list_all continues_name (take n name)) parts.0 (take_continue n name parts.1)

starts : (b : ℕ) → continues_name b ≡ true → is_ascii_digit b ≡ false → starts_name b ≡ true
starts b c d = grind (arith, nat_tests)

short_name : (b : ℕ) (name : List ℕ) → nat_le (length (b ∷ take 63 name)) most_name_bytes ≡ true
short_name b name = let e = length-take 63 name in grind (arith, nat_tests)

named_from : (b : ℕ) (name : List ℕ) → starts_name b ≡ true → list_all continues_name name ≡ true → is_name (take most_name_bytes (b ∷ name)) ≡ true
named_from b name s c =
    and_from (starts_name b && list_all continues_name (take 63 name)) (nat_le (length (b ∷ take 63 name)) most_name_bytes)
    (and_from (starts_name b) (list_all continues_name (take 63 name)) s (take_continue 63 name c)) (short_name b name)

mended_name : (word : List ℕ) → is_filled word ≡ true → is_name (mended word) ≡ true
mended_name [] h = cc
mended_name (b ∷ word) h =
    let first = mended_byte b in
    let rest = map mended_byte word in
    elim (cases_Bool (is_ascii_digit first)) [
      | inl digit ↦ rw digit (named_from 95 (first ∷ rest) refl (and_from (continues_name first) (list_all continues_name rest) (continues b) (all_continue word)))
      | inr plain ↦ rw plain (named_from first rest (starts first (continues b) plain) (all_continue word))
    ]

abbrev pub are_names : List (List ℕ) → Bool
are_names names = list_all is_name names

mended_names : (words : List (List ℕ)) → list_all is_filled words ≡ true → are_names (map mended words) ≡ true
mended_names [] h = refl
mended_names (w ∷ words) h =
    let parts = and_parts (is_filled w) (list_all is_filled words) h in
    and_from (is_name (mended w)) (are_names (map mended words)) (mended_name w parts.0) (mended_names words parts.1)

-- the words of a line have bytes
kept_filled : (parts : List (List ℕ)) → list_all is_filled (filter is_filled parts) ≡ true
kept_filled [] = refl
kept_filled ([] ∷ parts) = kept_filled parts
kept_filled ((b ∷ part) ∷ parts) = kept_filled parts

front_filled : (words : List (List ℕ)) → list_all is_filled words ≡ true → list_all is_filled (before_comment words) ≡ true
front_filled [] h = refl
front_filled (w ∷ words) h =
    let parts = and_parts (is_filled w) (list_all is_filled words) h in
    elim (cases_Bool (is_comment w)) [
      | inl comment ↦ rw comment refl
      | inr word ↦ rw word (and_from (is_filled w) (list_all is_filled (before_comment words)) parts.0 (front_filled words parts.1))
    ]

words_filled : (line : List ℕ) → list_all is_filled (words_of line) ≡ true
words_filled line = front_filled (filter is_filled (slice_split is_blank line)) (kept_filled (slice_split is_blank line))

-- ---- references
within_ok : (b : Bool) (e element : ℕ) → within b e ≡ Some element → (b ≡ true) × (e ≡ element)
within_ok true e element h = (refl, cc)
within_ok false e element h = cc

ahead_below : (number whole : ℕ) → (nat_lt 0 number && nat_le number whole) ≡ true → number - 1 < whole
ahead_below number whole h = grind (arith, nat_tests)

back_below : (number so_far : ℕ) → (nat_lt 0 number && nat_le number so_far) ≡ true → so_far - number < so_far
back_below number so_far h = grind (arith, nat_tests)

element_below : (whole so_far : ℕ) (part : Part) (element : ℕ) → so_far ≤ whole → element_of whole so_far part ≡ Some element → element < whole
element_below whole so_far Absent element h e = cc
element_below whole so_far (Ahead number) element h e =
    let parts = within_ok (nat_lt 0 number && nat_le number whole) (number - 1) element e in omega (arith, ahead_below number whole parts.0, parts.1)
element_below whole so_far (Back number) element h e =
    let parts = within_ok (nat_lt 0 number && nat_le number so_far) (so_far - number) element e in omega (arith, back_below number so_far parts.0, parts.1)
element_below whole so_far Wrong element h e = cc

index_ok : (line : ℕ) (o : Option ℕ) (element : ℕ) → named_or_index line o ≡ Ok element → o ≡ Some element
index_ok line (Some n) element h = cc
index_ok line None element h = cc

needed_below : (line whole so_far : ℕ) (part : Part) (element : ℕ) → so_far ≤ whole → needed line whole so_far part ≡ Ok element → element < whole
needed_below line whole so_far Absent element h e = cc
needed_below line whole so_far (Ahead n) element h e = element_below whole so_far (Ahead n) element h (index_ok line (element_of whole so_far (Ahead n)) element e)
needed_below line whole so_far (Back n) element h e = element_below whole so_far (Back n) element h (index_ok line (element_of whole so_far (Back n)) element e)
needed_below line whole so_far Wrong element h e = cc

point_below : (line : ℕ) (whole so_far : Counts) (r : Reference) (n : Named) → so_far.points ≤ whole.points → named_by line whole so_far r ≡ Ok n → n.point < whole.points
point_below line whole so_far r n h e =
    let (point, p, behind_point) = ok_then (needed line whole.points so_far.points r.point) _ n e in
    let (texture, _, behind_texture) = ok_then (optional line whole.textures so_far.textures r.texture) _ n behind_point in
    let (normal, _, behind_normal) = ok_then (optional line whole.normals so_far.normals r.normal) _ n behind_texture in
    let same = ended_ok line r.is_long (record { point = point; texture = texture; normal = normal }) n behind_normal in
    let is : point ≡ n.point = ap (λ (m : Named). m.point) same in
    omega (arith, needed_below line whole.points so_far.points r.point point h p, is)

points_below : (line : ℕ) (whole so_far : Counts) (words : List (List ℕ)) (named : List Named) → so_far.points ≤ whole.points → each_of (named_by line whole so_far) (map reference_of words) ≡ Ok named
    → All (λ n. n.point < whole.points) named × (length named ≡ length words)
points_below line whole so_far [] named h e = let none : [] ≡ named = cc in (subst (All (λ n. n.point < whole.points)) none (All-nil (λ n. n.point < whole.points)), ap length (sym none))
points_below line whole so_far (w ∷ words) named h e =
    let (n, more, here, later, all) = put_ok (named_by line whole so_far (reference_of w)) (each_of (named_by line whole so_far) (map reference_of words)) named e in
    let rest = points_below line whole so_far words more h later in (
      subst (All (λ n. n.point < whole.points)) all (All-cons (λ n. n.point < whole.points) n more (point_below line whole so_far (reference_of w) n h here) rest.0),
      ap length (sym all) ∙ ap (λ k. suc k) rest.1,
    )

-- ---- one line
abbrev pub IsSoundPiece : ℕ → Piece → Type 0
IsSoundPiece total (ShapePiece closed corners) = (0 < length corners) × All (λ n. n.point < total) corners
IsSoundPiece total (GroupsPiece names) = are_names names ≡ true
IsSoundPiece total other = Unit {0}

abbrev points_in : Piece → ℕ
points_in (PointPiece place) = 1
points_in other = 0

abbrev prims_in : Piece → ℕ
prims_in (ShapePiece closed corners) = 1
prims_in other = 0

abbrev vertices_in : Piece → ℕ
vertices_in (ShapePiece closed corners) = length corners
vertices_in other = 0

record Keeps (total : ℕ) (statement : Statement) (p : Piece) : Type 0 where
  sound : IsSoundPiece total p
  prims : is_shape statement ≡ prims_in p
  vertices : length (references_of statement) ≡ vertices_in p
  points : (n : Counts) → (counted_in statement n).points ≡ points_in p + n.points

none_kept : (total : ℕ) (statement : Statement) (p : Piece) → is_shape statement ≡ 0 → length (references_of statement) ≡ 0 → ((n : Counts) → (counted_in statement n).points ≡ n.points) → NoPiece ≡ p → Keeps total statement p
none_kept total statement p a b c e = subst (Keeps total statement) e (record { sound = tt; prims = a; vertices = b; points = λ n. omega (arith, c n) })

shape_kept : (line : ℕ) (whole so_far : Counts) (closed : Bool) (words : List (List ℕ)) (p : Piece) → so_far.points ≤ whole.points → piece_of line whole so_far (shape_in closed words) ≡ Ok p → Keeps whole.points (shape_in closed words) p
shape_kept line whole so_far closed [] p h e = none_kept whole.points (shape_in closed []) p refl refl (λ n. refl) (cc)
shape_kept line whole so_far closed (w ∷ words) p h e =
    let (named, here, is) = ok_of (ShapePiece closed) (each_of (named_by line whole so_far) (map reference_of (w ∷ words))) p e in
    let below = points_below line whole so_far (w ∷ words) named h here in
    subst (Keeps whole.points (shape_in closed (w ∷ words))) is (record {
      sound = (omega (arith, below.1), below.0);
      prims = refl;
      vertices = length-map (w ∷ words) reference_of ∙ sym below.1;
      points = λ n. omega arith;
    })

words_kept : (line : ℕ) (whole so_far : Counts) (k : Keyword) (words : List (List ℕ)) (p : Piece) → so_far.points ≤ whole.points → list_all is_filled words ≡ true
    → piece_of line whole so_far (statement_as k words) ≡ Ok p → Keeps whole.points (statement_as k words) p
words_kept line whole so_far key.Point words p h f e =
    let (place, here, is) = or_number_ok line PointPiece (place_in words) p e in
    subst (Keeps whole.points (statement_as key.Point words)) is (record { sound = tt; prims = refl; vertices = refl; points = λ n. omega arith })
words_kept line whole so_far key.Texture words p h f e =
    let (v, here, is) = or_number_ok line TexturePiece (texture_in words) p e in
    subst (Keeps whole.points (statement_as key.Texture words)) is (record { sound = tt; prims = refl; vertices = refl; points = λ n. omega arith })
words_kept line whole so_far key.Normal words p h f e =
    let (v, here, is) = or_number_ok line NormalPiece (normal_in words) p e in
    subst (Keeps whole.points (statement_as key.Normal words)) is (record { sound = tt; prims = refl; vertices = refl; points = λ n. omega arith })
words_kept line whole so_far key.Closed words p h f e = shape_kept line whole so_far true words p h e
words_kept line whole so_far key.Open words p h f e = shape_kept line whole so_far false words p h e
words_kept line whole so_far key.Check words p h f e =
    let (all, _, is) = ok_of (λ all. NoPiece) (each_of (named_by line whole so_far) (map reference_of words)) p e in
    none_kept whole.points (statement_as key.Check words) p refl refl (λ n. refl) is
words_kept line whole so_far key.Groups words p h f e =
    let is : GroupsPiece (map mended words) ≡ p = cc in
    subst (Keeps whole.points (statement_as key.Groups words)) is (record { sound = mended_names words f; prims = refl; vertices = refl; points = λ n. omega arith })
words_kept line whole so_far key.Other words p h f e = none_kept whole.points (statement_as key.Other words) p refl refl (λ n. refl) (cc)

line_kept : (line : ℕ) (whole so_far : Counts) (words : List (List ℕ)) (p : Piece) → so_far.points ≤ whole.points → list_all is_filled words ≡ true
    → piece_of line whole so_far (statement_of words) ≡ Ok p → Keeps whole.points (statement_of words) p
line_kept line whole so_far [] p h f e = none_kept whole.points (statement_of []) p refl refl (λ n. refl) (cc)
line_kept line whole so_far (w ∷ words) p h f e =
    let parts = and_parts (is_filled w) (list_all is_filled words) f in
    let says = key_says w words in
    subst (λ s. Keeps whole.points s p) (sym says) (words_kept line whole so_far (key_of w) words p h parts.1 (ap (piece_of line whole so_far) (sym says) ∙ e))

-- ---- all lines
abbrev pub AreSound : ℕ → List Piece → Type 0
AreSound total [] = Unit {0}
AreSound total (p ∷ pieces) = IsSoundPiece total p × AreSound total pieces

abbrev pub corners_in : List Shaped → ℕ
corners_in shapes = sum_by (λ s. length s.corners) shapes

pub record KeepAll (total : ℕ) (said : List Said) (pieces : List Piece) : Type 0 where
  pub sound : AreSound total pieces
  pub points : (counts_of said).points ≡ length (filter_map place_of pieces)
  pub prims : (groups : List (List ℕ)) → sum_by (λ s. is_shape s.statement) said ≡ length (shapes_under groups pieces)
  pub vertices : (groups : List (List ℕ)) → sum_by (λ s. length (references_of s.statement)) said ≡ corners_in (shapes_under groups pieces)

points_more : (p : Piece) (pieces : List Piece) → points_in p + length (filter_map place_of pieces) ≡ length (filter_map place_of (p ∷ pieces))
points_more (PointPiece place) pieces = omega arith
points_more (TexturePiece v) pieces = omega arith
points_more (NormalPiece v) pieces = omega arith
points_more (ShapePiece closed corners) pieces = omega arith
points_more (GroupsPiece names) pieces = omega arith
points_more NoPiece pieces = omega arith

abbrev behind : List (List ℕ) → Piece → List (List ℕ)
behind groups (GroupsPiece names) = names
behind groups other = groups

prims_more : (groups : List (List ℕ)) (p : Piece) (pieces : List Piece) → prims_in p + length (shapes_under (behind groups p) pieces) ≡ length (shapes_under groups (p ∷ pieces))
prims_more groups (PointPiece place) pieces = omega arith
prims_more groups (TexturePiece v) pieces = omega arith
prims_more groups (NormalPiece v) pieces = omega arith
prims_more groups (ShapePiece closed corners) pieces = omega arith
prims_more groups (GroupsPiece names) pieces = omega arith
prims_more groups NoPiece pieces = omega arith

vertices_more : (groups : List (List ℕ)) (p : Piece) (pieces : List Piece) → vertices_in p + corners_in (shapes_under (behind groups p) pieces) ≡ corners_in (shapes_under groups (p ∷ pieces))
vertices_more groups (PointPiece place) pieces = omega arith
vertices_more groups (TexturePiece v) pieces = omega arith
vertices_more groups (NormalPiece v) pieces = omega arith
vertices_more groups (ShapePiece closed corners) pieces =
    let s : Shaped = record { closed = closed; corners = corners; groups = groups } in sym (sum_by-cons (λ (s : Shaped). length s.corners) s (shapes_under groups pieces))
vertices_more groups (GroupsPiece names) pieces = omega arith
vertices_more groups NoPiece pieces = omega arith

pub lines_kept : (whole so_far : Counts) (number : ℕ) (lines : List (List ℕ)) (pieces : List Piece) → counts_sum so_far (counts_of (said_lines number lines)) ≡ whole
    → pieces_of whole so_far (said_lines number lines) ≡ Ok pieces → KeepAll whole.points (said_lines number lines) pieces
lines_kept whole so_far number [] pieces c e =
    let none : [] ≡ pieces = cc in
    subst (KeepAll whole.points []) none (record { sound = tt; points = refl; prims = λ groups. refl; vertices = λ groups. refl })
lines_kept whole so_far number (line ∷ lines) pieces c e =
    let words = words_of line in
    let next = number + (joints_in line + 1) in
    let more = said_lines next lines in
    let s : Said = record { line = number; statement = statement_of words } in
    let after = counted_in s.statement so_far in
    let (p, ps, here, later, all) = put_ok (piece_of number whole so_far s.statement) (pieces_of whole after more) pieces e in
    let below = counts_below so_far (counts_of (s ∷ more)) whole c in
    let one = line_kept number whole so_far words p below.points (words_filled line) here in
    let rest = lines_kept whole after next lines ps (counts_more so_far whole (s ∷ more) s more refl c) later in
    subst (KeepAll whole.points (s ∷ more)) all (record {
      sound = (one.sound, rest.sound);
      points = one.points (counts_of more) ∙ ap (λ n. points_in p + n) rest.points ∙ points_more p ps;
      prims = λ groups. sum_by-cons (λ (s : Said). is_shape s.statement) s more ∙ ap (λ n. n + sum_by (λ (s : Said). is_shape s.statement) more) one.prims
          ∙ ap (λ n. prims_in p + n) (rest.prims (behind groups p)) ∙ prims_more groups p ps;
      vertices = λ groups. sum_by-cons (λ (s : Said). length (references_of s.statement)) s more ∙ ap (λ n. n + sum_by (λ (s : Said). length (references_of s.statement)) more) one.vertices
          ∙ ap (λ n. vertices_in p + n) (rest.vertices (behind groups p)) ∙ vertices_more groups p ps;
    })

-- ---- primitives
pub record IsSoundShape (total : ℕ) (s : Shaped) : Type 0 where
  pub some : 0 < length s.corners
  pub points : All (λ n. n.point < total) s.corners
  pub names : are_names s.groups ≡ true

pub shapes_sound : (total : ℕ) (groups : List (List ℕ)) (pieces : List Piece) → are_names groups ≡ true → AreSound total pieces → All (IsSoundShape total) (shapes_under groups pieces)
shapes_sound total groups [] h sound = All-nil (IsSoundShape total)
shapes_sound total groups (PointPiece place ∷ pieces) h sound = shapes_sound total groups pieces h sound.1
shapes_sound total groups (TexturePiece v ∷ pieces) h sound = shapes_sound total groups pieces h sound.1
shapes_sound total groups (NormalPiece v ∷ pieces) h sound = shapes_sound total groups pieces h sound.1
shapes_sound total groups (ShapePiece closed corners ∷ pieces) h sound =
    All-cons (IsSoundShape total) (record { closed = closed; corners = corners; groups = groups }) (shapes_under groups pieces)
    (record { some = sound.0.0; points = sound.0.1; names = h }) (shapes_sound total groups pieces h sound.1)
shapes_sound total groups (GroupsPiece names ∷ pieces) h sound = shapes_sound total names pieces sound.0 sound.1
shapes_sound total groups (NoPiece ∷ pieces) h sound = shapes_sound total groups pieces h sound.1
