-- What the lines of a text have, counted line by line, is what the pieces have that they give.
use Rattle.std.proofs.Common.{◌≡◌, ℕ, ◌+◌, List, [], ◌∷◌, ◌++◌, length, append_assoc, append-nil, refl, sym, ap, ◌∙◌, subst, arith, Result, Ok, Err, Option, Some, None, Bool, true, false}
use Rattle.std.specs.Prelude.{◌||◌, nat_le, is_some, unwrap_or, filter_map, map}
use Rattle.std.specs.List.{cons_option, list_any}
use Rattle.std.specs.Option.{option_to_list}
use Rattle.std.proofs.lemmas.Bool.Decides.{nat_tests}
use Rattle.sop_fixed.specs.declared.vec3.Vec3.{Vec3}
use Rattle.sop_model.specs.Values.{zero_vector}
use Rattle.geo_text.specs.declared.reference.Counts.{Counts}
use Rattle.geo_text.specs.declared.reference.Named.{Named}
use Rattle.geo_text.specs.declared.reader.Keyword.{Keyword}
use Rattle.geo_text.specs.declared.reader.Keyword.TheVariants as key
use Rattle.geo_text.specs.ObjLines.{joints_in, words_of}
use Rattle.geo_text.specs.ObjStatements.{Part, Absent, Ahead, Back, Wrong, Reference, Place, reference_of, place_in, place_with, place_without, vector_in, texture_in, normal_in, shape_in, statement_of, mended}
use Rattle.geo_text.specs.ObjMeaning.{Refusal, Piece, PointPiece, TexturePiece, NormalPiece, ShapePiece, GroupsPiece, NoPiece, map_ok, and_then, needed, optional, at_end, named_by, each_of, put_first, or_number, piece_of, pieces_of, counted_in, place_of, texture_of, normal_of, Shaped, shapes_under}
use Rattle.geo_text.specs.ObjRun.{statement_as}
use Rattle.geo_text.specs.ObjSurvey.{Seen, is_there, has_texture, has_normal, seen_as, shape_seen, key_of, line_seen, all_seen}
use Rattle.geo_text.proofs.ObjCounting.{key_says, said_lines}

-- ---- colours
with_colour : (at colour : Option Vec3) (p : Place) → place_with at colour ≡ Some p → is_some p.colour ≡ true
with_colour (Some a) (Some c) p e = let same : record { at = a; colour = Some c } ≡ p = cc in ap (λ q. is_some q.colour) (sym same)
with_colour (Some a) None p e = cc
with_colour None c p e = cc

without_colour : (at : Option Vec3) (p : Place) → place_without at ≡ Some p → is_some p.colour ≡ false
without_colour (Some a) p e = let same : record { at = a; colour = None } ≡ p = cc in ap (λ q. is_some q.colour) (sym same)
without_colour None p e = cc

six_or_more : (a b c d e f : List ℕ) (words : List (List ℕ)) → nat_le 6 (length (a ∷ b ∷ c ∷ d ∷ e ∷ f ∷ words)) ≡ true
six_or_more a b c d e f words = grind (arith, nat_tests)

six_words : (words : List (List ℕ)) (p : Place) → place_in words ≡ Some p → is_some p.colour ≡ nat_le 6 (length words)
six_words [] p e = cc
six_words (x ∷ []) p e = cc
six_words (x ∷ y ∷ []) p e = cc
six_words (x ∷ y ∷ z ∷ []) p e = without_colour (vector_in x y z) p e
six_words (x ∷ y ∷ z ∷ a ∷ []) p e = without_colour (vector_in x y z) p e
six_words (x ∷ y ∷ z ∷ a ∷ b ∷ []) p e = without_colour (vector_in x y z) p e
six_words (x ∷ y ∷ z ∷ a ∷ b ∷ c ∷ words) p e = with_colour (vector_in x y z) (vector_in a b c) p e ∙ sym (six_or_more x y z a b c words)

-- ---- parts of references
pub ok_of : {A B : Type 0} (f : A → B) (r : Result A Refusal) (y : B) → map_ok f r ≡ Ok y → (x : A) × (r ≡ Ok x) × (f x ≡ y)
ok_of f (Err e) y h = cc
ok_of f (Ok x) y h = (x, refl, cc)

pub ok_then : {A B : Type 0} (r : Result A Refusal) (f : A → Result B Refusal) (y : B) → and_then r f ≡ Ok y → (x : A) × (r ≡ Ok x) × (f x ≡ Ok y)
ok_then (Err e) f y h = cc
ok_then (Ok x) f y h = (x, refl, h)

pub ended_ok : (line : ℕ) (long : Bool) (n m : Named) → at_end line long n ≡ Ok m → n ≡ m
ended_ok line true n m h = cc
ended_ok line false n m h = cc

part_there : (line whole so_far : ℕ) (part : Part) (o : Option ℕ) → optional line whole so_far part ≡ Ok o → is_there part ≡ is_some o
part_there line whole so_far Absent o h = let none : None ≡ o = cc in ap is_some none
part_there line whole so_far (Ahead n) o h = let (x, _, some) = ok_of Some (needed line whole so_far (Ahead n)) o h in ap is_some some
part_there line whole so_far (Back n) o h = let (x, _, some) = ok_of Some (needed line whole so_far (Back n)) o h in ap is_some some
part_there line whole so_far Wrong o h = let (x, _, some) = ok_of Some (needed line whole so_far Wrong) o h in ap is_some some

parts_there : (line : ℕ) (whole so_far : Counts) (r : Reference) (n : Named) → named_by line whole so_far r ≡ Ok n → (is_there r.texture ≡ is_some n.texture) × (is_there r.normal ≡ is_some n.normal)
parts_there line whole so_far r n h =
    let (point, _, behind_point) = ok_then (needed line whole.points so_far.points r.point) _ n h in
    let (texture, t, behind_texture) = ok_then (optional line whole.textures so_far.textures r.texture) _ n behind_point in
    let (normal, k, behind_normal) = ok_then (optional line whole.normals so_far.normals r.normal) _ n behind_texture in
    let same = ended_ok line r.is_long (record { point = point; texture = texture; normal = normal }) n behind_normal in (
      part_there line whole.textures so_far.textures r.texture texture t ∙ ap (λ m. is_some m.texture) same,
      part_there line whole.normals so_far.normals r.normal normal k ∙ ap (λ m. is_some m.normal) same,
    )

pub put_ok : {A : Type 0} (r : Result A Refusal) (rest : Result (List A) Refusal) (ys : List A) → put_first r rest ≡ Ok ys → (x : A) × (xs : List A) × (r ≡ Ok x) × (rest ≡ Ok xs) × (x ∷ xs ≡ ys)
put_ok (Err e) rest ys h = cc
put_ok (Ok x) (Err e) ys h = cc
put_ok (Ok x) (Ok xs) ys h = (x, xs, refl, refl, cc)

abbrev pub any_texture : List Named → Bool
any_texture corners = list_any (λ c. is_some c.texture) corners

abbrev pub any_normal : List Named → Bool
any_normal corners = list_any (λ c. is_some c.normal) corners

references_there : (line : ℕ) (whole so_far : Counts) (words : List (List ℕ)) (named : List Named) → each_of (named_by line whole so_far) (map reference_of words) ≡ Ok named
    → (list_any has_texture words ≡ any_texture named) × (list_any has_normal words ≡ any_normal named)
references_there line whole so_far [] named h = let none : [] ≡ named = cc in (ap any_texture none, ap any_normal none)
references_there line whole so_far (w ∷ words) named h =
    let (n, more, here, later, all) = put_ok (named_by line whole so_far (reference_of w)) (each_of (named_by line whole so_far) (map reference_of words)) named h in
    let one = parts_there line whole so_far (reference_of w) n here in
    let rest = references_there line whole so_far words more later in (
      ap (λ b. b || list_any has_texture words) one.0 ∙ ap (λ b. is_some n.texture || b) rest.0 ∙ ap any_texture all,
      ap (λ b. b || list_any has_normal words) one.1 ∙ ap (λ b. is_some n.normal || b) rest.1 ∙ ap any_normal all,
    )

-- ---- one line
abbrev pub colour_in : Piece → Bool
colour_in (PointPiece place) = is_some place.colour
colour_in other = false

abbrev pub textured_in : Piece → Bool
textured_in (ShapePiece closed corners) = any_texture corners
textured_in other = false

abbrev pub normal_in_piece : Piece → Bool
normal_in_piece (ShapePiece closed corners) = any_normal corners
normal_in_piece other = false

record Gives (s after : Seen) (p : Piece) : Type 0 where
  textures : after.textures ≡ s.textures ++ option_to_list (texture_of p)
  normals : after.normals ≡ s.normals ++ option_to_list (normal_of p)
  colour : after.has.colour ≡ (s.has.colour || colour_in p)
  texture : after.has.texture ≡ (s.has.texture || textured_in p)
  normal : after.has.normal ≡ (s.has.normal || normal_in_piece p)

or_no : (b : Bool) → b ≡ (b || false)
or_no true = refl
or_no false = refl

pub or_number_ok : {A : Type 0} (line : ℕ) (f : A → Piece) (o : Option A) (p : Piece) → or_number line f o ≡ Ok p → (x : A) × (o ≡ Some x) × (f x ≡ p)
or_number_ok line f (Some x) p h = (x, refl, cc)
or_number_ok line f None p h = cc

nothing_given : (s : Seen) → Gives s s NoPiece
nothing_given s = record { textures = sym (append-nil s.textures); normals = sym (append-nil s.normals); colour = or_no s.has.colour; texture = or_no s.has.texture; normal = or_no s.has.normal }

no_piece : (s : Seen) (p : Piece) → NoPiece ≡ p → Gives s s p
no_piece s p e = subst (Gives s s) e (nothing_given s)

shape_gives : (line : ℕ) (whole so_far : Counts) (closed : Bool) (words : List (List ℕ)) (s : Seen) (p : Piece) → piece_of line whole so_far (shape_in closed words) ≡ Ok p → Gives s (shape_seen words s) p
shape_gives line whole so_far closed [] s p h = no_piece s p (cc)
shape_gives line whole so_far closed (w ∷ words) s p h =
    let (named, here, is) = ok_of (ShapePiece closed) (each_of (named_by line whole so_far) (map reference_of (w ∷ words))) p h in
    let there = references_there line whole so_far (w ∷ words) named here in
    subst (Gives s (shape_seen (w ∷ words) s)) is (record {
      textures = sym (append-nil s.textures);
      normals = sym (append-nil s.normals);
      colour = or_no s.has.colour;
      texture = ap (λ b. s.has.texture || b) there.0;
      normal = ap (λ b. s.has.normal || b) there.1;
    })

words_give : (line : ℕ) (whole so_far : Counts) (k : Keyword) (words : List (List ℕ)) (s : Seen) (p : Piece) → piece_of line whole so_far (statement_as k words) ≡ Ok p → Gives s (seen_as k words s) p
words_give line whole so_far key.Point words s p h =
    let (place, here, is) = or_number_ok line PointPiece (place_in words) p h in
    subst (Gives s (seen_as key.Point words s)) is (record {
      textures = sym (append-nil s.textures);
      normals = sym (append-nil s.normals);
      colour = ap (λ b. s.has.colour || b) (sym (six_words words place here));
      texture = or_no s.has.texture;
      normal = or_no s.has.normal;
    })
words_give line whole so_far key.Texture words s p h =
    let (v, here, is) = or_number_ok line TexturePiece (texture_in words) p h in
    subst (Gives s (seen_as key.Texture words s)) is (record {
      textures = ap (λ o. s.textures ++ unwrap_or o zero_vector ∷ []) here;
      normals = sym (append-nil s.normals);
      colour = or_no s.has.colour;
      texture = or_no s.has.texture;
      normal = or_no s.has.normal;
    })
words_give line whole so_far key.Normal words s p h =
    let (v, here, is) = or_number_ok line NormalPiece (normal_in words) p h in
    subst (Gives s (seen_as key.Normal words s)) is (record {
      textures = sym (append-nil s.textures);
      normals = ap (λ o. s.normals ++ unwrap_or o zero_vector ∷ []) here;
      colour = or_no s.has.colour;
      texture = or_no s.has.texture;
      normal = or_no s.has.normal;
    })
words_give line whole so_far key.Closed words s p h = shape_gives line whole so_far true words s p h
words_give line whole so_far key.Open words s p h = shape_gives line whole so_far false words s p h
words_give line whole so_far key.Check words s p h =
    let (all, _, is) = ok_of (λ all. NoPiece) (each_of (named_by line whole so_far) (map reference_of words)) p h in no_piece s p is
words_give line whole so_far key.Groups words s p h =
    let is : GroupsPiece (map mended words) ≡ p = cc in
    subst (Gives s s) is (record { textures = sym (append-nil s.textures); normals = sym (append-nil s.normals); colour = or_no s.has.colour; texture = or_no s.has.texture; normal = or_no s.has.normal })
words_give line whole so_far key.Other words s p h = no_piece s p (cc)

line_gives : (line : ℕ) (whole so_far : Counts) (words : List (List ℕ)) (s : Seen) (p : Piece) → piece_of line whole so_far (statement_of words) ≡ Ok p → Gives s (line_seen words s) p
line_gives line whole so_far [] s p h = no_piece s p (cc)
line_gives line whole so_far (w ∷ words) s p h =
    words_give line whole so_far (key_of w) words s p (ap (piece_of line whole so_far) (sym (key_says w words)) ∙ h)

-- ---- all lines
abbrev pub coloured : List Place → Bool
coloured places = list_any (λ p. is_some p.colour) places

abbrev pub textured : List Shaped → Bool
textured shapes = list_any (λ s. list_any (λ c. is_some c.texture) s.corners) shapes

abbrev pub with_normals : List Shaped → Bool
with_normals shapes = list_any (λ s. list_any (λ c. is_some c.normal) s.corners) shapes

pub record Found (s after : Seen) (pieces : List Piece) : Type 0 where
  pub textures : after.textures ≡ s.textures ++ filter_map texture_of pieces
  pub normals : after.normals ≡ s.normals ++ filter_map normal_of pieces
  pub colour : after.has.colour ≡ (s.has.colour || coloured (filter_map place_of pieces))
  pub texture : (groups : List (List ℕ)) → after.has.texture ≡ (s.has.texture || textured (shapes_under groups pieces))
  pub normal : (groups : List (List ℕ)) → after.has.normal ≡ (s.has.normal || with_normals (shapes_under groups pieces))

put_option : {B : Type 0} (o : Option B) (xs : List B) → cons_option o xs ≡ option_to_list o ++ xs
put_option None xs = refl
put_option (Some y) xs = refl

filtered : {A B : Type 0} (f : A → Option B) (x : A) (xs : List A) → filter_map f (x ∷ xs) ≡ option_to_list (f x) ++ filter_map f xs
filtered f x xs = put_option (f x) (filter_map f xs)

or_assoc : (a b c : Bool) → ((a || b) || c) ≡ (a || (b || c))
or_assoc true b c = refl
or_assoc false b c = refl

more_colours : (p : Piece) (ps : List Piece) → (colour_in p || coloured (filter_map place_of ps)) ≡ coloured (filter_map place_of (p ∷ ps))
more_colours (PointPiece place) ps = refl
more_colours (TexturePiece v) ps = refl
more_colours (NormalPiece v) ps = refl
more_colours (ShapePiece closed corners) ps = refl
more_colours (GroupsPiece names) ps = refl
more_colours NoPiece ps = refl

-- the groups that hold behind a piece
abbrev pub groups_behind : List (List ℕ) → Piece → List (List ℕ)
groups_behind groups (GroupsPiece names) = names
groups_behind groups other = groups

more_textures : (groups : List (List ℕ)) (p : Piece) (ps : List Piece) → (textured_in p || textured (shapes_under (groups_behind groups p) ps)) ≡ textured (shapes_under groups (p ∷ ps))
more_textures groups (PointPiece place) ps = refl
more_textures groups (TexturePiece v) ps = refl
more_textures groups (NormalPiece v) ps = refl
more_textures groups (ShapePiece closed corners) ps = refl
more_textures groups (GroupsPiece names) ps = refl
more_textures groups NoPiece ps = refl

more_normals : (groups : List (List ℕ)) (p : Piece) (ps : List Piece) → (normal_in_piece p || with_normals (shapes_under (groups_behind groups p) ps)) ≡ with_normals (shapes_under groups (p ∷ ps))
more_normals groups (PointPiece place) ps = refl
more_normals groups (TexturePiece v) ps = refl
more_normals groups (NormalPiece v) ps = refl
more_normals groups (ShapePiece closed corners) ps = refl
more_normals groups (GroupsPiece names) ps = refl
more_normals groups NoPiece ps = refl

pub lines_found : (whole so_far : Counts) (number : ℕ) (lines : List (List ℕ)) (s : Seen) (pieces : List Piece) → pieces_of whole so_far (said_lines number lines) ≡ Ok pieces → Found s (all_seen (map words_of lines) s) pieces
lines_found whole so_far number [] s pieces h =
    let none : [] ≡ pieces = cc in
    subst (Found s s) none (record {
      textures = sym (append-nil s.textures);
      normals = sym (append-nil s.normals);
      colour = or_no s.has.colour;
      texture = λ groups. or_no s.has.texture;
      normal = λ groups. or_no s.has.normal;
    })
lines_found whole so_far number (line ∷ lines) s pieces h =
    let words = words_of line in
    let next = number + (joints_in line + 1) in
    let behind = counted_in (statement_of words) so_far in
    let (p, ps, here, later, all) = put_ok (piece_of number whole so_far (statement_of words)) (pieces_of whole behind (said_lines next lines)) pieces h in
    let one = line_gives number whole so_far words s p here in
    let after = line_seen words s in
    let rest = lines_found whole behind next lines after ps later in
    subst (Found s (all_seen (map words_of lines) after)) all (record {
      textures = rest.textures ∙ ap (λ l. l ++ filter_map texture_of ps) one.textures ∙ append_assoc s.textures (option_to_list (texture_of p)) (filter_map texture_of ps)
          ∙ ap (λ l. s.textures ++ l) (sym (filtered texture_of p ps));
      normals = rest.normals ∙ ap (λ l. l ++ filter_map normal_of ps) one.normals ∙ append_assoc s.normals (option_to_list (normal_of p)) (filter_map normal_of ps)
          ∙ ap (λ l. s.normals ++ l) (sym (filtered normal_of p ps));
      colour = rest.colour ∙ ap (λ b. b || coloured (filter_map place_of ps)) one.colour ∙ or_assoc s.has.colour (colour_in p) (coloured (filter_map place_of ps))
          ∙ ap (λ b. s.has.colour || b) (more_colours p ps);
      texture = λ groups.
          let shapes = shapes_under (groups_behind groups p) ps in
          rest.texture (groups_behind groups p) ∙ ap (λ b. b || textured shapes) one.texture ∙ or_assoc s.has.texture (textured_in p) (textured shapes)
          ∙ ap (λ b. s.has.texture || b) (more_textures groups p ps);
      normal = λ groups.
          let shapes = shapes_under (groups_behind groups p) ps in
          rest.normal (groups_behind groups p) ∙ ap (λ b. b || with_normals shapes) one.normal ∙ or_assoc s.has.normal (normal_in_piece p) (with_normals shapes)
          ∙ ap (λ b. s.has.normal || b) (more_normals groups p ps);
    })
