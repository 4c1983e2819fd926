-- What the lines of a text have, counted line by line, is what their statements have.
use Rattle.std.proofs.Common.{◌≡◌, ℕ, ◌+◌, List, [], ◌∷◌, length, map, refl, sym, ap, ◌∙◌, subst, arith, Bool, true, false, length-append}
use Rattle.std.specs.Prelude.{codes, if◌then◌else◌, ◌||◌, nat_lt, unwrap_or, sum_by}
use Rattle.std.specs.Str.{bytes_eq}
use Rattle.std.proofs.lemmas.List.{length-map}
use Rattle.std.proofs.lemmas.List.Sums.{sum_by-cons}
use Rattle.sop_model.specs.Values.{zero_vector}
use Rattle.sop_model.specs.Limits.{most_points, most_prims, most_vertices}
use Rattle.geo_text.specs.declared.reference.Counts.{Counts}
use Rattle.geo_text.specs.declared.reader.Keyword.{Keyword}
use Rattle.geo_text.specs.declared.reader.Keyword.TheVariants as key
use Rattle.geo_text.specs.ObjLines.{joints_in, numbered, words_of}
use Rattle.geo_text.specs.ObjStatements.{Statement, statement_under, statement_of, reference_of, shape_in, texture_in, normal_in}
use Rattle.geo_text.specs.ObjMeaning.{Said, said_by, counted_in, counts_of, references_of, is_shape, passes_limits}
use Rattle.geo_text.specs.ObjRun.{statement_as}
use Rattle.geo_text.specs.ObjSurvey.{Seen, nothing_seen, seen_as, shape_seen, key_of, line_seen, all_seen, is_past}

-- ---- the keyword of a line says which statement it is
chosen : (a b c d e f g : Bool) (words : List (List ℕ)) (s : Keyword → Statement)
    → (if a then s key.Point else if b then s key.Texture else if c then s key.Normal else if d then s key.Closed else if e then s key.Open else if f then s key.Check else if g then s key.Groups else s key.Other)
    ≡ s (if a then key.Point else if b then key.Texture else if c then key.Normal else if d then key.Closed else if e then key.Open else if f then key.Check else if g then key.Groups else key.Other)
chosen true b c d e f g words s = refl
chosen false true c d e f g words s = refl
chosen false false true d e f g words s = refl
chosen false false false true e f g words s = refl
chosen false false false false true f g words s = refl
chosen false false false false false true g words s = refl
chosen false false false false false false true words s = refl
chosen false false false false false false false words s = refl

pub key_says : (word : List ℕ) (words : List (List ℕ)) → statement_under word words ≡ statement_as (key_of word) words
key_says word words =
    chosen (bytes_eq word (codes "v")) (bytes_eq word (codes "vt")) (bytes_eq word (codes "vn")) (bytes_eq word (codes "f")) (bytes_eq word (codes "l")) (bytes_eq word (codes "p")) (bytes_eq word (codes "g"))
    words (λ k. statement_as k words)

-- ---- one line
record Adds (s after : Seen) (statement : Statement) : Type 0 where
  points : (n : Counts) → after.points + n.points ≡ s.points + (counted_in statement n).points
  textures : (n : Counts) → length after.textures + n.textures ≡ length s.textures + (counted_in statement n).textures
  normals : (n : Counts) → length after.normals + n.normals ≡ length s.normals + (counted_in statement n).normals
  vertices : after.vertices ≡ s.vertices + length (references_of statement)
  prims : after.prims ≡ s.prims + is_shape statement

abbrev pub said_lines : ℕ → List (List ℕ) → List Said
said_lines number lines = map said_by (numbered number lines)

shape_adds : (closed : Bool) (words : List (List ℕ)) (s : Seen) → Adds s (shape_seen words s) (shape_in closed words)
shape_adds closed [] s = record { points = λ n. refl; textures = λ n. refl; normals = λ n. refl; vertices = omega arith; prims = omega arith }
shape_adds closed (w ∷ words) s = record {
  points = λ n. refl;
  textures = λ n. refl;
  normals = λ n. refl;
  vertices = ap (λ k. s.vertices + k) (sym (length-map (w ∷ words) reference_of));
  prims = refl;
}

words_add : (k : Keyword) (words : List (List ℕ)) (s : Seen) → Adds s (seen_as k words s) (statement_as k words)
words_add key.Point words s = record { points = λ n. omega arith; textures = λ n. refl; normals = λ n. refl; vertices = omega arith; prims = omega arith }
words_add key.Texture words s = record {
  points = λ n. refl;
  textures = λ n. omega (arith, length-append s.textures (unwrap_or (texture_in words) zero_vector ∷ []));
  normals = λ n. refl;
  vertices = omega arith;
  prims = omega arith;
}
words_add key.Normal words s = record {
  points = λ n. refl;
  textures = λ n. refl;
  normals = λ n. omega (arith, length-append s.normals (unwrap_or (normal_in words) zero_vector ∷ []));
  vertices = omega arith;
  prims = omega arith;
}
words_add key.Closed words s = shape_adds true words s
words_add key.Open words s = shape_adds false words s
words_add key.Check words s = record { points = λ n. refl; textures = λ n. refl; normals = λ n. refl; vertices = omega arith; prims = omega arith }
words_add key.Groups words s = record { points = λ n. refl; textures = λ n. refl; normals = λ n. refl; vertices = omega arith; prims = omega arith }
words_add key.Other words s = record { points = λ n. refl; textures = λ n. refl; normals = λ n. refl; vertices = omega arith; prims = omega arith }

line_adds : (words : List (List ℕ)) (s : Seen) → Adds s (line_seen words s) (statement_of words)
line_adds [] s = record { points = λ n. refl; textures = λ n. refl; normals = λ n. refl; vertices = omega arith; prims = omega arith }
line_adds (w ∷ words) s = subst (Adds s (seen_as (key_of w) words s)) (sym (key_says w words)) (words_add (key_of w) words s)

-- ---- all lines
pub record Totalled (s after : Seen) (said : List Said) : Type 0 where
  pub points : after.points ≡ s.points + (counts_of said).points
  pub textures : length after.textures ≡ length s.textures + (counts_of said).textures
  pub normals : length after.normals ≡ length s.normals + (counts_of said).normals
  pub vertices : after.vertices ≡ s.vertices + sum_by (λ said. length (references_of said.statement)) said
  pub prims : after.prims ≡ s.prims + sum_by (λ said. is_shape said.statement) said

pub lines_total : (number : ℕ) (lines : List (List ℕ)) (s : Seen) → Totalled s (all_seen (map words_of lines) s) (said_lines number lines)
lines_total number [] s = record { points = omega arith; textures = omega arith; normals = omega arith; vertices = omega arith; prims = omega arith }
lines_total number (line ∷ lines) s =
    let words = words_of line in
    let next = number + (joints_in line + 1) in
    let more = said_lines next lines in
    let first : Said = record { line = number; statement = statement_of words } in
    let one = line_adds words s in
    let rest = lines_total next lines (line_seen words s) in
    let n = counts_of more in
    let vertices = sum_by-cons (λ (said : Said). length (references_of said.statement)) first more in
    let prims = sum_by-cons (λ (said : Said). is_shape said.statement) first more in
    record {
      points = rest.points ∙ one.points n;
      textures = rest.textures ∙ one.textures n;
      normals = rest.normals ∙ one.normals n;
      vertices = omega (arith, rest.vertices, one.vertices, vertices);
      prims = omega (arith, rest.prims, one.prims, prims);
    }

pub limits_seen : (after : Seen) (said : List Said) → Totalled nothing_seen after said → is_past after ≡ passes_limits said
limits_seen after said t =
    let p : after.points ≡ (counts_of said).points = omega (arith, t.points) in
    let v : after.vertices ≡ sum_by (λ said. length (references_of said.statement)) said = omega (arith, t.vertices) in
    let m : after.prims ≡ sum_by (λ said. is_shape said.statement) said = omega (arith, t.prims) in
    ap (λ n. nat_lt most_points n || nat_lt most_vertices after.vertices || nat_lt most_prims after.prims) p
    ∙ ap (λ n. nat_lt most_points (counts_of said).points || nat_lt most_vertices n || nat_lt most_prims after.prims) v
    ∙ ap (λ n. nat_lt most_points (counts_of said).points || nat_lt most_vertices (sum_by (λ said. length (references_of said.statement)) said) || nat_lt most_prims n) m
