-- The lines of a text that is written give its pieces.
use Rattle.std.proofs.Common.{◌≡◌, ℕ, ◌+◌, ◌-◌, ◌<◌, ◌≤◌, List, [], ◌∷◌, ◌++◌, length, map, refl, sym, ap, ◌∙◌, subst, arith, Some, Bool, true, false, Ok, length-append}
use Rattle.std.specs.Prelude.{◌&&◌, nat_lt, nat_le, All, codes, if◌then◌else◌, is_some}
use Rattle.std.specs.List.{list_all, items_where_true}
use Rattle.std.proofs.lemmas.Bool.{and_parts, and_from}
use Rattle.std.proofs.lemmas.Bool.Decides.{nat_tests}
use Rattle.std.proofs.lemmas.List.Elements.{All-nil, All-cons, All-head, All-tail}
use Rattle.sop_model.specs.declared.class.Class.TheVariants.{Prim}
use Rattle.sop_model.specs.declared.geo.Geo.{Geo}
use Rattle.sop_model.specs.declared.geo.Corner.{Corner}
use Rattle.sop_model.specs.declared.geo.Primitive.{Primitive}
use Rattle.sop_model.specs.Vertices.{size_of, corners_of}
use Rattle.geo_text.specs.declared.obj_writer.Parts.{Parts}
use Rattle.geo_text.specs.declared.reference.Counts.{Counts}
use Rattle.geo_text.specs.ObjStatements.{Ahead, Shape, reference_of, statement_of}
use Rattle.geo_text.specs.ObjMeaning.{Piece, PointPiece, TexturePiece, NormalPiece, ShapePiece, GroupsPiece, NoPiece, needed, optional, named_by, each_of, put_first, map_ok, piece_of, pieces_of, counted_in, counts_of, no_counts}
use Rattle.geo_text.specs.ObjText.{vector_head, parts_of, same_flags, groups_of}
use Rattle.geo_text.specs.ObjWords.{references_words, shape_words, change_words, prims_words}
use Rattle.geo_text.specs.ObjPieces.{number_if, named_written, change_pieces, prims_pieces}
use Rattle.geo_text.proofs.ObjWritten.{said_words}
use Rattle.sop_model.specs.Names.{is_name}
use Rattle.geo_text.proofs.ObjReadBack.{part_if, reference_back, names_back}

-- what a piece adds to the counts
abbrev pub counted_by : Piece → Counts → Counts
counted_by (PointPiece place) n = record n { points = n.points + 1 }
counted_by (TexturePiece v) n = record n { textures = n.textures + 1 }
counted_by (NormalPiece v) n = record n { normals = n.normals + 1 }
counted_by other n = n

-- a line of these words gives this piece, wherever it stands
pub record Gives (whole : Counts) (words : List (List ℕ)) (p : Piece) : Type 0 where
  pub piece : (line : ℕ) (so_far : Counts) → piece_of line whole so_far (statement_of words) ≡ Ok p
  pub counts : (n : Counts) → counted_in (statement_of words) n ≡ counted_by p n

abbrev pub AllGive : Counts → List (List (List ℕ)) → List Piece → Type 0
AllGive whole [] [] = Unit {0}
AllGive whole (words ∷ lines) (p ∷ pieces) = Gives whole words p × AllGive whole lines pieces
AllGive whole _ _ = ⊥

pub give_append : (whole : Counts) (a : List (List (List ℕ))) (p : List Piece) (b : List (List (List ℕ))) (q : List Piece) → AllGive whole a p → AllGive whole b q → AllGive whole (a ++ b) (p ++ q)
give_append whole [] [] b q x y = y
give_append whole [] (p ∷ ps) b q x y = absurd x
give_append whole (w ∷ a) [] b q x y = absurd x
give_append whole (w ∷ a) (p ∷ ps) b q x y = (x.0, give_append whole a ps b q x.1 y)

abbrev pub counts_in : List Piece → Counts
counts_in [] = no_counts
counts_in (p ∷ pieces) = counted_by p (counts_in pieces)

pub given_pieces : (whole so_far : Counts) (number : ℕ) (lines : List (List (List ℕ))) (pieces : List Piece) → AllGive whole lines pieces → pieces_of whole so_far (said_words number lines) ≡ Ok (pieces ++ NoPiece ∷ [])
given_pieces whole so_far number [] [] h = refl
given_pieces whole so_far number [] (p ∷ ps) h = absurd h
given_pieces whole so_far number (w ∷ lines) [] h = absurd h
given_pieces whole so_far number (w ∷ lines) (p ∷ ps) h =
    let after = counted_in (statement_of w) so_far in
    ap (λ r. put_first r (pieces_of whole after (said_words (number + 1) lines))) (h.0.piece number so_far) ∙ ap (λ r. put_first (Ok p) r) (given_pieces whole after (number + 1) lines ps h.1)

pub given_counts : (whole : Counts) (number : ℕ) (lines : List (List (List ℕ))) (pieces : List Piece) → AllGive whole lines pieces → counts_of (said_words number lines) ≡ counts_in pieces
given_counts whole number [] [] h = refl
given_counts whole number [] (p ∷ ps) h = absurd h
given_counts whole number (w ∷ lines) [] h = absurd h
given_counts whole number (w ∷ lines) (p ∷ ps) h = h.0.counts (counts_of (said_words (number + 1) lines)) ∙ ap (counted_by p) (given_counts whole (number + 1) lines ps h.1)

-- ---- references
ahead_is : (line whole so_far n : ℕ) → n < whole → needed line whole so_far (Ahead (n + 1)) ≡ Ok n
ahead_is line whole so_far n h =
    let test : (nat_lt 0 (n + 1) && nat_le (n + 1) whole) ≡ true = grind (arith, nat_tests) in
    let same : n + 1 - 1 ≡ n = omega arith in
    rw test (ap Ok same)

part_is : (line whole so_far n : ℕ) (b : Bool) → (b ≡ true → n < whole) → optional line whole so_far (part_if b (n + 1)) ≡ Ok (number_if b n)
part_is line whole so_far n true h = ap (map_ok Some) (ahead_is line whole so_far n (h refl))
part_is line whole so_far n false h = refl

reference_is : (line : ℕ) (whole so_far : Counts) (parts : Parts) (point k : ℕ) → point < whole.points → (parts.texture ≡ true → k < whole.textures) → (parts.normal ≡ true → k < whole.normals)
    → named_by line whole so_far (record { point = Ahead (point + 1); texture = part_if parts.texture (k + 1); normal = part_if parts.normal (k + 1); is_long = false })
    ≡ Ok (record { point = point; texture = number_if parts.texture k; normal = number_if parts.normal k })
reference_is line whole so_far parts point k p t n =
    rw (ahead_is line whole.points so_far.points point p, part_is line whole.textures so_far.textures k parts.texture t, part_is line whole.normals so_far.normals k parts.normal n) refl

pub references_are : (line : ℕ) (whole so_far : Counts) (parts : Parts) (before : ℕ) (corners : List Corner) → whole.points ≤ 1000000 → before + length corners ≤ 4000000 → All (λ c. c.point < whole.points) corners
    → (parts.texture ≡ true → before + length corners ≤ whole.textures) → (parts.normal ≡ true → before + length corners ≤ whole.normals)
    → each_of (named_by line whole so_far) (map reference_of (references_words parts before corners)) ≡ Ok (named_written parts before corners)
references_are line whole so_far parts before [] few less all t n = refl
references_are line whole so_far parts before (c ∷ corners) few less all t n =
    let here = All-head (λ (c : Corner). c.point < whole.points) c corners all in
    let behind = All-tail (λ (c : Corner). c.point < whole.points) c corners all in
    let first = reference_back parts (c.point + 1) (before + 1) (omega arith) (omega arith) in
    let named = reference_is line whole so_far parts c.point before here (λ e. let h = t e in omega (arith, h)) (λ e. let h = n e in omega (arith, h)) in
    let rest = references_are line whole so_far parts (before + 1) corners few (omega arith) behind (λ e. let h = t e in omega (arith, h)) (λ e. let h = n e in omega (arith, h)) in
    ap (λ r. put_first (named_by line whole so_far r) (each_of (named_by line whole so_far) (map reference_of (references_words parts (before + 1) corners)))) first
    ∙ ap (λ r. put_first r (each_of (named_by line whole so_far) (map reference_of (references_words parts (before + 1) corners)))) named
    ∙ ap (λ r. put_first (Ok (record { point = c.point; texture = number_if parts.texture before; normal = number_if parts.normal before })) r) rest

shape_said : (closed : Bool) (parts : Parts) (before : ℕ) (corners : List Corner) → 0 < length corners
    → statement_of ((if closed then codes "f" else codes "l") ∷ references_words parts before corners) ≡ Shape closed (map reference_of (references_words parts before corners))
shape_said closed parts before [] some = absurd (omega arith)
shape_said true parts before (c ∷ corners) some = refl
shape_said false parts before (c ∷ corners) some = refl

pub shape_given : (g : Geo) (whole : Counts) (before : ℕ) (p : Primitive) → 0 < size_of p → whole.points ≤ 1000000 → before + size_of p ≤ 4000000 → All (λ c. c.point < whole.points) p.corners
    → ((parts_of g p).texture ≡ true → before + size_of p ≤ whole.textures) → ((parts_of g p).normal ≡ true → before + size_of p ≤ whole.normals)
    → Gives whole (shape_words g before p) (ShapePiece p.closed (named_written (parts_of g p) before p.corners))
shape_given g whole before p some few less all t n =
    let says = shape_said p.closed (parts_of g p) before p.corners some in
    record {
      piece = λ line so_far. ap (piece_of line whole so_far) says ∙ ap (map_ok (ShapePiece p.closed)) (references_are line whole so_far (parts_of g p) before p.corners few less all t n);
      counts = λ k. ap (λ s. counted_in s k) says;
    }

groups_given : (whole : Counts) (names : List (List ℕ)) → list_all is_name names ≡ true → Gives whole (codes "g" ∷ names) (GroupsPiece names)
groups_given whole names h = record {
  piece = λ line so_far. ap (λ l. Ok (GroupsPiece l)) (names_back names h);
  counts = λ k. refl;
}

change_given : (g : Geo) (whole : Counts) (flags : List Bool) (p : Primitive) → list_all is_name (groups_of g p) ≡ true → AllGive whole (change_words g flags p) (change_pieces g flags p)
change_given g whole flags p h = given (same_flags flags p.row.flags)
  where
    given : (b : Bool) → AllGive whole (if b then [] else (codes "g" ∷ groups_of g p) ∷ []) (if b then [] else GroupsPiece (groups_of g p) ∷ [])
    given true = tt
    given false = (groups_given whole (groups_of g p) h, tt)

chosen_names : (flags : List Bool) (names : List (List ℕ)) → list_all is_name names ≡ true → list_all is_name (items_where_true flags names) ≡ true
chosen_names [] names h = refl
chosen_names (f ∷ flags) [] h = refl
chosen_names (true ∷ flags) (name ∷ names) h =
    let parts = and_parts (is_name name) (list_all is_name names) h in and_from (is_name name) (list_all is_name (items_where_true flags names)) parts.0 (chosen_names flags names parts.1)
chosen_names (false ∷ flags) (name ∷ names) h = chosen_names flags names (and_parts (is_name name) (list_all is_name names) h).1

-- the counts that a text of these primitives has
pub record Suits (g : Geo) (whole : Counts) (vertices : ℕ) : Type 0 where
  pub points : whole.points ≤ 1000000
  pub few : vertices ≤ 4000000
  pub textures : is_some (vector_head g.vertex (codes "uv")) ≡ true → vertices ≤ whole.textures
  pub normals : is_some (vector_head g.vertex (codes "N")) ≡ true → vertices ≤ whole.normals
  pub names : list_all is_name g.prim.groups ≡ true

and_first : (a b : Bool) → (a && b) ≡ true → a ≡ true
and_first a b h = (and_parts a b h).0

pub prims_given : (g : Geo) (whole : Counts) (before : ℕ) (flags : List Bool) (prims : List Primitive) → Suits g whole (before + length (corners_of prims)) → All (λ p. 0 < size_of p) prims → All (λ c. c.point < whole.points) (corners_of prims)
    → AllGive whole (prims_words g before flags prims) (prims_pieces g before flags prims)
prims_given g whole before flags [] suits some all = tt
prims_given g whole before flags (p ∷ prims) suits some all =
    let long = length-append p.corners (corners_of prims) in
    let names = chosen_names p.row.flags g.prim.groups suits.names in
    let own = All-front (λ (c : Corner). c.point < whole.points) p.corners (corners_of prims) all in
    let others = All-back (λ (c : Corner). c.point < whole.points) p.corners (corners_of prims) all in
    let first = shape_given g whole before p (All-head (λ p. 0 < size_of p) p prims some) suits.points (omega (arith, suits.few, long)) own
    (λ e. let h = suits.textures e in omega (arith, h, long)) (λ e. let h = suits.normals (and_first (is_some (vector_head g.vertex (codes "N"))) p.closed e) in omega (arith, h, long)) in
    let same : before + size_of p + length (corners_of prims) ≡ before + length (corners_of (p ∷ prims)) = omega (arith, long) in
    let rest = prims_given g whole (before + size_of p) p.row.flags prims (subst (Suits g whole) (sym same) suits) (All-tail (λ p. 0 < size_of p) p prims some) others in
    give_append whole (change_words g flags p) (change_pieces g flags p) (shape_words g before p ∷ prims_words g (before + size_of p) p.row.flags prims)
    (ShapePiece p.closed (named_written (parts_of g p) before p.corners) ∷ prims_pieces g (before + size_of p) p.row.flags prims) (change_given g whole flags p names) (first, rest)
  where
    All-front : (P : Corner → Type 0) (xs ys : List Corner) → All P (xs ++ ys) → All P xs
    All-front P [] ys all = All-nil P
    All-front P (x ∷ xs) ys all = All-cons P x xs (All-head P x (xs ++ ys) all) (All-front P xs ys (All-tail P x (xs ++ ys) all))

    All-back : (P : Corner → Type 0) (xs ys : List Corner) → All P (xs ++ ys) → All P ys
    All-back P [] ys all = all
    All-back P (x ∷ xs) ys all = All-back P xs ys (All-tail P x (xs ++ ys) all)
