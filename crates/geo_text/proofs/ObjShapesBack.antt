-- The primitives of a text that is written, and that it passes no limit.
use Rattle.std.proofs.Common.{◌≡◌, ℕ, suc, ◌+◌, List, [], ◌∷◌, ◌++◌, length, map, append_assoc, length-append, refl, sym, ap, ◌∙◌, arith, Bool, true, false, inl, inr}
use Rattle.std.specs.Prelude.{sum_by, codes}
use Rattle.std.specs.List.{items_where_true}
use Rattle.std.proofs.lemmas.Bool.{cases_Bool, and_parts}
use Rattle.std.proofs.lemmas.List.Sums.{sum_by-cons}
use Rattle.sop_model.specs.declared.class.Class.TheVariants.{Vertex}
use Rattle.sop_model.specs.declared.geo.Geo.{Geo}
use Rattle.sop_model.specs.declared.geo.Corner.{Corner}
use Rattle.sop_model.specs.declared.geo.Primitive.{Primitive}
use Rattle.sop_model.specs.Vertices.{size_of, corners_of}
use Rattle.sop_model.specs.Geometry.{rows_of}
use Rattle.geo_text.specs.declared.obj_writer.Parts.{Parts}
use Rattle.geo_text.specs.declared.reference.Named.{Named}
use Rattle.geo_text.specs.ObjMeaning.{Piece, PointPiece, TexturePiece, NormalPiece, ShapePiece, NoPiece, Shaped, shapes_under}
use Rattle.geo_text.specs.ObjText.{vector_head, parts_of, same_flag, same_flags, groups_of, no_flags}
use Rattle.geo_text.specs.ObjPieces.{place_written, vectors_under, named_written, prims_pieces, pieces_written}

abbrev pub shapes_written : Geo → ℕ → List Primitive → List Shaped
shapes_written g before [] = []
shapes_written g before (p ∷ prims) =
    record { closed = p.closed; corners = named_written (parts_of g p) before p.corners; groups = groups_of g p } ∷ shapes_written g (before + size_of p) prims

flag_same : (a b : Bool) → same_flag a b ≡ true → a ≡ b
flag_same true b h = sym h
flag_same false true h = cc
flag_same false false h = refl

flags_same : (a b : List Bool) → same_flags a b ≡ true → a ≡ b
flags_same [] [] h = refl
flags_same [] (b ∷ bs) h = cc
flags_same (a ∷ more) [] h = cc
flags_same (a ∷ more) (b ∷ others) h =
    let parts = and_parts (same_flag a b) (same_flags more others) h in
    ap (λ x. x ∷ more) (flag_same a b parts.0) ∙ ap (λ l. b ∷ l) (flags_same more others parts.1)

none_chosen : (names : List (List ℕ)) → items_where_true (map (λ group. false) names) names ≡ []
none_chosen [] = refl
none_chosen (name ∷ names) = none_chosen names

prims_back : (g : Geo) (before : ℕ) (flags : List Bool) (prims : List Primitive)
    → shapes_under (items_where_true flags g.prim.groups) (prims_pieces g before flags prims ++ NoPiece ∷ []) ≡ shapes_written g before prims
prims_back g before flags [] = refl
prims_back g before flags (p ∷ prims) =
    elim (cases_Bool (same_flags flags p.row.flags)) [
      | inl same ↦ rw same (
          ap (λ f. shapes_under (items_where_true f g.prim.groups) (ShapePiece p.closed here ∷ later)) (flags_same flags p.row.flags same)
          ∙ ap (λ l. shape ∷ l) (prims_back g (before + size_of p) p.row.flags prims))
      | inr other ↦ rw other (ap (λ l. shape ∷ l) (prims_back g (before + size_of p) p.row.flags prims))
    ]
  where
    here : List Named
    here = named_written (parts_of g p) before p.corners

    later : List Piece
    later = prims_pieces g (before + size_of p) p.row.flags prims ++ NoPiece ∷ []

    shape : Shaped
    shape = record { closed = p.closed; corners = here; groups = groups_of g p }

past_points : {A : Type 0} (groups : List (List ℕ)) (colour : A → Piece) (xs : List A) (rest : List Piece) → ((x : A) (more : List Piece) → shapes_under groups (colour x ∷ more) ≡ shapes_under groups more)
    → shapes_under groups (map colour xs ++ rest) ≡ shapes_under groups rest
past_points groups f [] rest h = refl
past_points groups f (x ∷ xs) rest h = h x (map f xs ++ rest) ∙ past_points groups f xs rest h

pub shapes_back : (g : Geo) → shapes_under [] (pieces_written g ++ NoPiece ∷ []) ≡ shapes_written g 0 g.prims
shapes_back g =
    let textures = vectors_under (vector_head g.vertex (codes "uv")) (rows_of g Vertex) in
    let normals = vectors_under (vector_head g.vertex (codes "N")) (rows_of g Vertex) in
    let prims = prims_pieces g 0 (no_flags g) g.prims ++ NoPiece ∷ [] in
    let shape : pieces_written g ++ NoPiece ∷ [] ≡ map (λ row. PointPiece (place_written (vector_head g.point (codes "Cd")) row)) g.points ++ (map TexturePiece textures ++ (map NormalPiece normals ++ prims)) = simp append_assoc in
    ap (shapes_under []) shape
    ∙ past_points [] (λ row. PointPiece (place_written (vector_head g.point (codes "Cd")) row)) g.points (map TexturePiece textures ++ (map NormalPiece normals ++ prims)) (λ row more. refl)
    ∙ past_points [] TexturePiece textures (map NormalPiece normals ++ prims) (λ v more. refl)
    ∙ past_points [] NormalPiece normals prims (λ v more. refl)
    ∙ ap (λ names. shapes_under names prims) (sym (none_chosen g.prim.groups))
    ∙ prims_back g 0 (no_flags g) g.prims

pub shapes_long : (g : Geo) (before : ℕ) (prims : List Primitive) → length (shapes_written g before prims) ≡ length prims
shapes_long g before [] = refl
shapes_long g before (p ∷ prims) = ap (λ n. suc n) (shapes_long g (before + size_of p) prims)

named_long : (parts : Parts) (before : ℕ) (corners : List Corner) → length (named_written parts before corners) ≡ length corners
named_long parts before [] = refl
named_long parts before (c ∷ corners) = ap (λ n. suc n) (named_long parts (before + 1) corners)

pub corners_long : (g : Geo) (before : ℕ) (prims : List Primitive) → sum_by (λ s. length s.corners) (shapes_written g before prims) ≡ length (corners_of prims)
corners_long g before [] = refl
corners_long g before (p ∷ prims) =
    let s : Shaped = record { closed = p.closed; corners = named_written (parts_of g p) before p.corners; groups = groups_of g p } in
    let rest = corners_long g (before + size_of p) prims in
    let here = named_long (parts_of g p) before p.corners in
    let both = length-append p.corners (corners_of prims) in
    sum_by-cons (λ (s : Shaped). length s.corners) s (shapes_written g (before + size_of p) prims) ∙ omega (arith, rest, here, both)
