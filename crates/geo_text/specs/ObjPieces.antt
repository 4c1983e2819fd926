-- The pieces that the text of a geometry gives, as the proof of its round trip speaks of them.
use Rattle.std.specs.Prelude.{ℕ, ◌+◌, Bool, true, false, if◌then◌else◌, List, [], ◌∷◌, ◌++◌, map, Option, None, Some, option_map, codes}
use Rattle.sop_fixed.specs.declared.vec3.Vec3.{Vec3}
use Rattle.sop_model.specs.declared.class.Class.TheVariants.{Vertex}
use Rattle.sop_model.specs.declared.geo.Geo.{Geo}
use Rattle.sop_model.specs.declared.geo.Row.{Row}
use Rattle.sop_model.specs.declared.geo.Corner.{Corner}
use Rattle.sop_model.specs.declared.geo.Primitive.{Primitive}
use Rattle.sop_model.specs.Vertices.{size_of}
use Rattle.sop_model.specs.Places.{place_of}
use Rattle.sop_model.specs.Geometry.{rows_of}
use Rattle.geo_text.specs.declared.obj_writer.Parts.{Parts}
use Rattle.geo_text.specs.declared.reference.Named.{Named}
use Rattle.geo_text.specs.ObjStatements.{Place}
use Rattle.geo_text.specs.ObjMeaning.{Piece, PointPiece, TexturePiece, NormalPiece, ShapePiece, GroupsPiece}
use Rattle.geo_text.specs.ObjText.{vector_head, vector_under, parts_of, same_flags, groups_of, no_flags}

abbrev pub place_written : Option ℕ → Row → Place
place_written colour row = record { at = place_of row; colour = option_map (λ head. vector_under head row) colour }

abbrev pub vectors_under : Option ℕ → List Row → List Vec3
vectors_under None rows = []
vectors_under (Some head) rows = map (vector_under head) rows

abbrev pub number_if : Bool → ℕ → Option ℕ
number_if true n = Some n
number_if false n = None

abbrev pub named_written : Parts → ℕ → List Corner → List Named
named_written parts before [] = []
named_written parts before (c ∷ corners) =
    record { point = c.point; texture = number_if parts.texture before; normal = number_if parts.normal before } ∷ named_written parts (before + 1) corners

abbrev pub change_pieces : Geo → List Bool → Primitive → List Piece
change_pieces g flags p = if same_flags flags p.row.flags then [] else GroupsPiece (groups_of g p) ∷ []

abbrev pub prims_pieces : Geo → ℕ → List Bool → List Primitive → List Piece
prims_pieces g before flags [] = []
prims_pieces g before flags (p ∷ prims) =
    change_pieces g flags p ++ ShapePiece p.closed (named_written (parts_of g p) before p.corners) ∷ prims_pieces g (before + size_of p) p.row.flags prims

abbrev pub pieces_written : Geo → List Piece
pieces_written g =
    map (λ row. PointPiece (place_written (vector_head g.point (codes "Cd")) row)) g.points
    ++ map TexturePiece (vectors_under (vector_head g.vertex (codes "uv")) (rows_of g Vertex))
    ++ map NormalPiece (vectors_under (vector_head g.vertex (codes "N")) (rows_of g Vertex))
    ++ prims_pieces g 0 (no_flags g) g.prims
