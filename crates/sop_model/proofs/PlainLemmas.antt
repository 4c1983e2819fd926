-- Lemmas on plain geometries: what their rows are, and that they are well made.
use Rattle.std.proofs.Common.{◌≡◌, Bool, ◌<◌, List, [], ◌∷◌, length, refl, sym, ◌∙◌, ap, subst}
use Rattle.std.specs.Prelude.{map, All}
use Rattle.std.proofs.lemmas.List.{nil_from_length}
use Rattle.std.proofs.lemmas.List.Elements.{All-nil, All-cons, All-head, All-tail, All-weaker, All-map}
use Rattle.sop_fixed.specs.declared.vec3.Vec3.{Vec3}
use Rattle.sop_model.specs.declared.class.Class.{Class}
use Rattle.sop_model.specs.declared.class.Class.TheVariants.{Detail, Prim, Point, Vertex}
use Rattle.sop_model.specs.declared.geo.Geo.{Geo}
use Rattle.sop_model.specs.declared.geo.Row.{Row}
use Rattle.sop_model.specs.declared.value.Kind.TheVariants as kind
use Rattle.sop_model.specs.declared.value.Value.{Value}
use Rattle.sop_model.specs.declared.value.Value.TheVariants as value
use Rattle.sop_model.specs.Values.{kind_of}
use Rattle.sop_model.specs.Vertices.{size_of, corners_of}
use Rattle.sop_model.specs.Geometry.{heads_of, rows_of, empty_row, no_heads, only_position, empty_geo, HasOnlyPosition, IsNamed, IsRowOf, IsSound, IsGood, BeginsWithPosition}
use Rattle.sop_model.specs.Plain.{point_row, IsPointRow, IsPlain}
use Rattle.sop_model.proofs.RowLists.{All-under_map}

-- what the rows of a plain geometry are

row_made : List Value → List Bool → Row
row_made values flags = record { values = values; flags = flags }

row_same : (row made : Row) → row.values ≡ made.values → row.flags ≡ made.flags → row ≡ made
unfolding row_made
row_same row made values flags = ap (λ vs. row_made vs row.flags) values ∙ ap (row_made made.values) flags

vector_alone : (values : List Value) → map kind_of values ≡ kind.Vector ∷ [] → (v : Vec3) × (values ≡ value.Vector v ∷ [])
vector_alone [] is = cc
vector_alone (value.Int x ∷ rest) is = cc
vector_alone (value.Real x ∷ rest) is = cc
vector_alone (value.Vector x ∷ []) is = (x, refl)
vector_alone (value.Vector x ∷ y ∷ rest) is = cc
vector_alone (value.Str x ∷ rest) is = cc
vector_alone (value.Ints x ∷ rest) is = cc
vector_alone (value.Reals x ∷ rest) is = cc
vector_alone (value.Vectors x ∷ rest) is = cc
vector_alone (value.Strs x ∷ rest) is = cc

kinds_none : (values : List Value) → map kind_of values ≡ [] → values ≡ []
kinds_none [] is = refl
kinds_none (v ∷ values) is = cc

row_of_none : (row : Row) → IsRowOf no_heads row → row ≡ empty_row
row_of_none row is = row_same row empty_row (kinds_none row.values is.kinds) (nil_from_length row.flags is.flags)

row_of_position : (row : Row) → IsRowOf only_position row → IsPointRow row
row_of_position row is =
    let alone = vector_alone row.values is.kinds in
    (alone.0, row_same row (point_row alone.0) alone.1 (nil_from_length row.flags is.flags))

-- a well made geometry whose only attribute is `P` is plain
pub IsPlain-from_sound : (g : Geo) → IsSound g → HasOnlyPosition g → IsPlain g
IsPlain-from_sound g sound only =
    let prim_rows = subst (λ set. All (IsRowOf set) (rows_of g Prim)) only.prim (sound.rows Prim) in
    let point_rows = subst (λ set. All (IsRowOf set) g.points) only.point (sound.rows Point) in
    let vertex_rows = subst (λ set. All (IsRowOf set) (rows_of g Vertex)) only.vertex (sound.rows Vertex) in
    let detail_rows = subst (λ set. All (IsRowOf set) (rows_of g Detail)) only.detail (sound.rows Detail) in
    record {
      only = only;
      points = All-weaker (IsRowOf only_position) IsPointRow row_of_position g.points point_rows;
      prims = All-under_map (λ row. row ≡ empty_row) (λ p. p.row) g.prims (All-weaker (IsRowOf no_heads) (λ row. row ≡ empty_row) row_of_none (rows_of g Prim) prim_rows);
      corners = All-under_map (λ row. row ≡ empty_row) (λ c. c.row) (corners_of g.prims) (All-weaker (IsRowOf no_heads) (λ row. row ≡ empty_row) row_of_none (rows_of g Vertex) vertex_rows);
      detail = row_of_none g.detail_row (All-head (IsRowOf no_heads) g.detail_row [] detail_rows);
    }

-- what holds of the empty row, and of the row of a point, holds of each row of a plain geometry

pub prim_rows : (Q : Row → Type 0) → Q empty_row → (g : Geo) → IsPlain g → All Q (rows_of g Prim)
prim_rows Q holds g plain = All-map Q (λ p. p.row) g.prims (All-weaker (λ p. p.row ≡ empty_row) (λ p. Q p.row) (λ p is. subst Q (sym is) holds) g.prims plain.prims)

pub point_rows : (Q : Row → Type 0) → ((v : Vec3) → Q (point_row v)) → (g : Geo) → IsPlain g → All Q g.points
point_rows Q holds g plain = All-weaker IsPointRow Q (λ row is. subst Q (sym is.1) (holds is.0)) g.points plain.points

pub vertex_rows : (Q : Row → Type 0) → Q empty_row → (g : Geo) → IsPlain g → All Q (rows_of g Vertex)
vertex_rows Q holds g plain = All-map Q (λ c. c.row) (corners_of g.prims) (All-weaker (λ c. c.row ≡ empty_row) (λ c. Q c.row) (λ c is. subst Q (sym is) holds) (corners_of g.prims) plain.corners)

empty_of_none : IsRowOf no_heads empty_row
empty_of_none = record { kinds = refl; flags = refl }

point_of_position : (v : Vec3) → IsRowOf only_position (point_row v)
point_of_position v = record { kinds = refl; flags = refl }

named_position : IsNamed only_position
named_position = record { heads = refl; groups = refl; distinct_heads = refl; distinct_groups = refl }

named_none : IsNamed no_heads
named_none = record { heads = refl; groups = refl; distinct_heads = refl; distinct_groups = refl }

named_of : (g : Geo) → HasOnlyPosition g → (class : Class) → IsNamed (heads_of g class)
named_of g only Detail = subst IsNamed (sym only.detail) named_none
named_of g only Prim = subst IsNamed (sym only.prim) named_none
named_of g only Point = subst IsNamed (sym only.point) named_position
named_of g only Vertex = subst IsNamed (sym only.vertex) named_none

rows_as : (g : Geo) → IsPlain g → (class : Class) → All (IsRowOf (heads_of g class)) (rows_of g class)
rows_as g plain Detail =
    let row = subst (IsRowOf no_heads) (sym plain.detail) empty_of_none in
    subst (λ set. All (IsRowOf set) (rows_of g Detail)) (sym plain.only.detail) (All-cons (IsRowOf no_heads) g.detail_row [] row (All-nil (IsRowOf no_heads)))
rows_as g plain Prim = subst (λ set. All (IsRowOf set) (rows_of g Prim)) (sym plain.only.prim) (prim_rows (IsRowOf no_heads) empty_of_none g plain)
rows_as g plain Point = subst (λ set. All (IsRowOf set) g.points) (sym plain.only.point) (point_rows (IsRowOf only_position) point_of_position g plain)
rows_as g plain Vertex = subst (λ set. All (IsRowOf set) (rows_of g Vertex)) (sym plain.only.vertex) (vertex_rows (IsRowOf no_heads) empty_of_none g plain)

-- a plain geometry is well made where its vertices refer to points that it has
pub IsSound-from_plain : (g : Geo) → IsPlain g → All (λ c. c.point < length g.points) (corners_of g.prims) → IsSound g
IsSound-from_plain g plain points = record {
  detail_groups = ap (λ set. set.groups) plain.only.detail;
  named = named_of g plain.only;
  rows = rows_as g plain;
  position = subst BeginsWithPosition (sym (ap (λ set. set.heads) plain.only.point)) refl;
  points = points;
}

pub IsGood-from_plain : (g : Geo) → IsPlain g → All (λ c. c.point < length g.points) (corners_of g.prims) → All (λ p. 0 < size_of p) g.prims → IsGood g
IsGood-from_plain g plain points corners = record { sound = IsSound-from_plain g plain points; corners = corners }

pub IsPlain-empty_geo : IsPlain empty_geo
IsPlain-empty_geo = record {
  only = record { detail = refl; prim = refl; point = refl; vertex = refl };
  points = All-nil IsPointRow;
  prims = All-nil (λ p. p.row ≡ empty_row);
  corners = All-nil (λ c. c.row ≡ empty_row);
  detail = refl;
}

pub IsSound-empty_geo : IsSound empty_geo
IsSound-empty_geo = IsSound-from_plain empty_geo IsPlain-empty_geo (All-nil (λ c. c.point < 0))
