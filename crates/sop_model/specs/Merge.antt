-- The merge of geometries: points, primitives and vertices of the inputs stand one after the other.
--
-- Heads and groups of a class come in order of first appearance over the inputs, and a head has the kind of its first appearance. Values of
-- other inputs are put where that kind is wanted, else they are defaults. A group has the members of all inputs. A detail value is the one of
-- the first input that has the head. The merge of no geometry is the empty geometry.
use Rattle.std.specs.Prelude.{ℕ, ◌+◌, Bool, false, not, List, [], ◌∷◌, ◌++◌, length, map, filter, Option, None, Some, unwrap_or, if◌then◌else◌}
use Rattle.std.specs.List.{flat_map}
use Rattle.std.specs.Option.{option_and_then}
use Rattle.std.specs.Str.{bytes_eq}
use Rattle.sop_model.specs.declared.class.Class.{Class}
use Rattle.sop_model.specs.declared.class.Class.TheVariants.{Detail, Prim, Point, Vertex}
use Rattle.sop_model.specs.declared.geo.Geo.{Geo}
use Rattle.sop_model.specs.declared.geo.Row.{Row}
use Rattle.sop_model.specs.declared.geo.Head.{Head}
use Rattle.sop_model.specs.declared.geo.HeadSet.{HeadSet}
use Rattle.sop_model.specs.declared.geo.Corner.{Corner}
use Rattle.sop_model.specs.declared.geo.Primitive.{Primitive}
use Rattle.sop_model.specs.declared.value.Value.{Value}
use Rattle.sop_model.specs.Values.{put, default_of}
use Rattle.sop_model.specs.Geometry.{heads_of, empty_geo}

-- the heads whose name doesn't stand before
abbrev pub first_heads : List Head → List Head
first_heads [] = []
first_heads (h ∷ heads) = h ∷ filter (λ k. not (bytes_eq h.name k.name)) (first_heads heads)

-- the names that don't stand before
abbrev pub first_names : List (List ℕ) → List (List ℕ)
first_names [] = []
first_names (name ∷ names) = name ∷ filter (λ k. not (bytes_eq name k)) (first_names names)

-- the heads and groups of a class over the inputs
abbrev pub joined_set : Class → List Geo → HeadSet
joined_set class gs = record {
  heads = first_heads (flat_map (λ g. (heads_of g class).heads) gs);
  groups = first_names (flat_map (λ g. (heads_of g class).groups) gs);
}

-- the value under a name, of values that stand in the order of some heads
abbrev pub value_under : List Head → List Value → List ℕ → Option Value
value_under [] values name = None
value_under (h ∷ heads) [] name = None
value_under (h ∷ heads) (v ∷ values) name = if bytes_eq h.name name then Some v else value_under heads values name

-- the flag under a group's name
abbrev pub flag_under : List (List ℕ) → List Bool → List ℕ → Bool
flag_under [] flags name = false
flag_under (g ∷ groups) [] name = false
flag_under (g ∷ groups) (f ∷ flags) name = if bytes_eq g name then f else flag_under groups flags name

-- a value put under a head, or the head's default
abbrev pub fitted : Head → Option Value → Value
fitted h v = unwrap_or (option_and_then (put h.kind) v) (default_of h.kind)

-- a row that stood under the old heads and groups, under the new ones
abbrev pub row_under : HeadSet → HeadSet → Row → Row
row_under new old row = record {
  values = map (λ h. fitted h (value_under old.heads row.values h.name)) new.heads;
  flags = map (flag_under old.groups row.flags) new.groups;
}

-- a vertex whose points stand behind so many others
abbrev pub moved_corner : HeadSet → HeadSet → ℕ → Corner → Corner
moved_corner new old before c = record { point = before + c.point; row = row_under new old c.row }

abbrev pub moved_prim : List Geo → Geo → ℕ → Primitive → Primitive
moved_prim gs g before p = record {
  closed = p.closed;
  row = row_under (joined_set Prim gs) g.prim p.row;
  corners = map (moved_corner (joined_set Vertex gs) g.vertex before) p.corners;
}

-- the primitives of the inputs one after the other, where so many points stand before the first input
abbrev pub joined_prims : List Geo → ℕ → List Geo → List Primitive
joined_prims gs before [] = []
joined_prims gs before (g ∷ rest) = map (moved_prim gs g before) g.prims ++ joined_prims gs (before + length g.points) rest

-- the detail value of a head: that of the first input that has it
abbrev pub detail_value : List Geo → Head → Option Value
detail_value [] h = None
detail_value (g ∷ gs) h = first_of_two (value_under g.detail.heads g.detail_row.values h.name) (detail_value gs h)
  where
    first_of_two : Option Value → Option Value → Option Value
    first_of_two None later = later
    first_of_two (Some v) later = Some v

-- geometries joined in order
abbrev pub joined : List Geo → Geo
joined gs = record {
  detail = joined_set Detail gs;
  prim = joined_set Prim gs;
  point = joined_set Point gs;
  vertex = joined_set Vertex gs;
  points = flat_map (λ g. map (row_under (joined_set Point gs) g.point) g.points) gs;
  prims = joined_prims gs 0 gs;
  detail_row = record { values = map (λ h. fitted h (detail_value gs h)) (joined_set Detail gs).heads; flags = [] };
}

-- the merge; the empty geometry before the inputs changes nothing but that no input gives the empty geometry
abbrev pub merged : List Geo → Geo
merged gs = joined (empty_geo ∷ gs)
