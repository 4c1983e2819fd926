-- What stays well made where values, flags, heads and groups of a class are changed.
use Rattle.std.proofs.Common.{◌≡◌, ℕ, suc, ◌+◌, ◌<◌, Bool, false, List, [], ◌∷◌, ◌++◌, length, map, set, Some, refl, ap, sym, ◌∙◌, subst, arith, length-set, length-append}
use Rattle.std.specs.Prelude.{All, option_map, slice_get, remove}
use Rattle.std.proofs.lemmas.List.{length-map, map-append, map-set}
use Rattle.std.proofs.lemmas.List.Elements.{All-cons, All-head, All-tail, All-weaker, All-map}
use Rattle.sop_model.specs.declared.class.Class.{Class}
use Rattle.sop_model.specs.declared.class.Class.TheVariants.{Detail, Prim, Point, Vertex}
use Rattle.sop_model.specs.declared.geo.Geo.{Geo}
use Rattle.sop_model.specs.declared.geo.Row.{Row}
use Rattle.sop_model.specs.declared.geo.Head.{Head}
use Rattle.sop_model.specs.declared.geo.HeadSet.{HeadSet}
use Rattle.sop_model.specs.declared.value.Kind.{Kind}
use Rattle.sop_model.specs.declared.value.Kind.TheVariants as kind
use Rattle.sop_model.specs.declared.value.Value.{Value}
use Rattle.sop_model.specs.Values.{kind_of, default_of}
use Rattle.sop_model.specs.Vertices.{size_of, corners_of}
use Rattle.sop_model.specs.Geometry.{heads_of, rows_of, count_of, IsNamed, IsRowOf, IsSound, IsGood, BeginsWithPosition}
use Rattle.sop_model.specs.Rows.{with_value, with_flag, with_last_value, with_last_flag, without_value, rows_held, default_row, with_last_head, with_last_group, without_head, with_class}
use Rattle.sop_model.proofs.RowLists.{set_back, slice_get-map, map-remove, All-under_map}
use Rattle.sop_rows.proofs.ClassRows.{HasShapeOf, HasShapeOf-with_class, heads_of-with_class, heads_of-with_class_other, rows_of-with_class, rows_of-with_class_other, each_class}

-- ROWS

pub kind_of-default_of : (k : Kind) → kind_of (default_of k) ≡ k
kind_of-default_of kind.Int = refl
kind_of-default_of kind.Real = refl
kind_of-default_of kind.Vector = refl
kind_of-default_of kind.Str = refl
kind_of-default_of kind.Ints = refl
kind_of-default_of kind.Reals = refl
kind_of-default_of kind.Vectors = refl
kind_of-default_of kind.Strs = refl

pub IsRowOf-with_value : (set : HeadSet) (head : ℕ) (v : Value) → option_map (λ h. h.kind) (slice_get set.heads head) ≡ Some (kind_of v) → (row : Row) → IsRowOf set row → IsRowOf set (with_value head v row)
IsRowOf-with_value heads head v is row of = record {
  kinds =
      map-set kind_of row.values head v ∙ ap (λ ks. set ks head (kind_of v)) of.kinds
      ∙ set_back (map (λ (h : Head). h.kind) heads.heads) head (kind_of v) (slice_get-map (λ (h : Head). h.kind) heads.heads head ∙ is);
  flags = of.flags;
}

pub IsRowOf-with_flag : (set : HeadSet) (group : ℕ) (on : Bool) (row : Row) → IsRowOf set row → IsRowOf set (with_flag group on row)
IsRowOf-with_flag set group on row of = record { kinds = of.kinds; flags = length-set row.flags group on ∙ of.flags }

pub IsRowOf-last_value : (set : HeadSet) (head : Head) (row : Row) → IsRowOf set row → IsRowOf (with_last_head set head) (with_last_value (default_of head.kind) row)
IsRowOf-last_value set head row of = record {
  kinds =
      map-append kind_of row.values (default_of head.kind ∷ []) ∙ ap (λ ks. ks ++ kind_of (default_of head.kind) ∷ []) of.kinds
      ∙ ap (λ k. map (λ (h : Head). h.kind) set.heads ++ k ∷ []) (kind_of-default_of head.kind) ∙ sym (map-append (λ (h : Head). h.kind) set.heads (head ∷ []));
  flags = of.flags;
}

pub IsRowOf-last_flag : (set : HeadSet) (name : List ℕ) (on : Bool) (row : Row) → IsRowOf set row → IsRowOf (with_last_group set name) (with_last_flag on row)
IsRowOf-last_flag set name on row of = record {
  kinds = of.kinds;
  flags = length-append row.flags (on ∷ []) ∙ ap (λ (n : ℕ). n + 1) of.flags ∙ sym (length-append set.groups (name ∷ []));
}

pub IsRowOf-without_value : (set : HeadSet) (head : ℕ) (row : Row) → IsRowOf set row → IsRowOf (without_head set head) (without_value head row)
IsRowOf-without_value set head row of = record {
  kinds = map-remove kind_of row.values head ∙ ap (λ ks. remove ks head) of.kinds ∙ sym (map-remove (λ (h : Head). h.kind) set.heads head);
  flags = of.flags;
}

default_kinds : (heads : List Head) → map kind_of (map (λ h. default_of h.kind) heads) ≡ map (λ h. h.kind) heads
default_kinds [] = refl
default_kinds (h ∷ heads) =
    let here = kind_of-default_of h.kind in
    let rest = default_kinds heads in
    cc

pub IsRowOf-default_row : (set : HeadSet) → IsRowOf set (default_row set)
IsRowOf-default_row set = record { kinds = default_kinds set.heads; flags = length-map set.groups (λ group. false) }

pub length-rows_held : (head : ℕ) (rows : List Row) (vs : List Value) → length (rows_held head rows vs) ≡ length rows
length-rows_held head [] vs = refl
length-rows_held head (r ∷ rows) [] = refl
length-rows_held head (r ∷ rows) (v ∷ vs) = ap suc (length-rows_held head rows vs)

pub All-rows_held : (set : HeadSet) (head : ℕ) (rows : List Row) (vs : List Value) → All (λ v. option_map (λ (h : Head). h.kind) (slice_get set.heads head) ≡ Some (kind_of v)) vs → All (IsRowOf set) rows → All (IsRowOf set) (rows_held head rows vs)
All-rows_held set head [] vs kinds all = all
All-rows_held set head (r ∷ rows) [] kinds all = all
All-rows_held set head (r ∷ rows) (v ∷ vs) kinds all =
    let P : Value → Type 0 = λ v. option_map (λ (h : Head). h.kind) (slice_get set.heads head) ≡ Some (kind_of v) in
    All-cons (IsRowOf set) (with_value head v r) (rows_held head rows vs) (IsRowOf-with_value set head v (All-head P v vs kinds) r (All-head (IsRowOf set) r rows all))
    (All-rows_held set head rows vs (All-tail P v vs kinds) (All-tail (IsRowOf set) r rows all))

pub All-map_rows : (old new : HeadSet) (f : Row → Row) → ((row : Row) → IsRowOf old row → IsRowOf new (f row)) → (rows : List Row) → All (IsRowOf old) rows → All (IsRowOf new) (map f rows)
All-map_rows old new f keeps rows all = All-map (IsRowOf new) f rows (All-weaker (IsRowOf old) (λ row. IsRowOf new (f row)) keeps rows all)

-- GEOMETRIES

-- the conditions on other heads and groups of a class
pub record SuitsClass (class : Class) (set : HeadSet) : Type 0 where
  pub detail : class ≡ Detail → set.groups ≡ []
  pub point : class ≡ Point → BeginsWithPosition set.heads

detail_groups : (g : Geo) (class : Class) (set : HeadSet) (rows : List Row) → g.detail.groups ≡ [] → (class ≡ Detail → set.groups ≡ []) → (with_class g class set rows).detail.groups ≡ []
detail_groups g Detail set rows old new = new refl
detail_groups g Prim set rows old new = old
detail_groups g Point set rows old new = old
detail_groups g Vertex set rows old new = old

begins : (g : Geo) (class : Class) (set : HeadSet) (rows : List Row) → BeginsWithPosition g.point.heads → (class ≡ Point → BeginsWithPosition set.heads) → BeginsWithPosition (with_class g class set rows).point.heads
begins g Detail set rows old new = old
begins g Prim set rows old new = old
begins g Point set rows old new = new refl
begins g Vertex set rows old new = old

-- vertices that refer alike to as many points
pub refers_within : (g h : Geo) → HasShapeOf g h → All (λ c. c.point < length g.points) (corners_of g.prims) → All (λ c. c.point < length h.points) (corners_of h.prims)
refers_within g h shape all =
    let P : ℕ → Type 0 = λ n. n < length g.points in
    let Q : ℕ → Type 0 = λ n. n < length h.points in
    let e = shape.points in
    All-under_map Q (λ c. c.point) (corners_of h.prims) (subst (All Q) (sym shape.refers) (All-weaker P Q (λ n lt. omega arith) (map (λ c. c.point) (corners_of g.prims)) (All-map P (λ c. c.point) (corners_of g.prims) all)))

pub IsSound-with_class : (g : Geo) (class : Class) (set : HeadSet) (rows : List Row) → IsSound g → IsNamed set → SuitsClass class set → All (IsRowOf set) rows → length rows ≡ count_of g class → IsSound (with_class g class set rows)
IsSound-with_class g class set rows sound named suits all many = record {
  detail_groups = detail_groups g class set rows sound.detail_groups suits.detail;
  named = each_class (λ c. IsNamed (heads_of (with_class g class set rows) c)) class
      (subst IsNamed (sym (heads_of-with_class g class set rows)) named)
      (λ other ne. subst IsNamed (sym (heads_of-with_class_other g class set rows other ne)) (sound.named other));
  rows = each_class (λ c. All (IsRowOf (heads_of (with_class g class set rows) c)) (rows_of (with_class g class set rows) c)) class
      (subst (λ hs. All (IsRowOf hs) (rows_of (with_class g class set rows) class)) (sym (heads_of-with_class g class set rows))
      (subst (All (IsRowOf set)) (sym (rows_of-with_class g class set rows many)) all))
      (λ other ne. subst (λ hs. All (IsRowOf hs) (rows_of (with_class g class set rows) other)) (sym (heads_of-with_class_other g class set rows other ne))
      (subst (All (IsRowOf (heads_of g other))) (sym (rows_of-with_class_other g class set rows other ne)) (sound.rows other)));
  position = begins g class set rows sound.position suits.point;
  points = refers_within g (with_class g class set rows) (HasShapeOf-with_class g class set rows many) sound.points;
}

-- a geometry of the same shape has no primitive without vertices either
pub IsGood-shape : (g h : Geo) → HasShapeOf g h → IsSound h → IsGood g → IsGood h
IsGood-shape g h shape sound good = record {
  sound = sound;
  corners = let P : ℕ → Type 0 = λ n. 0 < n in All-under_map P size_of h.prims (subst (All P) (sym shape.sizes) (All-map P size_of g.prims good.corners));
}
