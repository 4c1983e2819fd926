use Rattle.std.proofs.Common.{◌≡◌, ◌∙◌, ◌<◌, ℕ, List, length, ap, sym, subst, refl}
use Rattle.std.specs.Prelude.{All}
use Rattle.sop_model.specs.declared.class.Class.TheVariants.{Prim, Point, Vertex}
use Rattle.sop_model.specs.declared.geo.Geo.{Geo}
use Rattle.sop_model.specs.Sweep.{swept}
use Rattle.sop_shape.specs.Shapes.{ShapeLists, HasShape}
use Rattle.sop_shape.specs.Tests.{numbers_left}
use Rattle.sop_columns.proofs.NameLemmas.{grows_none}
use Rattle.sop_sheets.specs.Sheets.{geo_of}
use Rattle.sop_sheets.proofs.ViewLemmas.{count_in, shape_in}
use Rattle.sop_sheets.proofs.CallLemmas.{on_ok, err_by, stays_still}
use Rattle.sop_sheets.proofs.LeftLemmas.{refers_many, closed_many, refers_within, left_sources, left_rebuilt}
use Rattle.sop_sheets.proofs.sheet.Sheet.keep.Goals as goal
use Rattle.sop_sheets.proofs.sheet.Sheet.keep.Goals.{In_ok-left}

pub kept-requires-clause-points : goal.kept-requires-clause-points
kept-requires-clause-points c = c.requires.marks.points ∙ sym (count_in c.args.shelf.now c.args.names.now c.args.self.now c.requires.sheet _ refl Point) ∙ sym c.count.ensures

pub kept-requires-clause-vertices : goal.kept-requires-clause-vertices
kept-requires-clause-vertices c =
    c.requires.marks.vertices ∙ sym (refers_many c.args.shelf.now c.args.names.now c.args.self.now c.requires.sheet _ refl) ∙ ap (λ (shape : ShapeLists). length shape.refers) (sym c.shape.ensures)

pub kept-requires-clause-prims : goal.kept-requires-clause-prims
kept-requires-clause-prims c =
    c.requires.marks.prims ∙ sym (closed_many c.args.shelf.now c.args.names.now c.args.self.now c.requires.sheet _ refl) ∙ ap (λ (shape : ShapeLists). length shape.closed) (sym c.shape.ensures)

pub kept-requires-clause-with_points : goal.kept-requires-clause-with_points
kept-requires-clause-with_points c =
    c.requires.marks.with_points ∙ sym (closed_many c.args.shelf.now c.args.names.now c.args.self.now c.requires.sheet _ refl) ∙ ap (λ (shape : ShapeLists). length shape.closed) (sym c.shape.ensures)

pub kept-requires-clause-refers : goal.kept-requires-clause-refers
kept-requires-clause-refers c =
    let many = count_in c.args.shelf.now c.args.names.now c.args.self.now c.requires.sheet _ refl Point in
    let within = λ (k : ℕ) (ns : List ℕ). All (λ i. i < k) ns in
    subst (within c.count.result) (ap (λ (shape : ShapeLists). shape.refers) (sym c.shape.ensures))
    (subst (λ (k : ℕ). within k c.args.self.now.shape.refers) (sym many ∙ sym c.count.ensures) (refers_within c.args.shelf.now c.args.names.now c.args.self.now c.requires.sheet _ refl))

pub returns-in_err-left-clause-err : goal.returns-in_err-left-clause-err
returns-in_err-left-clause-err c = err_by c.from_residual.result (stays_still c.args.shelf.now c.args.shelf.now c.args.names.now c.args.names.now c.args.self.now c.args.self.now (grows_none c.args.names.now) refl refl)

pub returns-in_err-topology-clause-err : goal.returns-in_err-topology-clause-err
returns-in_err-topology-clause-err c =
    err_by c.from_residual-in_err-topology.result (stays_still c.args.shelf.now c.args.shelf.now c.args.names.now c.args.names.now c.args.self.now c.args.self.now (grows_none c.args.names.now) refl refl)

-- what `kept` answers is what is left of this geometry
module _ (c : In_ok-left) where
  abbrev old : Geo
  old = geo_of c.args.shelf.now c.args.names.now c.args.self.now

  has : HasShape old c.shape.result.now
  has = shape_in c.args.shelf.now c.args.names.now c.args.self.now c.requires.sheet old refl ∙ sym c.shape.ensures

  prims_left : c.in_ok-left.left.prims.items ≡ numbers_left old c.args.marks.now Prim
  prims_left = c.in_ok-left.ensures.prims old has

  points_left : c.in_ok-left.left.points.items ≡ numbers_left old c.args.marks.now Point
  points_left = c.in_ok-left.ensures.points old has (sym (count_in c.args.shelf.now c.args.names.now c.args.self.now c.requires.sheet old refl Point) ∙ sym c.count.ensures)

  vertices_left : c.in_ok-left.left.vertices.items ≡ numbers_left old c.args.marks.now Vertex
  vertices_left = c.in_ok-left.ensures.vertices old has

  shape_left : HasShape (swept old c.args.marks.now) c.in_ok-left.left.shape
  shape_left = c.in_ok-left.ensures.shape old has

pub rebuild-requires-clause-source : goal.rebuild-requires-clause-source
rebuild-requires-clause-source c =
    let d = (goal.at.rebuild-requires-clause-source c).In_ok-left in
    left_sources c.args.shelf.now c.args.names.now c.args.self.now c.requires.sheet (old d) refl c.args.marks.now c.as_slice.result c.as_slice-2.result c.as_slice-3.result
    (c.as_slice.ensures.value ∙ prims_left d) (c.as_slice-2.ensures.value ∙ points_left d) (c.as_slice-3.ensures.value ∙ vertices_left d) c.requires.held

pub returns-clause-ok : goal.returns-clause-ok
returns-clause-ok c =
    let d = (goal.at.returns-clause-ok c).In_ok-left in
    let left = swept (old d) c.args.marks.now in
    on_ok c.rebuild.result (λ becomes.
    becomes left (left_rebuilt c.args.shelf.now c.args.names.now c.args.self.now c.requires.sheet (old d) refl c.args.marks.now c.as_slice.result c.as_slice-2.result c.as_slice-3.result
    (c.as_slice.ensures.value ∙ prims_left d) (c.as_slice-2.ensures.value ∙ points_left d) (c.as_slice-3.ensures.value ∙ vertices_left d)
    c.in_ok-topology.topology (subst (HasShape left) (sym c.in_ok-topology.ensures) (shape_left d))))
    c.rebuild.ensures.ok
