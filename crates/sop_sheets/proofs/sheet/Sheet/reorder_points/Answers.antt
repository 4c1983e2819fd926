use Rattle.std.proofs.Common.{◌≡◌, ◌∙◌, ◌<◌, ◌≤◌, ℕ, List, length, ap, sym, subst, refl, arith}
use Rattle.std.specs.Prelude.{All}
use Rattle.sop_model.specs.declared.class.Class.TheVariants.{Point}
use Rattle.sop_model.specs.declared.geo.Geo.{Geo}
use Rattle.sop_model.specs.Limits.{most_vertices}
use Rattle.sop_model.specs.Geometry.{count_of}
use Rattle.sop_model.specs.Rows.{reordered, IsOrderOf}
use Rattle.sop_rows.proofs.OrderOps.{length-order}
use Rattle.sop_shape.specs.Shapes.{ShapeLists, HasShape}
use Rattle.sop_columns.proofs.NameLemmas.{grows_none}
use Rattle.sop_sheets.specs.Sheets.{geo_of}
use Rattle.sop_sheets.proofs.ViewLemmas.{count_in, shape_in}
use Rattle.sop_sheets.proofs.CallLemmas.{on_ok, err_by, stays_still}
use Rattle.sop_sheets.proofs.LeftLemmas.{refers_within, point_sources, points_rebuilt}
use Rattle.sop_sheets.proofs.sheet.Sheet.reorder_points.Goals as goal
use Rattle.sop_sheets.proofs.sheet.Sheet.reorder_points.Goals.{Start}

module _ (c : Start) where
  abbrev old : Geo
  old = geo_of c.args.shelf.now c.args.names.now c.args.self.now

  long : length c.args.perm.now ≡ count_of old Point
  long = length-order (count_of old Point) c.args.perm.now c.requires.order

  few : length c.args.perm.now ≤ most_vertices
  few = let a = long in let b = count_in c.args.shelf.now c.args.names.now c.args.self.now c.requires.sheet old refl Point in let d = (c.requires.sheet.tables Point).most in omega arith

pub reordered_points-requires-clause-order : goal.reordered_points-requires-clause-order
reordered_points-requires-clause-order c = subst (λ (k : ℕ). IsOrderOf k c.args.perm.now) (sym (long (goal.at.reordered_points-requires-clause-order c).Start)) c.requires.order

pub reordered_points-requires-clause-few : goal.reordered_points-requires-clause-few
reordered_points-requires-clause-few c = let a = few (goal.at.reordered_points-requires-clause-few c).Start in omega arith

pub reordered_points-requires-clause-refers : goal.reordered_points-requires-clause-refers
reordered_points-requires-clause-refers c =
    let d = (goal.at.reordered_points-requires-clause-refers c).Start in
    let within = λ (k : ℕ) (ns : List ℕ). All (λ i. i < k) ns in
    subst (within (length c.args.perm.now)) (ap (λ (shape : ShapeLists). shape.refers) (sym c.shape.ensures))
    (subst (λ (k : ℕ). within k c.args.self.now.shape.refers) (sym (long d)) (refers_within c.args.shelf.now c.args.names.now c.args.self.now c.requires.sheet (old d) refl))

pub returns-in_err-shape-clause-err : goal.returns-in_err-shape-clause-err
returns-in_err-shape-clause-err c = err_by c.from_residual.result (stays_still c.args.shelf.now c.args.shelf.now c.args.names.now c.args.names.now c.args.self.now c.args.self.now (grows_none c.args.names.now) refl refl)

pub returns-in_err-topology-clause-err : goal.returns-in_err-topology-clause-err
returns-in_err-topology-clause-err c =
    err_by c.from_residual-in_err-topology.result (stays_still c.args.shelf.now c.args.shelf.now c.args.names.now c.args.names.now c.args.self.now c.args.self.now (grows_none c.args.names.now) refl refl)

pub rebuild-requires-clause-source : goal.rebuild-requires-clause-source
rebuild-requires-clause-source c = point_sources c.args.shelf.now c.args.names.now c.args.self.now c.requires.sheet _ refl c.args.perm c.requires.order c.requires.held

pub returns-clause-ok : goal.returns-clause-ok
returns-clause-ok c =
    let d = (goal.at.returns-clause-ok c).Start in
    let moved = reordered (old d) Point c.args.perm.now in
    let has = shape_in c.args.shelf.now c.args.names.now c.args.self.now c.requires.sheet (old d) refl ∙ sym c.shape.ensures in
    on_ok c.rebuild.result (λ becomes.
    becomes moved (points_rebuilt c.args.shelf.now c.args.names.now c.args.self.now c.requires.sheet (old d) refl c.args.perm c.requires.order
    c.in_ok-topology.topology (subst (HasShape moved) (sym c.in_ok-topology.ensures) (c.in_ok-shape.ensures (old d) has))))
    c.rebuild.ensures.ok
