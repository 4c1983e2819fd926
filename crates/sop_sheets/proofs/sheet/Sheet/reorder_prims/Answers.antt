use Rattle.std.proofs.Common.{◌≡◌, ◌∙◌, ℕ, length, ap, sym, subst, refl}
use Rattle.sop_model.specs.declared.class.Class.TheVariants.{Prim}
use Rattle.sop_model.specs.declared.geo.Geo.{Geo}
use Rattle.sop_model.specs.Rows.{reordered, IsOrderOf}
use Rattle.sop_rows.specs.Parts.{vertices_with}
use Rattle.sop_shape.specs.Shapes.{ShapeLists, HasShape}
use Rattle.sop_columns.proofs.NameLemmas.{grows_none}
use Rattle.sop_sheets.specs.Sheets.{geo_of}
use Rattle.sop_sheets.proofs.ViewLemmas.{shape_in}
use Rattle.sop_sheets.proofs.CallLemmas.{on_ok, err_by, stays_still}
use Rattle.sop_sheets.proofs.LeftLemmas.{closed_many, prim_sources, prims_rebuilt}
use Rattle.sop_sheets.proofs.sheet.Sheet.reorder_prims.Goals as goal
use Rattle.sop_sheets.proofs.sheet.Sheet.reorder_prims.Goals.{In_ok-made}

pub reordered_prims-requires : goal.reordered_prims-requires
reordered_prims-requires c =
    let many = closed_many c.args.shelf.now c.args.names.now c.args.self.now c.requires.sheet _ refl in
    subst (λ (k : ℕ). IsOrderOf k c.args.perm.now) (sym many ∙ ap (λ (shape : ShapeLists). length shape.closed) (sym c.shape.ensures)) c.requires.order

pub returns-in_err-made-clause-err : goal.returns-in_err-made-clause-err
returns-in_err-made-clause-err c = err_by c.from_residual.result (stays_still c.args.shelf.now c.args.shelf.now c.args.names.now c.args.names.now c.args.self.now c.args.self.now (grows_none c.args.names.now) refl refl)

pub returns-in_err-topology-clause-err : goal.returns-in_err-topology-clause-err
returns-in_err-topology-clause-err c =
    err_by c.from_residual-in_err-topology.result (stays_still c.args.shelf.now c.args.shelf.now c.args.names.now c.args.names.now c.args.self.now c.args.self.now (grows_none c.args.names.now) refl refl)

-- what `reordered_prims` answers is of this geometry
module _ (c : In_ok-made) where
  abbrev old : Geo
  old = geo_of c.args.shelf.now c.args.names.now c.args.self.now

  has : HasShape old c.shape.result.now
  has = shape_in c.args.shelf.now c.args.names.now c.args.self.now c.requires.sheet old refl ∙ sym c.shape.ensures

  with_prims : c.in_ok-made.made.1.items ≡ vertices_with old.prims c.args.perm.now
  with_prims = c.in_ok-made.ensures.vertices old has

  moved_shape : HasShape (reordered old Prim c.args.perm.now) c.in_ok-made.made.0
  moved_shape = c.in_ok-made.ensures.shape old has

pub rebuild-requires-clause-source : goal.rebuild-requires-clause-source
rebuild-requires-clause-source c =
    let d = (goal.at.rebuild-requires-clause-source c).In_ok-made in
    prim_sources c.args.shelf.now c.args.names.now c.args.self.now c.requires.sheet (old d) refl c.args.perm c.as_slice.result c.requires.order (c.as_slice.ensures.value ∙ with_prims d) c.requires.held

pub returns-clause-ok : goal.returns-clause-ok
returns-clause-ok c =
    let d = (goal.at.returns-clause-ok c).In_ok-made in
    let moved = reordered (old d) Prim c.args.perm.now in
    on_ok c.rebuild.result (λ becomes.
    becomes moved (prims_rebuilt c.args.shelf.now c.args.names.now c.args.self.now c.requires.sheet (old d) refl c.args.perm c.as_slice.result c.requires.order (c.as_slice.ensures.value ∙ with_prims d)
    c.in_ok-topology.topology (subst (HasShape moved) (sym c.in_ok-topology.ensures) (moved_shape d))))
    c.rebuild.ensures.ok
