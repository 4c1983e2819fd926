use Rattle.std.proofs.Common.{◌∙◌, ℕ, replicate, ap, sym, subst, refl}
use Rattle.sop_model.specs.declared.geo.HeadSet.{HeadSet}
use Rattle.sop_model.specs.Geometry.{empty_geo}
use Rattle.sop_model.specs.Rows.{default_row}
use Rattle.sop_shape.specs.Shapes.{HasShape}
use Rattle.sop_sheets.proofs.CallLemmas.{err_by}
use Rattle.sop_sheets.proofs.MadeLemmas.{bare_step, no_step_then, no_step, empty_made, empty_is}
use Rattle.sop_sheets.proofs.sheet.Sheet.empty.Goals as goal

pub returns-in_err-topology-clause-err : goal.returns-in_err-topology-clause-err
returns-in_err-topology-clause-err c = err_by c.from_residual.result (no_step c.args.shelf.now c.args.names.now)

pub returns-in_err-position-clause-err : goal.returns-in_err-position-clause-err
returns-in_err-position-clause-err c = err_by c.from_residual-in_err-position.result (no_step c.args.shelf.now c.args.names.now)

pub returns-in_err-prim-clause-err : goal.returns-in_err-prim-clause-err
returns-in_err-prim-clause-err c =
    let d = bare_step c.args.shelf.now c.new-2.new.shelf c.args.names.now c.new-2.new.names c.in_ok-detail.detail c.in_ok-detail.ensures.made (c.in_ok-detail.ensures.set ∙ c.empty-2.ensures) in
    err_by c.from_residual-in_err-prim.result (no_step_then c.args.shelf.now c.new-2.new.shelf c.new-3.new.shelf c.args.names.now c.new-2.new.names c.new-3.new.names d c.in_err-prim.ensures.err)

pub returns-in_err-vertex-clause-err : goal.returns-in_err-vertex-clause-err
returns-in_err-vertex-clause-err c =
    let d = bare_step c.args.shelf.now c.new-2.new.shelf c.args.names.now c.new-2.new.names c.in_ok-detail.detail c.in_ok-detail.ensures.made (c.in_ok-detail.ensures.set ∙ c.empty-2.ensures) in
    let p = bare_step c.new-2.new.shelf c.new-3.new.shelf c.new-2.new.names c.new-3.new.names c.in_ok-prim.prim c.in_ok-prim.ensures.made (c.in_ok-prim.ensures.set ∙ c.empty-3.ensures) in
    let both = no_step_then c.args.shelf.now c.new-2.new.shelf c.new-3.new.shelf c.args.names.now c.new-2.new.names c.new-3.new.names d p in
    err_by c.from_residual-in_err-vertex.result (no_step_then c.args.shelf.now c.new-3.new.shelf c.new-4.new.shelf c.args.names.now c.new-3.new.names c.new-4.new.names both c.in_err-vertex.ensures.err)

pub returns-in_err-point-clause-err : goal.returns-in_err-point-clause-err
returns-in_err-point-clause-err c =
    let d = bare_step c.args.shelf.now c.new-2.new.shelf c.args.names.now c.new-2.new.names c.in_ok-detail.detail c.in_ok-detail.ensures.made (c.in_ok-detail.ensures.set ∙ c.empty-2.ensures) in
    let p = bare_step c.new-2.new.shelf c.new-3.new.shelf c.new-2.new.names c.new-3.new.names c.in_ok-prim.prim c.in_ok-prim.ensures.made (c.in_ok-prim.ensures.set ∙ c.empty-3.ensures) in
    let v = bare_step c.new-3.new.shelf c.new-4.new.shelf c.new-3.new.names c.new-4.new.names c.in_ok-vertex.vertex c.in_ok-vertex.ensures.made (c.in_ok-vertex.ensures.set ∙ c.empty-4.ensures) in
    let both = no_step_then c.args.shelf.now c.new-2.new.shelf c.new-3.new.shelf c.args.names.now c.new-2.new.names c.new-3.new.names d p in
    let three = no_step_then c.args.shelf.now c.new-3.new.shelf c.new-4.new.shelf c.args.names.now c.new-3.new.names c.new-4.new.names both v in
    err_by c.from_residual-in_err-point.result (no_step_then c.args.shelf.now c.new-4.new.shelf c.new-5.new.shelf c.args.names.now c.new-4.new.names c.new-5.new.names three c.in_err-point.ensures.err)

pub returns-clause-made : goal.returns-clause-made
returns-clause-made c =
    let d = c.in_ok-detail.ensures in
    let p = c.in_ok-prim.ensures in
    let v = c.in_ok-vertex.ensures in
    let o = c.in_ok-point.ensures in
    let many = λ (k : ℕ) (h : HeadSet). replicate k (default_row h) in
    empty_made c.args.shelf.now c.new-2.new.shelf c.new-3.new.shelf c.new-4.new.shelf c.new-5.new.shelf c.args.names.now c.new-2.new.names c.new-3.new.names c.new-4.new.names c.new-5.new.names
    c.in_ok-detail.detail c.in_ok-prim.prim c.in_ok-vertex.vertex c.in_ok-point.point c.in_ok-topology.topology
    d.made (d.set ∙ c.empty-2.ensures) (d.rows ∙ ap (many 1) c.empty-2.ensures) p.made (p.set ∙ c.empty-3.ensures) (p.rows ∙ ap (many 0) c.empty-3.ensures)
    v.made (v.set ∙ c.empty-4.ensures) (v.rows ∙ ap (many 0) c.empty-4.ensures) o.made (o.set ∙ c.in_ok-position.ensures) (o.rows ∙ ap (many 0) c.in_ok-position.ensures)
    (subst (HasShape empty_geo) (sym c.in_ok-topology.ensures) (c.empty.ensures empty_geo refl))

pub returns-clause-geo : goal.returns-clause-geo
returns-clause-geo c =
    let d = c.in_ok-detail.ensures in
    let p = c.in_ok-prim.ensures in
    let v = c.in_ok-vertex.ensures in
    let o = c.in_ok-point.ensures in
    let many = λ (k : ℕ) (h : HeadSet). replicate k (default_row h) in
    empty_is c.args.shelf.now c.new-2.new.shelf c.new-3.new.shelf c.new-4.new.shelf c.new-5.new.shelf c.args.names.now c.new-2.new.names c.new-3.new.names c.new-4.new.names c.new-5.new.names
    c.in_ok-detail.detail c.in_ok-prim.prim c.in_ok-vertex.vertex c.in_ok-point.point c.in_ok-topology.topology
    d.made (d.set ∙ c.empty-2.ensures) (d.rows ∙ ap (many 1) c.empty-2.ensures) p.made (p.set ∙ c.empty-3.ensures) (p.rows ∙ ap (many 0) c.empty-3.ensures)
    v.made (v.set ∙ c.empty-4.ensures) (v.rows ∙ ap (many 0) c.empty-4.ensures) o.made (o.set ∙ c.in_ok-position.ensures) (o.rows ∙ ap (many 0) c.in_ok-position.ensures)
    (subst (HasShape empty_geo) (sym c.in_ok-topology.ensures) (c.empty.ensures empty_geo refl))
