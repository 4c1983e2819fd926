use Rattle.std.proofs.Common.{sym, ap, ◌∙◌, Some, length, arith}
use Rattle.std.specs.Option.{option_map}
use Rattle.sop_model.specs.Rows.{changed_at}
use Rattle.sop_model.specs.Vertices.{ends_of, with_row}
use Rattle.sop_model.proofs.PrimitivesLemmas.{found, set-with_row, ends_of-with_row}
use Rattle.sop_model.proofs.primitives.PrimList.replace_row.Goals as goal

pub invariant_of-self : goal.invariant_of-self
invariant_of-self c =
    let prims = c.self.inside.prims.items in
    let at = found prims c.args.i c.index_mut-prim.result.now (omega (arith, ap length c.self.view_is)) c.index_mut-prim.ensures.value in
    let put = set-with_row prims c.args.i c.index_mut-prim.result.now c.args.row c.replace.new.dest at c.replace.ensures.after in
    c.self.invariant ∙ sym (ends_of-with_row c.args.row prims c.args.i) ∙ ap (ends_of 0) (sym put)

pub returns-clause-prims : goal.returns-clause-prims
returns-clause-prims c =
    let prims = c.self.inside.prims.items in
    let at = found prims c.args.i c.index_mut-prim.result.now (omega (arith, ap length c.self.view_is)) c.index_mut-prim.ensures.value in
    set-with_row prims c.args.i c.index_mut-prim.result.now c.args.row c.replace.new.dest at c.replace.ensures.after
    ∙ ap (λ prims. changed_at (with_row c.args.row) prims c.args.i) c.self.view_is

pub returns-clause-taken : goal.returns-clause-taken
returns-clause-taken c =
    let prims = c.self.inside.prims.items in
    let at = found prims c.args.i c.index_mut-prim.result.now (omega (arith, ap length c.self.view_is)) c.index_mut-prim.ensures.value in
    rw (← c.self.view_is) (ap (option_map (λ p. p.row)) at ∙ ap Some (sym c.replace.ensures.value))
