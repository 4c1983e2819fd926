use Rattle.sop_model.specs.declared.class.Class.TheVariants.{Detail, Prim, Point, Vertex}
use Rattle.sop_sheets.proofs.AppendLemmas.{all_fit}
use Rattle.sop_sheets.proofs.sheet.Sheet.sets_fit.Goals as goal

pub returns-then-two_fit : goal.returns-then-two_fit
returns-then-two_fit c =
    (λ t. all_fit c.args.self.now c.args.other.now (c.two_fit.ensures.0 c.if-two_fit.true) (c.two_fit-then-two_fit.ensures.0 t), λ k. c.two_fit-then-two_fit.ensures.1 (k.each Point, k.each Vertex))

pub returns-else-two_fit : goal.returns-else-two_fit
returns-else-two_fit c = (λ t. let no = c.if-two_fit.false in cc, λ k. c.two_fit.ensures.1 (k.each Detail, k.each Prim))
