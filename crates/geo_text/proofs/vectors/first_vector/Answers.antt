use Rattle.std.proofs.Common.{◌∙◌, sym, subst}
use Rattle.geo_text.specs.ObjScan.{words_here}
use Rattle.geo_text.specs.ObjDecimals.{IsFirstVector}
use Rattle.geo_text.proofs.ObjVectors.{no_place}
use Rattle.geo_text.proofs.vectors.first_vector.Goals as goal

pub returns-in_err-vector : goal.returns-in_err-vector
returns-in_err-vector c =
    let three = c.in_ok-three.three in
    subst (λ o. IsFirstVector o c.args.text.now) (sym c.from_residual-in_err-vector.ensures)
    (no_place (words_here c.args.text.now) three.x.now three.y.now three.z.now (words_here three.rest.now) c.in_ok-three.ensures (sym c.vector_in.ensures ∙ c.in_err-vector.was))
