use Rattle.std.proofs.Common.{◌≡◌, ◌*◌, ◌∙◌, ap, arith, unsigned_abs}
use Rattle.sop_fixed.proofs.Roots.{sqrt_greatest}
use Rattle.sop_fixed.proofs.real.Real.sqrt.Goals as goal

pub returns-clause-greatest : goal.returns-clause-greatest
returns-clause-greatest c = λ _.
    let same : c.product.result ≡ unsigned_abs c.args.self * 1000000 = c.product.ensures.value ∙ ap (λ s. s * 1000000) c.size.ensures.value in
    rw (c.of_parts.ensures, ← same) (sqrt_greatest c.product.result c.root.result (omega (arith, c.product.ensures.value, c.size.ensures.bound)) c.root.ensures.greatest)
