use Rattle.std.proofs.Common.{◌∙◌, ◌≡◌, ◌-ℤ◌, ◌*◌, ap, unsigned_abs, arith}
use Rattle.sop_fixed.specs.Numbers.{nearest}
use Rattle.sop_fixed.specs.Arithmetic.{put_between}
use Rattle.sop_fixed.proofs.Fitting.{fit_is, fit_within}
use Rattle.sop_fixed.proofs.real.Real.fit.Goals as goal

pub moved_toward-requires : goal.moved_toward-requires
moved_toward-requires c =
    let part : c.distance-part.result ≡ unsigned_abs (put_between c.args.omin c.args.omax c.args.self -ℤ c.args.omin) = c.distance-part.ensures.value ∙ ap (λ z. unsigned_abs (z -ℤ c.args.omin)) c.put_between.ensures in
    let size : c.nearest.result ≡ nearest (c.distance-part.result * c.distance.result) c.distance-width.result = c.nearest.ensures ∙ ap (λ n. nearest n c.distance-width.result) c.product.ensures.value in
    omega (arith, c.distance.ensures.value, fit_within c.args.self c.args.omin c.args.omax c.distance-width.result c.distance-part.result c.distance.result c.nearest.result c.distance-width.ensures.value c.if-width-eq0.false part size)

pub returns-clause-value : goal.returns-clause-value
returns-clause-value c =
    let part : c.distance-part.result ≡ unsigned_abs (put_between c.args.omin c.args.omax c.args.self -ℤ c.args.omin) = c.distance-part.ensures.value ∙ ap (λ z. unsigned_abs (z -ℤ c.args.omin)) c.put_between.ensures in
    let size : c.nearest.result ≡ nearest (c.distance-part.result * c.distance.result) c.distance-width.result = c.nearest.ensures ∙ ap (λ n. nearest n c.distance-width.result) c.product.ensures.value in
    c.moved_toward.ensures.value
    ∙ fit_is c.args.self c.args.omin c.args.omax c.args.nmin c.args.nmax c.distance-width.result c.distance-part.result c.distance.result c.nearest.result c.distance-width.ensures.value c.if-width-eq0.false part c.distance.ensures.value size
