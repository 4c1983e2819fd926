use Rattle.std.proofs.Common.{◌∙◌, ap, length, arith}
use Rattle.geo_text.proofs.ObjScanning.{ends_placed}
use Rattle.geo_text.proofs.scan.ends_in.Goals as goal

pub returns-clause-value : goal.returns-clause-value
returns-clause-value c = c.count.ensures ∙ ap length c.memchr_iter.ensures.value ∙ ends_placed c.args.text.now (λ k. omega (arith, c.type_inv.text k))
