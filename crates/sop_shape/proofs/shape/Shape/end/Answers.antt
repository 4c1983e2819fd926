use Rattle.std.proofs.Common.{◌∙◌, length, get_or, ap, arith}
use Rattle.sop_shape.proofs.ReadLemmas.{ends_as_many, end_at}
use Rattle.sop_shape.proofs.shape.Shape.end.Goals as goal

pub index-requires : goal.index-requires
index-requires c = omega (arith, ends_as_many _ c.self.invariant, c.self.inside.ends.ok.0, ap (λ s. length s.closed) c.self.view_is)

pub returns : goal.returns
returns c g has = end_at g c.args.self.now has c.args.prim c.index.result.now c.requires (c.index.ensures ∙ ap (λ s. get_or s.ends c.args.prim c.index.result.now) c.self.view_is)
