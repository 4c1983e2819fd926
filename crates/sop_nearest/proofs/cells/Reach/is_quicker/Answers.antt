use Rattle.std.proofs.Common.{arith, ltb-true, ap, ◌∙◌, ◌-◌, ◌*◌, ◌^◌, min}
use Rattle.sop_nearest.proofs.Grid.{few_rows}
use Rattle.sop_nearest.proofs.cells.Reach.is_quicker.Goals as goal

pub returns : goal.returns
returns c = λ quicker.
    let x = c.args.self.x in
    let y = c.args.self.y in
    few_rows ((x.end - x.low) * (y.end - y.low)) c.saturating_mul.result _ c.saturating_mul-2.result (2 ^ 64 - 1) c.args.points
    (c.saturating_mul.ensures ∙ ap (λ n. min (n * c.len-2.result) (2 ^ 64 - 1)) c.len.ensures ∙ ap (λ n. min ((x.end - x.low) * n) (2 ^ 64 - 1)) c.len-2.ensures)
    (omega arith) c.saturating_mul-2.ensures (omega arith) (ltb-true _ _ quicker)
