use Rattle.std.proofs.Common.{refl, ◌∙◌, ap, length}
use Rattle.std.specs.Prelude.{min, ◌+◌}
use Rattle.sop_pattern.proofs.Cycles.{cycled_more}
use Rattle.sop_pattern.proofs.marks.mark_cycle.Goals as goal

pub loop-start-preserved : goal.loop-start-preserved
loop-start-preserved c =
    let flags = c.args.flags.now in
    let start = c.loop-start.start in
    cycled_more c.args.first c.args.last c.args.taken c.args.every (length flags) 18446744073709551615 c.args.to start c.min-end.result c.min-stop.result c.saturating_add-start.result flags c.loop-start.flags c.mark_run.new.flags
    (c.min-end.ensures ∙ ap (λ n. min n (length flags)) c.saturating_add.ensures)
    (c.min-stop.ensures ∙ ap (λ n. min n c.min-end.result) (c.saturating_add-in-loop-start.ensures ∙ ap (λ n. min (start + n) 18446744073709551615) c.min.ensures))
    c.saturating_add-start.ensures c.loop-start-test.true c.requires c.loop-start.auto.flags refl c.mark_run.ensures c.loop-start.invariant
