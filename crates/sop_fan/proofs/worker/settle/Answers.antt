use Rattle.std.proofs.Common.{◌∙◌, ap, sym, subst, arith, refl, ◌∷◌, []}
use Rattle.sop_claim.specs.declared.rule.View.{View}
use Rattle.sop_claim.specs.Views.{HasLoadedBelow, with_done, with_skipped, with_faulty}
use Rattle.sop_claim.specs.Passes.{view_of}
use Rattle.sop_claim.proofs.Sums.{times-append, times_here}
use Rattle.sop_fan.specs.Hauls.{SettlesOne}
use Rattle.sop_fan.proofs.Carrying.{carries_faulty, settles_skipped, settles_done, settles_faulty}
use Rattle.sop_fan.proofs.worker.settle.Goals as goal

pub skip-requires-clause-least : goal.skip-requires-clause-least
skip-requires-clause-least g c =
    subst (λ (v : View). HasLoadedBelow v c.args.k) (sym c.least-least.ensures.loaded) (
      c.least-least.result,
      c.if-least-k.true,
      (let a = times-append c.least-least.result (view_of c.args.haul.now.pass).loaded (c.least-least.result ∷ []) in let b = times_here c.least-least.result c.least-least.result refl in omega arith),
    )

pub returns-then-least-k-clause-settled : goal.returns-then-least-k-clause-settled
returns-then-least-k-clause-settled g c =
    let is = c.skip.ensures.skipped ∙ ap (λ (v : View). with_skipped v c.args.k) c.least-least.ensures.loaded in
    subst (λ (v : View). SettlesOne (view_of c.args.haul.now.pass) v c.args.k) (sym is) (settles_skipped (view_of c.args.haul.now.pass) c.least-least.result c.args.k)

pub returns-in_ok-push-in-Ok-clause-settled : goal.returns-in_ok-push-in-Ok-clause-settled
returns-in_ok-push-in-Ok-clause-settled g c =
    let is = c.done.ensures.done ∙ ap (λ (v : View). with_done v c.args.k) c.least-least.ensures.loaded in
    subst (λ (v : View). SettlesOne (view_of c.args.haul.now.pass) v c.args.k) (sym is) (settles_done (view_of c.args.haul.now.pass) c.least-least.result c.args.k)

pub returns-in-Err-Fault-clause-settled : goal.returns-in-Err-Fault-clause-settled
returns-in-Err-Fault-clause-settled g c =
    let is = c.report.ensures.faulty ∙ ap (λ (v : View). with_faulty v c.args.k) c.least-least.ensures.loaded in
    subst (λ (v : View). SettlesOne (view_of c.args.haul.now.pass) v c.args.k) (sym is) (settles_faulty (view_of c.args.haul.now.pass) c.least-least.result c.args.k)

pub returns-in-Err-Fault-clause-carries : goal.returns-in-Err-Fault-clause-carries
returns-in-Err-Fault-clause-carries g c =
    let under = c.if-least-k.false in
    rw (c.report.ensures.faulty, c.least-least.ensures.loaded) (carries_faulty (g.J.Job.fault c.args.job.now) (g.J.Job.admits c.args.job.now) (view_of c.args.haul.now.pass) _ _ c.requires.carries c.least-least.result c.args.k _ c.least-least.ensures.falls (omega arith) (rw c.in-Err-Fault.field-0-is at c.in-Err-Fault.ensures.err))
