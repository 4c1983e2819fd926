use Rattle.std.proofs.Common.{ℕ, subst}
use Rattle.std.specs.Prelude.{Option}
use Rattle.sop_claim.specs.Ends.{Knows}
use Rattle.sop_claim.specs.Passes.{view_of}
use Rattle.sop_fan.specs.Hauls.{Carries}
use Rattle.sop_fan.proofs.Outcome.{answers, each_done, first_fault}
use Rattle.sop_fan.proofs.fan.outcome.Goals as goal

pub returns-in-Some-clause-fault : goal.returns-in-Some-clause-fault
returns-in-Some-clause-fault g c =
    let fault_at = g.J.Job.fault c.args.job.now in let admits = g.J.Job.admits c.args.job.now in
    let haul = c.in_ok-pass.field-0 in let end = c.in_ok-close.field-0 in
    let known : Knows c.args.n end (view_of haul.pass) = subst (λ n. Knows n end (view_of haul.pass)) c.in_ok-board.ensures.tickets c.in_ok-close.ensures.known in
    first_fault fault_at admits c.args.n end (view_of haul.pass) haul.outs.items known c.in_ok-pass.ensures.all_settled c.in_ok-pass.ensures.ended c.in-Some.found.0 c.in-Some.found.1 (subst (λ (o : Option (ℕ × g.row.J-Fault.Denot)). Carries fault_at admits (view_of haul.pass) haul.outs.items o) c.in-Some.is c.in_ok-pass.ensures.carries)

pub in_order-requires : goal.in_order-requires
in_order-requires g c =
    let fault_at = g.J.Job.fault c.args.job.now in let admits = g.J.Job.admits c.args.job.now in
    let haul = c.in_ok-pass.field-0 in let end = c.in_ok-close.field-0 in
    let known : Knows c.args.n end (view_of haul.pass) = subst (λ n. Knows n end (view_of haul.pass)) c.in_ok-board.ensures.tickets c.in_ok-close.ensures.known in
    record { each = each_done fault_at admits c.args.n end (view_of haul.pass) haul.outs.items known c.in_ok-pass.ensures.all_settled c.in_ok-pass.ensures.ended (subst (λ (o : Option (ℕ × g.row.J-Fault.Denot)). Carries fault_at admits (view_of haul.pass) haul.outs.items o) c.in-None.is c.in_ok-pass.ensures.carries) }

pub returns-in_ok-in_order-in-None-clause-ok : goal.returns-in_ok-in_order-in-None-clause-ok
returns-in_ok-in_order-in-None-clause-ok g c =
    answers (g.J.Job.fault c.args.job.now) (g.J.Job.admits c.args.job.now) c.args.n c.in_ok-pass.field-0.outs.items c.in_ok-in_order-in-None.field-0.items c.in_ok-pass.ensures.carries.good c.in_ok-in_order-in-None.ensures
