use Rattle.std.proofs.Common.{◌≡◌, ◌-◌, ◌≤◌}
use Rattle.sop_claim.specs.Views.{share}
use Rattle.sop_claim.specs.Passes.{view_of, IsPassOf, tickets}
use Rattle.sop_fan.specs.Hauls.{Carries, AllSettled}
use Rattle.sop_fan.proofs.Carrying.{above}
use Rattle.sop_fan.proofs.worker.work.Given as goal

abbrev pub invariant-loop-k : goal.invariant-loop-k
invariant-loop-k g l = record {
  of_board : IsPassOf l.board l.haul.pass;
  part_is : share (view_of l.haul.pass) ≡ share (view_of l.initial.haul.pass);
  room : 1 ≤ (view_of l.haul.pass).room;
  carries : Carries (g.J.Job.fault l.job) (g.J.Job.admits l.job) (view_of l.haul.pass) l.haul.outs.items l.haul.fault;
  all_settled : AllSettled (view_of l.haul.pass);
}

abbrev pub decreases-loop-k : goal.decreases-loop-k
decreases-loop-k g l = tickets l.board - above (view_of l.haul.pass).drawn
