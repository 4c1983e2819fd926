use Rattle.std.proofs.Common.{◌≡◌, ◌+◌, ◌++◌, ap, arith}
use Rattle.sop_claim.specs.Views.{share, joined}
use Rattle.sop_claim.specs.Passes.{view_of, IsPassOf}
use Rattle.sop_fan.specs.Hauls.{IsHaul, lesser}
use Rattle.sop_fan.proofs.Carrying.{haul_both, ok_four, ok_value}
use Rattle.sop_fan.proofs.worker.+fn-spread-join+arg3+spread.Goals as goal

pub returns : goal.returns
returns g t c =
    let fault_at = g.J.Job.fault c.args.job.now in let admits = g.J.Job.admits c.args.job.now in let board = c.args.board.now in
    let others = c.in_ok-others.field-0 in let one = c.in_ok-one.field-0 in
    let left = share (view_of c.split.new.pass) in let gone = share (view_of c.in_ok-other.other) in
    let parts : left + gone ≡ share (view_of c.args.pass) = (let a = ap share c.split.ensures.left in let b = ap share c.in_ok-other.ensures.other.1 in let d = c.requires.some in let e = c.requires.room in omega arith) in
    let first = ok_value c.join-one.result.1 others (λ haul. IsHaul fault_at admits board left haul.pass haul.outs.items haul.fault) c.in_ok-others.was c.join-one.ensures.second in
    let second = ok_value c.join-one.result.0 one (λ haul. IsHaul fault_at admits board gone haul.pass haul.outs.items haul.fault) c.in_ok-one.was c.join-one.ensures.first in
    ok_four c.merged.result
    (λ both. IsPassOf board both.pass)
    (λ both. view_of both.pass ≡ joined (view_of others.pass) (view_of one.pass))
    (λ both. both.outs.items ≡ others.outs.items ++ one.outs.items)
    (λ both. both.fault ≡ lesser others.fault one.fault)
    (λ both. IsHaul fault_at admits board (share (view_of c.args.pass)) both.pass both.outs.items both.fault)
    (λ both of_board is rows least. haul_both fault_at admits board left gone (share (view_of c.args.pass)) others.pass one.pass both.pass others.outs.items one.outs.items both.outs.items others.fault one.fault both.fault parts first second of_board is rows least)
    c.merged.ensures.pass c.merged.ensures.view c.merged.ensures.outs c.merged.ensures.fault
