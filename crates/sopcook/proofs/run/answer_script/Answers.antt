use Rattle.std.proofs.Common.{rules}
use Rattle.sopcook.specs.Request.{request_seen}
use Rattle.sopcook.proofs.EndingLemmas.{ending_delivered, ending_without}
use Rattle.sopcook.proofs.run.answer_script.Goals as goal

pub returns-in-Ok : goal.returns-in-Ok
returns-in-Ok g c =
    ending_delivered c.args.script.now (request_seen c.args.request.now) c.in-Ok.answer c.deliver.result _ _ _ c.requires c.in-Ok.ensures.ok c.in-Ok.ensures.caused (search rules) c.put.ensures.faults.later c.deliver.ensures (search rules)

pub returns-in-Err : goal.returns-in-Err
returns-in-Err g c =
    ending_without c.args.script.now (request_seen c.args.request.now) c.in-Err.end c.deliver_end.result _ _ _ c.requires (search rules) (search rules) (search rules) c.put.ensures.faults.later c.deliver_end.ensures (search rules)
