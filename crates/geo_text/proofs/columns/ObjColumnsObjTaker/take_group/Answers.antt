use Rattle.std.proofs.lemmas.Result.{on_ok_weaker}
use Rattle.geo_text.proofs.ObjColumnLemmas.{group_pushed}
use Rattle.geo_text.proofs.columns.ObjColumnsObjTaker.take_group.Goals as goal

pub returns-clause-taken : goal.returns-clause-taken
returns-clause-taken c =
    rw (← c.self.view_is) (on_ok_weaker c.add.result (group_pushed _ c.args.name c.add.new.self c.self.invariant) c.add.ensures.ok)
