use Rattle.std.proofs.Common.{subst}
use Rattle.std.proofs.lemmas.Result.{on_ok_weaker, IfErr-weaker}
use Rattle.geo_text.specs.ObjSurvey.{IsPast}
use Rattle.geo_text.proofs.ObjAnswer.{meaning_good}
use Rattle.geo_text.proofs.ObjWhole.{seen_of, survey_told, surveyed, counts_said, text_taken, text_told}
use Rattle.geo_text.proofs.obj.take_obj.Goals as goal

pub returns-in-Err-clause-err : goal.returns-in-Err-clause-err
returns-in-Err-clause-err g c =
    survey_told c.in-Err.fault c.args.bytes.now (subst (λ t. IsPast c.in-Err.fault (seen_of t)) c.without_mark-text.ensures c.in-Err.ensures.err)

pub read_lines-requires-clause-counts : goal.read_lines-requires-clause-counts
read_lines-requires-clause-counts g c =
    let t = c.into_totals-totals in
    counts_said c.without_mark-text.result.now t.result
    (surveyed c.without_mark-text.result.now c.in-Ok.survey t.result c.in-Ok.ensures.seen c.in-Ok.ensures.within t.ensures.counts t.ensures.attributes t.ensures.textures t.ensures.normals)

pub returns-clause-ok : goal.returns-clause-ok
returns-clause-ok g c =
    let t = c.into_totals-totals in
    let s = surveyed c.without_mark-text.result.now c.in-Ok.survey t.result c.in-Ok.ensures.seen c.in-Ok.ensures.within t.ensures.counts t.ensures.attributes t.ensures.textures t.ensures.normals in
    on_ok_weaker c.read_lines.result
    (text_taken c.args.bytes.now c.without_mark-text.result.now t.result (g.T.ObjTaker.attributes c.begin.new.self) (g.T.ObjTaker.taken c.begin.new.self) (g.T.ObjTaker.taken c.read_lines.new.taker)
    c.without_mark-text.ensures s c.in_ok-begin.ensures.attributes c.in_ok-begin.ensures.taken)
    c.read_lines.ensures.ok

pub returns-clause-err : goal.returns-clause-err
returns-clause-err g c =
    let t = c.into_totals-totals in
    let s = surveyed c.without_mark-text.result.now c.in-Ok.survey t.result c.in-Ok.ensures.seen c.in-Ok.ensures.within t.ensures.counts t.ensures.attributes t.ensures.textures t.ensures.normals in
    IfErr-weaker c.read_lines.result _ _
    (λ f h. text_told f c.args.bytes.now c.without_mark-text.result.now t.result (g.T.ObjTaker.attributes c.begin.new.self) (g.T.ObjTaker.taken c.begin.new.self)
    c.without_mark-text.ensures s c.in_ok-begin.ensures.attributes h)
    c.read_lines.ensures.err

pub returns-clause-good : goal.returns-clause-good
returns-clause-good g c =
    on_ok_weaker c.read_lines.result (meaning_good c.args.bytes.now (g.T.ObjTaker.taken c.read_lines.new.taker)) (returns-clause-ok g c)
