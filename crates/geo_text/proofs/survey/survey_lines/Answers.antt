use Rattle.std.proofs.Common.{sym, ap, ◌∙◌, subst}
use Rattle.geo_text.specs.ObjLines.{joined}
use Rattle.geo_text.specs.ObjScan.{words_here, behind_line}
use Rattle.geo_text.specs.ObjSurvey.{survey_seen, line_seen, all_seen, worded_left, IsPast}
use Rattle.geo_text.proofs.ObjSurveying.{worded_here, past_more}
use Rattle.geo_text.proofs.survey.survey_lines.Goals as goal

pub returns-in-Err-clause-err : goal.returns-in-Err-clause-err
returns-in-Err-clause-err c =
    let s = survey_seen c.loop-left.survey in
    let more = worded_left (behind_line (joined c.in-Some.line.now)) in
    subst (IsPast c.in-Err.fault) (ap (λ l. all_seen l s) (sym (worded_here c.loop-left.left c.in-Some.line c.in-Some.is)) ∙ c.loop-left.invariant.seen)
    (past_more c.in-Err.fault more (line_seen (words_here c.in-Some.line.now) s) c.in-Err.ensures.err)

pub loop-left-preserved : goal.loop-left-preserved
loop-left-preserved c =
    let s = survey_seen c.loop-left.survey in
    let more = worded_left (behind_line (joined c.in-Some.line.now)) in
    record {
      seen = ap (λ l. all_seen (worded_left l) (survey_seen c.add_line.new.self)) c.next_line-left.ensures.line ∙ ap (all_seen more) c.in_default-add_line.ensures.seen
          ∙ ap (λ l. all_seen l s) (sym (worded_here c.loop-left.left c.in-Some.line c.in-Some.is)) ∙ c.loop-left.invariant.seen;
      within = c.in_default-add_line.ensures.within;
    }
