use Rattle.std.proofs.Common.{◌≡◌, ◌+◌, length, List, ℕ, Option, Some, None, false}
use Rattle.std.specs.Borrow.{Bor}
use Rattle.geo_text.specs.ObjLines.{joined}
use Rattle.geo_text.specs.ObjScan.{joined_left}
use Rattle.geo_text.specs.ObjSurvey.{all_seen, worded, worded_left, nothing_seen, survey_seen, is_past}
use Rattle.geo_text.proofs.survey.survey_lines.Given as goal

abbrev size_left : Option (Bor (List ℕ)) → ℕ
size_left None = 0
size_left (Some line) = length line.now + 1

abbrev pub invariant-loop-left : goal.invariant-loop-left
invariant-loop-left l = record {
  seen : all_seen (worded_left (joined_left l.left)) (survey_seen l.survey) ≡ all_seen (worded (joined l.text)) nothing_seen;
  within : is_past (survey_seen l.survey) ≡ false;
}

abbrev pub decreases-loop-left : goal.decreases-loop-left
decreases-loop-left l = size_left l.left
