use Rattle.std.proofs.Common.{◌≡◌, ◌+◌, ◌≤◌, length}
use Rattle.std.specs.Prelude.{◌||◌}
use Rattle.std.specs.List.{list_any}
use Rattle.geo_text.specs.ObjScan.{words_here}
use Rattle.geo_text.specs.ObjSurvey.{has_texture, has_normal}
use Rattle.geo_text.proofs.survey.references_in.Given as goal

abbrev pub invariant-loop-word : goal.invariant-loop-word
invariant-loop-word l = record {
  count : l.references.count + length (words_here l.rest) ≡ length (words_here l.words);
  texture : (l.references.texture || list_any has_texture (words_here l.rest)) ≡ (l.fn.has.texture || list_any has_texture (words_here l.words));
  normal : (l.references.normal || list_any has_normal (words_here l.rest)) ≡ (l.fn.has.normal || list_any has_normal (words_here l.words));
  fits : l.references.count + length l.rest ≤ length l.words;
}

abbrev pub decreases-loop-word : goal.decreases-loop-word
decreases-loop-word l = length l.rest
