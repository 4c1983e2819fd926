use Rattle.std.proofs.Common.{ap, not, ◌∙◌, sym}
use Rattle.geo_text.specs.ObjReferences.{goes_on, parts_left}
use Rattle.geo_text.proofs.ObjReferencing.{text_goes_on}
use Rattle.geo_text.proofs.reference.goes_on.Goals as goal

pub returns-in-Some : goal.returns-in-Some
returns-in-Some c = ap not c.is_empty.ensures ∙ text_goes_on c.in-Some.text.now ∙ ap (λ r. goes_on (parts_left r)) (sym c.in-Some.is)
