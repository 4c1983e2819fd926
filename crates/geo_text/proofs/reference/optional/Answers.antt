use Rattle.std.proofs.Common.{sym, ap, ◌∙◌}
use Rattle.geo_text.specs.ObjStatements.{part_of}
use Rattle.geo_text.specs.ObjReferences.{told}
use Rattle.geo_text.proofs.ObjReferencing.{optional_needed}
use Rattle.geo_text.proofs.reference.optional.Goals as goal

pub returns : goal.returns
returns c = λ line.
    sym (optional_needed line c.args.whole c.args.so_far c.in_ok-needed.field-0 (part_of c.args.part.now) (sym (c.needed.ensures.value line) ∙ ap (told line) c.in_ok-needed.was))
