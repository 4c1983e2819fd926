use Rattle.std.specs.Prelude.{string_bytes}
use Rattle.hscript_text.specs.Parts.{variables_of}
use Rattle.hscript_text.proofs.Growth.{special_added}
use Rattle.hscript_text.proofs.word.add_special.Goals as goal

pub returns-in-Ok-add-clause-ok : goal.returns-in-Ok-add-clause-ok
returns-in-Ok-add-clause-ok c =
    special_added c.args.style (variables_of c.args.variables.now) (string_bytes c.args.word.now) (string_bytes c.add.new.word) c.args.text.now c.in-Ok.bytes.now c.in-Ok.rest.now c.args.b
    c.requires c.in-Ok.ensures.ok c.in-Ok-add.ensures
