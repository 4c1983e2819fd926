use Rattle.std.proofs.Common.{ap, ◌∙◌}
use Rattle.std.specs.List.{prefix_len}
use Rattle.hscript_text.specs.Pieces.{is_plain}
use Rattle.std.specs.Prelude.{string_bytes}
use Rattle.hscript_text.specs.Parts.{variables_of}
use Rattle.hscript_text.proofs.Cuts.{behind_run}
use Rattle.hscript_text.proofs.Growth.{run_added, run_not_added}
use Rattle.hscript_text.proofs.word.add_run.Goals as goal

pub cut-requires : goal.cut-requires
cut-requires c = behind_run c.args.style c.args.text.now c.plain_len-n.result (c.plain_len-n.ensures ∙ ap (prefix_len (is_plain c.args.style)) c.as_bytes.ensures.value)

pub returns-in-Ok-clause-ok : goal.returns-in-Ok-clause-ok
returns-in-Ok-clause-ok c =
    run_added c.args.style (variables_of c.args.variables.now) (string_bytes c.args.word.now) (string_bytes c.add.new.word) c.args.text.now c.cut.result.0.now c.cut.result.1.now c.plain_len-n.result
    (c.plain_len-n.ensures ∙ ap (prefix_len (is_plain c.args.style)) c.as_bytes.ensures.value) c.cut.ensures.front c.cut.ensures.rest c.in-Ok.ensures

pub returns-in-Err-clause-err : goal.returns-in-Err-clause-err
returns-in-Err-clause-err c =
    run_not_added c.args.style (variables_of c.args.variables.now) (string_bytes c.args.word.now) (string_bytes c.add.new.word) c.args.text.now c.cut.result.0.now c.plain_len-n.result c.in-Err.end
    (c.plain_len-n.ensures ∙ ap (prefix_len (is_plain c.args.style)) c.as_bytes.ensures.value) c.cut.ensures.front c.in-Err.ensures
