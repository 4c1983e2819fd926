use Rattle.std.proofs.lemmas.Result.{IfOk-weaker}
use Rattle.hscript_text.proofs.EchoedLines.{script_lines}
use Rattle.hscript_text.proofs.script.read_script.Goals as goal

pub returns-in-Ok-clause-lines : goal.returns-in-Ok-clause-lines
returns-in-Ok-clause-lines c = IfOk-weaker c.carry_out_all.result _ _ (λ script is. script_lines c.in-Ok.reader script is) c.carry_out_all.ensures.ok
