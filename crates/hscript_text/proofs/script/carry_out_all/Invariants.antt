use Rattle.std.proofs.Common.{◌≡◌, length}
use Rattle.hscript_text.specs.Script.{start, script_from}
use Rattle.hscript_text.proofs.script.carry_out_all.Given as goal

abbrev pub invariant-loop-command : goal.invariant-loop-command
invariant-loop-command l = script_from l.state l.reader ≡ script_from start l.fn.reader

abbrev pub decreases-loop-command : goal.decreases-loop-command
decreases-loop-command l = length l.reader.commands
