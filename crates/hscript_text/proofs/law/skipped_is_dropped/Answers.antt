use Rattle.hscript_text.proofs.Growth.{within-skip}
use Rattle.hscript_text.proofs.Lines.{command-skip}
use Rattle.hscript_text.proofs.Readings.{reading-skip}
use Rattle.hscript_text.proofs.law.skipped_is_dropped.Goals as goal

pub returns-clause-word : goal.returns-clause-word
returns-clause-word c = within-skip

pub returns-clause-command : goal.returns-clause-command
returns-clause-command c = command-skip

pub returns-clause-reading : goal.returns-clause-reading
returns-clause-reading c = reading-skip
