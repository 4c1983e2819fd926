use Rattle.sop_pattern.proofs.Reading.{Reads}
use Rattle.sop_pattern.proofs.read.read_words.Given as goal

abbrev pub invariant-loop-text : goal.invariant-loop-text
invariant-loop-text l = Reads l.words.items l.text-iterator l.fn.text
