use Rattle.std.proofs.Common.{◌≡◌, length}
use Rattle.std.specs.Prelude.{string_bytes}
use denote.Text.{Utf8}
use denote.Shadow.{shadow}
use Rattle.hscript_text.specs.Pieces.{word_of}
use Rattle.hscript_text.specs.Parts.{variables_of, grown}
use Rattle.hscript_text.proofs.word.word_of.Given as goal

-- says that each `&str` the loop changes is text: keep it, and add clauses with ×
abbrev pub invariant-loop-rest : goal.invariant-loop-rest
invariant-loop-rest l = shadow (Utf8 l.rest) × (grown l.style (variables_of l.variables) (string_bytes l.word) l.rest ≡ word_of l.style (variables_of l.variables) l.text)

abbrev pub decreases-loop-rest : goal.decreases-loop-rest
decreases-loop-rest l = length l.rest
