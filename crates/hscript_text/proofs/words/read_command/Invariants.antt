use Rattle.std.proofs.Common.{◌≡◌, length}
use denote.Text.{Utf8}
use denote.Shadow.{shadow}
use Rattle.hscript_text.specs.Words.{command_of}
use Rattle.hscript_text.specs.Parts.{variables_of, IsRest, joined}
use Rattle.hscript_text.proofs.words.read_command.Given as goal

abbrev pub invariant-words : goal.invariant-words
invariant-words l = shadow (Utf8 l.rest) × (joined (variables_of l.variables) l.words.items l.rest ≡ command_of (variables_of l.variables) l.text) × IsRest l.text l.rest

abbrev pub decreases-words : goal.decreases-words
decreases-words l = length l.rest
