-- Which elements a node's `group` selects, one flag an element, or a fault; and how a step stops at such a fault.
use Rattle.std.specs.Prelude.{⊤, ◌≡◌, ℕ, Bool, List, Result, Ok, Err}
use Rattle.sop_model.specs.declared.class.Class.{Class}
use Rattle.sop_model.specs.declared.geo.Geo.{Geo}
use Rattle.sop_model.specs.declared.fault.Fault.{Fault}
use Rattle.sop_model.specs.declared.fault.Fault.TheVariants.{BadGroup, NoGroup}
use Rattle.sop_model.specs.declared.fault.CookStop.{CookStop}
use Rattle.sop_model.specs.declared.fault.CookStop.TheVariants as stop
use Rattle.sop_pattern.specs.declared.word.Word.{Word}
use Rattle.sop_pattern.specs.declared.fault.PatternFault.{PatternFault}
use Rattle.sop_pattern.specs.declared.fault.PatternFault.TheVariants as pattern
use Rattle.sop_pattern.specs.Words.{pattern_of}
use Rattle.sop_pattern.specs.Selection.{selection}

abbrev pub or_no_group : Result (List Bool) ℕ → Result (List Bool) Fault
or_no_group (Ok flags) = Ok flags
or_no_group (Err word) = Err (NoGroup word)

abbrev pub of_words : Geo → Class → Result (List Word) ℕ → Result (List Bool) Fault
of_words g class (Ok words) = or_no_group (selection g class words)
of_words g class (Err word) = Err (BadGroup word)

-- what the group pattern of the text selects of a class of a geometry
abbrev pub by_pattern : Geo → Class → List ℕ → Result (List Bool) Fault
by_pattern g class text = of_words g class (pattern_of text)

-- FOR PRIVATE CONTRACTS

-- what the fault of a pattern is at a node
abbrev pub pattern_stop : PatternFault → CookStop
pattern_stop (pattern.BadWord i) = stop.Fault (BadGroup i)
pattern_stop (pattern.NoGroup i) = stop.Fault (NoGroup i)
pattern_stop pattern.Memory = stop.Memory

-- a step that stops with the fault that is told, or for want of memory
abbrev pub StopsWith : {A : Type 0} → Result A Fault → CookStop → Type 0
StopsWith told (stop.Fault f) = told ≡ Err f
StopsWith told stop.Memory = ⊤
