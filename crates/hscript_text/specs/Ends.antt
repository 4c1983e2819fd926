-- How a command, the reading of one and a script may end: as refused only with what is meant. Want of memory may always come.
use Rattle.std.specs.Prelude.{◌≡◌, ℕ, Result, Err}
use Rattle.hscript_text.specs.declared.refusal.ScriptKind.{ScriptKind}
use Rattle.hscript_text.specs.declared.refusal.CommandEnd.{CommandEnd}
use Rattle.hscript_text.specs.declared.refusal.CommandEnd.TheVariants.{Refused, Memory}
use Rattle.hscript_text.specs.declared.refusal.ScriptEnd.{ScriptEnd}
use Rattle.hscript_text.specs.declared.refusal.ScriptEnd.TheVariants as script_end
use Rattle.hscript_text.specs.declared.script.Script.{Script}
use Rattle.hscript_text.specs.Reading.{Reading, refused}

-- by the refusal
abbrev pub EndsAs : {X : Type 0} → Result X ScriptKind → CommandEnd → Type 0
EndsAs meant (Refused refusal) = meant ≡ Err refusal
EndsAs meant Memory = Unit {0}

-- by the refusal that is met before any further command
abbrev pub EndsReading : Reading → ScriptEnd → Type 0
EndsReading meant (script_end.Refused line refusal) = meant ≡ refused line refusal
EndsReading meant script_end.Memory = Unit {0}

-- by the line and the refusal
abbrev pub IsRefusal : Result Script (ℕ × ScriptKind) → ScriptEnd → Type 0
IsRefusal meant (script_end.Refused line refusal) = meant ≡ Err (line, refusal)
IsRefusal meant script_end.Memory = Unit {0}
