-- What the program says on standard error is one line.
use Rattle.std.proofs.Common.{◌≡◌, ℕ, true, not, ◌==◌, List, ◌++◌, refl, ◌∙◌, ap}
use Rattle.std.specs.Prelude.{codes, decimal, IsTrue}
use Rattle.std.proofs.lemmas.Bool.{and_from}
use Rattle.std.proofs.lemmas.List.Folds.{list_all-append}
use Rattle.sop_outside.specs.Told.{appended}
use Rattle.sop_model.specs.declared.fault.Fault.TheVariants as fault
use Rattle.sop_model.specs.Names.{is_name}
use Rattle.sop_model.specs.Faults.{line_feed, is_one_line}
use Rattle.sop_model.proofs.FaultLemmas.{is_one_line-fault_text}
use Rattle.hscript_text.specs.declared.refusal.ScriptKind.{ScriptKind}
use Rattle.hscript_text.specs.declared.refusal.ScriptKind.TheVariants.{BadBytes, Quote, NoVar, LongWord, BadCommand, BadArgs, BadName, NameTaken, NoType, Limit, NoNode, NoParm, BadValue, BadInput, Cycle}
use Rattle.hscript_text.specs.RefusalNames.{name_of_refusal}
use Rattle.hscript_text.specs.WholeLines.{AreLines}
use Rattle.sopcook.specs.Answer.{said, no_script, script_too_long, line_answer, no_node, read_line}
use Rattle.sopcook.specs.Promise.{SinkSeen, IsLine, EndsWithLine}

one_line_behind : (a b : List ℕ) → is_one_line a ≡ true → is_one_line b ≡ true → is_one_line (a ++ b) ≡ true
one_line_behind a b first next = list_all-append (λ x. not (x == line_feed)) a b ∙ and_from _ _ first next

-- numbers and names stand in the texts of faults
one_line_number : (n : ℕ) → is_one_line (decimal n) ≡ true
one_line_number n = is_one_line-fault_text (fault.NoInput n) refl

one_line_name : (name : List ℕ) → is_name name ≡ true → is_one_line name ≡ true
one_line_name name is = is_one_line-fault_text (fault.Leaks name) is

one_line_refusal : (refusal : ScriptKind) → is_one_line (name_of_refusal refusal) ≡ true
one_line_refusal BadBytes = refl
one_line_refusal Quote = refl
one_line_refusal NoVar = refl
one_line_refusal LongWord = refl
one_line_refusal BadCommand = refl
one_line_refusal BadArgs = refl
one_line_refusal BadName = refl
one_line_refusal NameTaken = refl
one_line_refusal NoType = refl
one_line_refusal Limit = refl
one_line_refusal NoNode = refl
one_line_refusal NoParm = refl
one_line_refusal BadValue = refl
one_line_refusal BadInput = refl
one_line_refusal Cycle = refl

-- a line behind the program's name
line_said : (text : List ℕ) → is_one_line text ≡ true → IsLine (said text)
line_said text one = record { line = codes "sopcook: " ++ text; is = refl; is_one_line = one }

pub line_no_script : IsLine no_script.err
line_no_script = line_said (codes "script: NoScript") refl

pub line_too_long : IsLine script_too_long.err
line_too_long = line_said (codes "script: TooLong") refl

pub line_no_node : IsLine no_node.err
line_no_node = line_said (codes "node: NoNode") refl

pub line_read : IsLine read_line
line_read = line_said (codes "read fault") refl

pub line_refusal : (line : ℕ) (refusal : ScriptKind) → IsLine (line_answer line refusal).err
line_refusal line refusal =
    line_said (codes "line " ++ decimal line ++ codes ": " ++ name_of_refusal refusal)
    (one_line_behind (codes "line " ++ decimal line ++ codes ": ") (name_of_refusal refusal)
    (one_line_behind (codes "line " ++ decimal line) (codes ": ") (one_line_behind (codes "line ") (decimal line) refl (one_line_number line)) refl) (one_line_refusal refusal))

pub line_fault : (node text : List ℕ) → IsTrue (is_name node) → IsTrue (is_one_line text) → IsLine (said (node ++ codes ": " ++ text))
line_fault node text is one = line_said (node ++ codes ": " ++ text) (one_line_behind (node ++ codes ": ") text (one_line_behind node (codes ": ") (one_line_name node is) refl) one)

-- bytes that are this line stand behind whole lines
pub ends_as : (lines bytes line : List ℕ) (before now : SinkSeen) → AreLines lines → IsLine line → bytes ≡ line → now.told ≡ appended before.told (lines ++ bytes) → EndsWithLine lines line before now
ends_as lines bytes line before now are is same told = record { are_lines = are; is_line = is; told = told ∙ ap (λ l. appended before.told (lines ++ l)) same }
