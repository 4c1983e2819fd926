-- What the parts of a run answer, and how they end.
use Rattle.std.specs.Prelude.{◌≡◌, ◌≤◌, ℕ, List, [], ◌++◌, codes, Result, Ok, Err, ◌⊎◌, IfSome, IsTrue, ⊤}
use Rattle.sop_outside.specs.Causes.{Rose}
use Rattle.sop_outside.specs.Load.{Names}
use Rattle.sop_outside.specs.Told.{appended, AppendsPrefix}
use Rattle.sop_outside.specs.declared.files.LoadEnd.{LoadEnd}
use Rattle.sop_model.specs.Faults.{fault_text, is_one_line}
use Rattle.sop_model.specs.Names.{is_name}
use Rattle.sop_model.specs.declared.fault.Fault.{Fault}
use Rattle.sop_model.specs.declared.fault.Fault.TheVariants as variant
use Rattle.hscript_text.specs.declared.refusal.ScriptKind.{ScriptKind}
use Rattle.hscript_text.specs.declared.script.Script.{Script}
use Rattle.hscript_text.specs.Script.{script_of}
use Rattle.hscript_text.specs.WholeLines.{AreLines}
use Rattle.sop_cook.specs.declared.cook_end.CookEnd.{CookEnd}
use Rattle.sop_cook.specs.declared.cook_end.CookEnd.TheVariants as end
use Rattle.sopcook.specs.declared.answer.Answer.{Answer}
use Rattle.sopcook.specs.declared.run_end.RunEnd.{RunEnd}
use Rattle.sopcook.specs.declared.run_end.RunEnd.TheVariants as run_end
use Rattle.sopcook.specs.declared.script.Opening.{Opening}
use Rattle.sopcook.specs.declared.script.Opening.TheVariants.{Read, Refused}
use Rattle.sopcook.specs.Request.{Asked}
use Rattle.sopcook.specs.Answer.{refused_with, no_script, script_too_long, line_answer, no_node, echoing, node_answer, loaded_answer, loaded_echo, read_line}
use Rattle.sopcook.specs.Promise.{SinkSeen, Outside, IsStatus, IsAnswered, Delivers, DeliversPrefix, EndsWithLine, SaysFault, GoesOn}

-- the script that a text means, or its refusal
abbrev pub IsRead : Result Script (ℕ × ScriptKind) → Opening → Type 0
IsRead meant (Read script) = meant ≡ Ok script
IsRead meant (Refused answer) = (line : ℕ) × (refusal : ScriptKind) × (meant ≡ Err (line, refusal)) × (answer ≡ line_answer line refusal)

-- the script of the text that was loaded, or the answer that such a load gives
abbrev pub IsOpening : Result (List ℕ) LoadEnd → Opening → Type 0
IsOpening load (Read script) = (bytes : List ℕ) × (load ≡ Ok bytes) × (script_of bytes ≡ Ok script)
IsOpening load (Refused answer) = (names : Names) (request : Asked) → (loaded_answer names request load ≡ answer) × (loaded_echo load ≡ [])

-- why a script is refused: it is missing, or too long, or one of its commands is refused
abbrev pub IsCaused : Type 0 → Type 0 → Opening → Type 0
IsCaused missed over (Read script) = ⊤
IsCaused missed over (Refused answer) = ((answer ≡ no_script) × missed) ⊎ ((answer ≡ script_too_long) × over) ⊎ ((line : ℕ) × (refusal : ScriptKind) × (answer ≡ line_answer line refusal))

-- a script that was read echoes whole lines
abbrev pub EchoesLines : Opening → Type 0
EchoesLines (Read script) = AreLines script.echoed
EchoesLines (Refused answer) = ⊤

-- the answer of a fault: one line with the name of a node and the fault
pub record IsFaultAnswer (fault : Fault) (answer : Answer) : Type 0 where
  pub node : List ℕ
  pub is : answer ≡ refused_with 4 (node ++ codes ": " ++ fault_text fault)
  pub is_name : IsTrue (is_name node)
  pub is_one_line : IsTrue (is_one_line (fault_text fault))

abbrev pub IsEndAnswer : CookEnd → Answer → Type 0
IsEndAnswer (end.Fault x f) answer = IsFaultAnswer f answer
IsEndAnswer end.Memory answer = ⊥

-- the answer of a node: a geometry, or a fault, which is NoFile only where a miss was counted
abbrev pub IsNodeAnswer : Type 0 → Answer → Type 0
IsNodeAnswer missed answer = (answer.status ≡ 0) ⊎ ((fault : Fault) × IsFaultAnswer fault answer × (fault ≡ variant.NoFile → missed))

-- the answer of a name: that there is no such node, or the answer of a node
abbrev pub IsNamedAnswer : Type 0 → Answer → Type 0
IsNamedAnswer missed answer = (answer ≡ no_node) ⊎ IsNodeAnswer missed answer

-- an answer was written, or a write failed and a prefix of it was
pub record Delivery (answer : Answer) (status : ℕ) (out_before out_now err_before err_now : SinkSeen) : Type 0 where
  pub is_status : IsAnswered status ⊎ (status ≡ 6)
  pub answered : IsAnswered status → (status ≡ answer.status) × (out_now.told ≡ appended out_before.told answer.out) × (err_now.told ≡ appended err_before.told answer.err)
  pub failed : status ≡ 6 → Rose out_before.faults out_now.faults ⊎ Rose err_before.faults err_now.faults
  pub out : AppendsPrefix out_before.told out_now.told answer.out
  pub err : AppendsPrefix err_before.told err_now.told answer.err
  pub out_later : out_before.faults ≤ out_now.faults
  pub err_later : err_before.faults ≤ err_now.faults

-- how a run ends without an answer
pub record EndWithout (e : RunEnd) (status : ℕ) (before now : SinkSeen) : Type 0 where
  pub statuses : ((e ≡ run_end.Read) × ((status ≡ 5) ⊎ (status ≡ 6))) ⊎ ((e ≡ run_end.Memory) × (status ≡ 7))
  pub written : status ≡ 5 → now.told ≡ appended before.told read_line
  pub failed : status ≡ 6 → Rose before.faults now.faults × AppendsPrefix before.told now.told read_line
  pub memory : status ≡ 7 → now.told ≡ before.told
  pub later : before.faults ≤ now.faults

-- what a run promises once its script was read, as `Promise` says it of the whole run
pub record ScriptEnding (script : Script) (request : Asked) (status : ℕ) (before now : Outside) : Type 0 where
  pub is_status : IsStatus status
  pub answered : IsAnswered status → IfSome before.files.told (λ names. Delivers (echoing script.echoed (node_answer names script.net.nodes request)) status before now)
  pub read_fault : status ≡ 5 → Rose before.files.faults now.files.faults × (now.out.told ≡ before.out.told) × EndsWithLine script.echoed read_line before.err now.err
  pub write_fault : status ≡ 6 → Rose before.out.faults now.out.faults ⊎ Rose before.err.faults now.err.faults
  pub part : status ≡ 6 → IfSome before.files.told (λ names. DeliversPrefix (echoing script.echoed (node_answer names script.net.nodes request)) before now)
      ⊎ (Rose before.files.faults now.files.faults × (now.out.told ≡ before.out.told) × AppendsPrefix before.err.told now.err.told (script.echoed ++ read_line))
  pub memory : status ≡ 7 → (now.out.told ≡ before.out.told) × (now.err.told ≡ appended before.err.told script.echoed)
  pub no_words : status ≡ 2 → ⊥
  pub no_node : status ≡ 3 → EndsWithLine script.echoed no_node.err before.err now.err
  pub fault : status ≡ 4 → SaysFault before now
  pub on : GoesOn before now
