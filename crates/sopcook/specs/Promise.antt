-- What a run promises, whatever the files and the sinks are that it was handed.
use Rattle.std.specs.Prelude.{◌≡◌, ◌≤◌, ℕ, List, [], ◌∷◌, ◌++◌, codes, Option, None, Some, ◌⊎◌, IfSome, IsTrue, ⊤}
use Rattle.sop_outside.specs.Causes.{Rose}
use Rattle.sop_outside.specs.Load.{Names}
use Rattle.sop_outside.specs.Told.{appended, AppendsPrefix}
use Rattle.sop_model.specs.Faults.{fault_text, line_feed, is_one_line}
use Rattle.sop_model.specs.Names.{is_name}
use Rattle.sop_model.specs.declared.fault.Fault.{Fault}
use Rattle.sop_model.specs.declared.fault.Fault.TheVariants as variant
use Rattle.hscript_text.specs.declared.refusal.ScriptKind.{ScriptKind}
use Rattle.hscript_text.specs.WholeLines.{AreLines}
use Rattle.sopcook.specs.declared.answer.Answer.{Answer}
use Rattle.sopcook.specs.Request.{request_of}
use Rattle.sopcook.specs.Answer.{said, words_answer, no_script, script_too_long, line_answer, no_node, read_line, answer_of, echo_of}

-- files: the bytes that they tell, if they do, and how many loads failed, found no file, and found one too long
pub record FilesSeen : Type 0 where
  pub told : Option Names
  pub faults : ℕ
  pub misses : ℕ
  pub overs : ℕ

-- a sink: the bytes that it tells, if it does, and how many writes failed
pub record SinkSeen : Type 0 where
  pub told : Option (List ℕ)
  pub faults : ℕ

-- what a run is handed
pub record Outside : Type 0 where
  pub files : FilesSeen
  pub out : SinkSeen
  pub err : SinkSeen

-- 0, 2, 3 and 4 answer; 5 is a failed load, 6 a failed write, 7 want of memory
abbrev pub IsAnswered : ℕ → Type 0
IsAnswered status = (status ≡ 0) ⊎ (status ≡ 2) ⊎ (status ≡ 3) ⊎ (status ≡ 4)

abbrev pub IsStatus : ℕ → Type 0
IsStatus status = IsAnswered status ⊎ (status ≡ 5) ⊎ (status ≡ 6) ⊎ (status ≡ 7)

-- exactly an answer was given: its status, and its bytes on each sink
pub record Delivers (answer : Answer) (status : ℕ) (before now : Outside) : Type 0 where
  pub is_status : status ≡ answer.status
  pub out : now.out.told ≡ appended before.out.told answer.out
  pub err : now.err.told ≡ appended before.err.told answer.err

-- a prefix of an answer's bytes stands on each sink
pub record DeliversPrefix (answer : Answer) (before now : Outside) : Type 0 where
  pub out : AppendsPrefix before.out.told now.out.told answer.out
  pub err : AppendsPrefix before.err.told now.err.told answer.err

-- one line with its end, and no other end of a line in it
pub record IsLine (bytes : List ℕ) : Type 0 where
  pub line : List ℕ
  pub is : bytes ≡ line ++ line_feed ∷ []
  pub is_one_line : IsTrue (is_one_line line)

-- What a sink tells got whole lines, and behind them this one line with its end: so this is the last line that was written.
pub record EndsWithLine (lines line : List ℕ) (before now : SinkSeen) : Type 0 where
  pub are_lines : AreLines lines
  pub is_line : IsLine line
  pub told : now.told ≡ appended before.told (lines ++ line)

-- what may stand before the line of a failed load: nothing, or the text that the script echoes
abbrev pub IsEcho : Option Names → List (List ℕ) → List ℕ → Type 0
IsEcho None words echo = ⊤
IsEcho (Some names) words echo = (echo ≡ []) ⊎ (echo ≡ echo_of words names)

-- nothing on `out`, and on `err` the line of a failed load as the last, behind the echoed text or alone
pub record SaysReadFault (words : List (List ℕ)) (before now : Outside) : Type 0 where
  pub echo : List ℕ
  pub is_echo : IsEcho before.files.told words echo
  pub out : now.out.told ≡ before.out.told
  pub err : EndsWithLine echo read_line before.err now.err

-- nothing on `out`, and on `err` a prefix of such a text
pub record SaysPartOfReadFault (words : List (List ℕ)) (before now : Outside) : Type 0 where
  pub echo : List ℕ
  pub is_echo : IsEcho before.files.told words echo
  pub out : now.out.told ≡ before.out.told
  pub err : AppendsPrefix before.err.told now.err.told (echo ++ read_line)

-- Refused words are answered so whatever the files are: no file is loaded; 2 comes with the answer's bytes, 6 and 7 with a prefix of them.
pub record RefusesWords (status : ℕ) (before now : Outside) : Type 0 where
  pub is_status : (status ≡ 2) ⊎ (status ≡ 6) ⊎ (status ≡ 7)
  pub answered : status ≡ 2 → Delivers words_answer status before now
  pub part : DeliversPrefix words_answer before now
  pub files : now.files ≡ before.files

-- What the last line on `err` says with 3, and which count rose: that the script is missing, or too long, or which command is refused, each
-- with nothing before it; or, behind the echoed text, that the node isn't there.
abbrev pub SaysRefusal : Outside → Outside → Type 0
SaysRefusal before now =
    (EndsWithLine [] no_script.err before.err now.err × Rose before.files.misses now.files.misses)
    ⊎ (EndsWithLine [] script_too_long.err before.err now.err × Rose before.files.overs now.files.overs)
    ⊎ ((line : ℕ) × (refusal : ScriptKind) × EndsWithLine [] (line_answer line refusal).err before.err now.err)
    ⊎ ((echo : List ℕ) × EndsWithLine echo no_node.err before.err now.err)

-- What stands on `err` with 4: behind the echoed text, as the last line, the name of a node and a fault. So the last line says which fault it
-- is. NoFile comes only where the count of misses rose.
pub record SaysFault (before now : Outside) : Type 0 where
  pub echo : List ℕ
  pub node : List ℕ
  pub fault : Fault
  pub err : EndsWithLine echo (said (node ++ codes ": " ++ fault_text fault)) before.err now.err
  pub is_name : IsTrue (is_name node)
  pub no_file : fault ≡ variant.NoFile → Rose before.files.misses now.files.misses

-- nothing on `out`, and, where the files tell their bytes, a prefix of the answer's on `err`
pub record StopsShort (words : List (List ℕ)) (before now : Outside) : Type 0 where
  pub out : now.out.told ≡ before.out.told
  pub err : IfSome before.files.told (λ names. AppendsPrefix before.err.told now.err.told (answer_of words names).err)

-- the files tell what they told, and no count fell
pub record GoesOn (before now : Outside) : Type 0 where
  pub told : now.files.told ≡ before.files.told
  pub file_faults : before.files.faults ≤ now.files.faults
  pub misses : before.files.misses ≤ now.files.misses
  pub overs : before.files.overs ≤ now.files.overs
  pub out_faults : before.out.faults ≤ now.out.faults
  pub err_faults : before.err.faults ≤ now.err.faults

-- What a run with these words promises by its status.
pub record Promise (words : List (List ℕ)) (status : ℕ) (before now : Outside) : Type 0 where
  pub is_status : IsStatus status
  -- Answered: where the files tell their bytes, the status is that of the answer, and exactly the answer's bytes were written.
  pub answered : IsAnswered status → IfSome before.files.told (λ names. Delivers (answer_of words names) status before now)
  -- A failed load: it was counted, and its line is the last on `err`.
  pub read_fault : status ≡ 5 → Rose before.files.faults now.files.faults × SaysReadFault words before now
  -- A failed write: it was counted, and each sink has a prefix of what belongs there: of the answer or, after a failed load, of its line.
  pub write_fault : status ≡ 6 → Rose before.out.faults now.out.faults ⊎ Rose before.err.faults now.err.faults
  pub part : status ≡ 6 → IfSome before.files.told (λ names. DeliversPrefix (answer_of words names) before now)
      ⊎ (Rose before.files.faults now.files.faults × SaysPartOfReadFault words before now)
  -- Want of memory: a prefix of the answer stands on each sink.
  pub memory : status ≡ 7 → StopsShort words before now
  -- The last line on `err` and its cause, also where the files tell nothing. Words are refused with 2, and no others are.
  pub words_refused : status ≡ 2 → request_of words ≡ None
  pub refused_words : request_of words ≡ None → RefusesWords status before now
  pub refusal : status ≡ 3 → SaysRefusal before now
  pub fault : status ≡ 4 → SaysFault before now
  pub on : GoesOn before now
