-- What a command file means: the network and the echoed text, or the first refused command's line and why it is refused.
use Rattle.std.specs.Prelude.{ℕ, if◌then◌else◌, nat_le, List, [], ◌∷◌, ◌++◌, length, Option, None, Some, Result, Ok, Err, codes, bytes_eq}
use Rattle.std.specs.List.{join_with_byte}
use Rattle.sop_net.specs.Network.{empty_network}
use Rattle.hscript_text.specs.declared.command.Command.{Command}
use Rattle.hscript_text.specs.declared.refusal.ScriptKind.{ScriptKind}
use Rattle.hscript_text.specs.declared.refusal.ScriptKind.TheVariants.{Limit, BadCommand}
use Rattle.hscript_text.specs.declared.script.Script.{Script}
use Rattle.hscript_text.specs.declared.script.State.{State}
use Rattle.hscript_text.specs.Limits.{most_echoed_bytes}
use Rattle.hscript_text.specs.Commands as commands
use Rattle.hscript_text.specs.Reading.{Reading, reading_of}

-- no node, nothing echoed
abbrev pub start : State
start = record { net = empty_network; echoed = [] }

abbrev pub Step : Type 0
Step = Result State ScriptKind

abbrev pub with_net : State → commands.Step → Step
with_net state (Ok net) = Ok (record { net = net; echoed = state.echoed })
with_net state (Err refusal) = Err refusal

-- The echoed text has at most 1 MiB.
abbrev pub with_echoed : State → List ℕ → Step
with_echoed state echoed = if nat_le (length echoed) most_echoed_bytes then Ok (record { net = state.net; echoed = echoed }) else Err Limit

-- `echo WORD ..` adds the words with a blank between each two, and LF.
abbrev pub line_of_words : List (List ℕ) → List ℕ
line_of_words words = join_with_byte 32 words ++ 10 ∷ []

abbrev pub echo : State → List (List ℕ) → Step
echo state words = with_echoed state (state.echoed ++ line_of_words words)

-- `echo`, or a command of the network
abbrev pub after : State → List (List ℕ) → Step
after state [] = Err BadCommand
after state (verb ∷ words) = if bytes_eq verb (codes "echo") then echo state words else with_net state (commands.carried_out state.net (verb ∷ words))

-- The state behind commands, or the line of the first that is refused and why.
abbrev pub Outcome : Type 0
Outcome = Result State (ℕ × ScriptKind)

abbrev pub then_run : ℕ → Step → (State → Outcome) → Outcome
then_run line (Ok state) rest = rest state
then_run line (Err refusal) rest = Err (line, refusal)

abbrev pub run : State → List Command → Outcome
run state [] = Ok state
run state (command ∷ commands) = then_run command.line (after state command.words) (λ state. run state commands)

-- What is refused in reading comes behind the commands before it.
abbrev pub script_made : Outcome → Option (ℕ × ScriptKind) → Result Script (ℕ × ScriptKind)
script_made (Err refusal) unread = Err refusal
script_made (Ok state) (Some refusal) = Err refusal
script_made (Ok state) None = Ok (record { net = state.net; echoed = state.echoed })

abbrev pub script_from : State → Reading → Result Script (ℕ × ScriptKind)
script_from state reading = script_made (run state reading.commands) reading.refusal

abbrev pub script_of : List ℕ → Result Script (ℕ × ScriptKind)
script_of bytes = script_from start (reading_of bytes)
