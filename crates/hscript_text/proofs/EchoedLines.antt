-- What a command file echoes consists of whole lines.
use Rattle.std.proofs.Common.{◌≡◌, ℕ, Bool, true, false, List, [], ◌∷◌, ◌++◌, inl, inr, refl, sym, subst, append_assoc}
use Rattle.std.specs.Prelude.{if◌then◌else◌, nat_le, length, Option, None, Some, Result, Ok, Err, codes, bytes_eq}
use Rattle.std.specs.List.{join_with_byte}
use Rattle.sop_net.specs.Network.{Network}
use Rattle.hscript_text.specs.declared.command.Command.{Command}
use Rattle.hscript_text.specs.declared.refusal.ScriptKind.{ScriptKind}
use Rattle.hscript_text.specs.declared.refusal.ScriptKind.TheVariants.{Limit}
use Rattle.hscript_text.specs.declared.script.Script.{Script}
use Rattle.hscript_text.specs.declared.script.State.{State}
use Rattle.hscript_text.specs.Commands as commands
use Rattle.hscript_text.specs.Limits.{most_echoed_bytes}
use Rattle.hscript_text.specs.Reading.{Reading}
use Rattle.hscript_text.specs.Script.{start, Step, with_net, line_of_words, echo, after, Outcome, then_run, run, script_made, script_from}
use Rattle.hscript_text.specs.WholeLines.{AreLines}

abbrev state_of : Network → List ℕ → State
state_of net echoed = record { net = net; echoed = echoed }

abbrev script_at : State → Script
script_at state = record { net = state.net; echoed = state.echoed }

-- a line more
line_more : (echoed : List ℕ) (words : List (List ℕ)) → AreLines (echoed ++ line_of_words words)
line_more echoed words = inr (echoed ++ join_with_byte 32 words, sym (append_assoc echoed (join_with_byte 32 words) (10 ∷ [])))

kept_lines : (net : Network) (echoed : List ℕ) (next : State) → AreLines echoed → state_of net echoed ≡ next → AreLines next.echoed
kept_lines net echoed next lines same = subst (λ (s : State). AreLines s.echoed) same lines

fitting_lines : (fits : Bool) (net : Network) (echoed : List ℕ) (next : State) (refusal : ScriptKind) → AreLines echoed
    → (if fits then Ok (state_of net echoed) else Err refusal) ≡ Ok next → AreLines next.echoed
fitting_lines true net echoed next refusal lines is = let same : state_of net echoed ≡ next = cc in kept_lines net echoed next lines same
fitting_lines false net echoed next refusal lines is = let no : ⊥ = cc in absurd no

net_lines : (state next : State) (step : commands.Step) → AreLines state.echoed → with_net state step ≡ Ok next → AreLines next.echoed
net_lines state next (Ok net) lines is = let same : state_of net state.echoed ≡ next = cc in kept_lines net state.echoed next lines same
net_lines state next (Err refusal) lines is = let no : ⊥ = cc in absurd no

-- `echo`, or a command of the network
chosen_lines : (is_echo : Bool) (state next : State) (words : List (List ℕ)) (step : commands.Step) → AreLines state.echoed
    → (if is_echo then echo state words else with_net state step) ≡ Ok next → AreLines next.echoed
chosen_lines true state next words step lines is =
    let echoed = state.echoed ++ line_of_words words in
    fitting_lines (nat_le (length echoed) most_echoed_bytes) state.net echoed next Limit (line_more state.echoed words) is
chosen_lines false state next words step lines is = net_lines state next step lines is

step_lines : (state next : State) (words : List (List ℕ)) → AreLines state.echoed → after state words ≡ Ok next → AreLines next.echoed
step_lines state next [] lines is = let no : ⊥ = cc in absurd no
step_lines state next (verb ∷ words) lines is = chosen_lines (bytes_eq verb (codes "echo")) state next words (commands.carried_out state.net (verb ∷ words)) lines is

then_lines : (line : ℕ) (step : Step) (rest : State → Outcome) (last : State) → ((next : State) → step ≡ Ok next → rest next ≡ Ok last → AreLines last.echoed)
    → then_run line step rest ≡ Ok last → AreLines last.echoed
then_lines line (Ok next) rest last each is = each next refl is
then_lines line (Err refusal) rest last each is = let no : ⊥ = cc in absurd no

run_lines : (state last : State) (commands : List Command) → AreLines state.echoed → run state commands ≡ Ok last → AreLines last.echoed
run_lines state last [] lines is = let same : state ≡ last = cc in subst (λ (s : State). AreLines s.echoed) same lines
run_lines state last (command ∷ commands) lines is =
    then_lines command.line (after state command.words) (λ s. run s commands) last (λ next stepped rest. run_lines next last commands (step_lines state next command.words lines stepped) rest) is

made_lines : (outcome : Outcome) (unread : Option (ℕ × ScriptKind)) (script : Script) → ((last : State) → outcome ≡ Ok last → AreLines last.echoed)
    → script_made outcome unread ≡ Ok script → AreLines script.echoed
made_lines (Err refusal) unread script each is = let no : ⊥ = cc in absurd no
made_lines (Ok state) (Some refusal) script each is = let no : ⊥ = cc in absurd no
made_lines (Ok state) None script each is =
    let same : script_at state ≡ script = cc in
    subst (λ (s : Script). AreLines s.echoed) same (each state refl)

pub script_lines : (reading : Reading) (script : Script) → script_from start reading ≡ Ok script → AreLines script.echoed
script_lines reading script is = made_lines (run start reading.commands) reading.refusal script (λ last ran. run_lines start last reading.commands (inl refl) ran) is
