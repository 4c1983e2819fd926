-- What the program answers to its words, where no load and no write fails: a status, the bytes on `out` and those on `err`.
--
-- 1. The words are read.
-- 2. The script is loaded, with a limit of 4 MiB.
-- 3. The script is read. Its echoed text goes to `err`.
-- 4. The node is looked up.
-- 5. The files of the file nodes among the node and those upstream of it are loaded, each with a limit of 64 MiB.
-- 6. The node is cooked.
-- 7. The answer's bytes go to `out`: the geometry in the form that is asked for, as OBJ or as its listing, with status 0.
--
-- Where a step refuses, the run ends with its line on `err`: the words with status 2; a script that is missing, too long or refused, and a
-- node that isn't there, with status 3; a fault of the cook, with the name of its node, with status 4.
use Rattle.std.specs.Prelude.{ℕ, List, [], ◌∷◌, ◌++◌, codes, decimal, Option, None, Some, Result, Ok, Err, unwrap_or, option_map}
use Rattle.sop_outside.specs.Load.{Names, load_of}
use Rattle.sop_outside.specs.declared.files.LoadEnd.{LoadEnd}
use Rattle.sop_outside.specs.declared.files.LoadEnd.TheVariants as end
use Rattle.sop_model.specs.Faults.{fault_text, line_feed}
use Rattle.sop_model.specs.declared.geo.Geo.{Geo}
use Rattle.geo_text.specs.ObjText.{text_of}
use Rattle.geo_text.specs.Listing.{list_text}
use Rattle.sop_net.specs.declared.node.Node.{Node}
use Rattle.sop_net.specs.Network.{node_of, number_named}
use Rattle.hscript_text.specs.declared.refusal.ScriptKind.{ScriptKind}
use Rattle.hscript_text.specs.declared.script.Script.{Script}
use Rattle.hscript_text.specs.Limits.{most_script_bytes}
use Rattle.hscript_text.specs.RefusalNames.{name_of_refusal}
use Rattle.hscript_text.specs.Script.{script_of}
use Rattle.sop_cook.specs.Visit.{Outcome, Failure}
use Rattle.sop_cook.specs.SerialCook.{cook_of}
use Rattle.sopcook.specs.declared.answer.Answer.{Answer}
use Rattle.sopcook.specs.declared.request.Form.{Form}
use Rattle.sopcook.specs.declared.request.Form.TheVariants as form
use Rattle.sopcook.specs.Request.{Asked, request_of}
use Rattle.sopcook.specs.Loads.{told_files}

-- a line behind the program's name
abbrev pub said : List ℕ → List ℕ
said text = codes "sopcook: " ++ text ++ line_feed ∷ []

abbrev pub refused_with : ℕ → List ℕ → Answer
refused_with status text = record { status = status; out = []; err = said text }

abbrev pub words_answer : Answer
words_answer = refused_with 2 (codes "words")

abbrev pub no_script : Answer
no_script = refused_with 3 (codes "script: NoScript")

abbrev pub script_too_long : Answer
script_too_long = refused_with 3 (codes "script: TooLong")

abbrev pub line_answer : ℕ → ScriptKind → Answer
line_answer line refusal = refused_with 3 (codes "line " ++ decimal line ++ codes ": " ++ name_of_refusal refusal)

abbrev pub no_node : Answer
no_node = refused_with 3 (codes "node: NoNode")

-- the name of the node of this number
abbrev pub name_at : List Node → ℕ → List ℕ
name_at nodes x = unwrap_or (option_map (λ n. n.name) (node_of nodes x)) []

abbrev pub fault_answer : List Node → Failure → Answer
fault_answer nodes f = refused_with 4 (name_at nodes f.node ++ codes ": " ++ fault_text f.fault)

-- the text of a geometry in a form
abbrev pub text_in : Form → Geo → List ℕ
text_in form.Obj g = text_of g
text_in form.List g = list_text g

-- the node was cooked
abbrev pub cook_answer : Form → List Node → Outcome → Answer
cook_answer form nodes (Ok g) = record { status = 0; out = text_in form g; err = [] }
cook_answer form nodes (Err f) = fault_answer nodes f

-- the node was looked up
abbrev pub found_answer : Names → List Node → Form → Option ℕ → Answer
found_answer names nodes form None = no_node
found_answer names nodes form (Some x) = cook_answer form nodes (cook_of (told_files names) nodes x)

-- the answer of the node that is asked for
abbrev pub node_answer : Names → List Node → Asked → Answer
node_answer names nodes request = found_answer names nodes request.form (number_named nodes request.node)

-- an answer behind the echoed text
abbrev pub echoing : List ℕ → Answer → Answer
echoing echoed answer = record answer { err = echoed ++ answer.err }

-- the script was read
abbrev pub script_answer : Names → Asked → Result Script (ℕ × ScriptKind) → Answer
script_answer names request (Ok script) = echoing script.echoed (node_answer names script.net.nodes request)
script_answer names request (Err refusal) = line_answer refusal.0 refusal.1

-- the script was loaded
abbrev pub loaded_answer : Names → Asked → Result (List ℕ) LoadEnd → Answer
loaded_answer names request (Ok bytes) = script_answer names request (script_of bytes)
loaded_answer names request (Err end.TooLong) = script_too_long
loaded_answer names request (Err other) = no_script

-- the words were read
abbrev pub asked_answer : Names → Option Asked → Answer
asked_answer names None = words_answer
asked_answer names (Some request) = loaded_answer names request (load_of names request.script most_script_bytes)

-- the answer to these words
abbrev pub answer_of : List (List ℕ) → Names → Answer
answer_of words names = asked_answer names (request_of words)

-- the text that a script echoes, where it is loaded and read
abbrev pub script_echo : Result Script (ℕ × ScriptKind) → List ℕ
script_echo (Ok script) = script.echoed
script_echo (Err refusal) = []

abbrev pub loaded_echo : Result (List ℕ) LoadEnd → List ℕ
loaded_echo (Ok bytes) = script_echo (script_of bytes)
loaded_echo (Err end) = []

abbrev pub asked_echo : Names → Option Asked → List ℕ
asked_echo names None = []
asked_echo names (Some request) = loaded_echo (load_of names request.script most_script_bytes)

-- the text that the script of these words echoes
abbrev pub echo_of : List (List ℕ) → Names → List ℕ
echo_of words names = asked_echo names (request_of words)

-- the line after a load that failed
abbrev pub read_line : List ℕ
read_line = said (codes "read fault")
