-- What the words of the command line ask for.
--
-- They are read as `clap` reads one command: `sopcook SCRIPT NODE [-j N] [--form FORM]`, two required positionals and two options that take one
-- text each. It has no version, and a request for help is refused as an unknown word is. N is one or two digits with a value from 1 to 64, and
-- FORM is `obj`, as where it is left out, or `list`.
use Rattle.std.specs.Prelude.{ℕ, Bool, true, false, ◌&&◌, if◌then◌else◌, nat_le, List, [], ◌∷◌, Option, None, Some, codes, bytes_eq}
use Rattle.sop_fixed.specs.Numerals.{number_in}
use Rattle.sopcook.specs.Limits.{most_workers, most_worker_digits}
use Rattle.sopcook.specs.declared.request.Form.{Form}
use Rattle.sopcook.specs.declared.request.Form.TheVariants as form
use Rattle.sopcook.specs.declared.request.Request.{Request}
use Rattle.clap.specs.Words.{App, Rule, Kinds, new_app, new_rule, with_rule, matches_of, first_of, fault_of}

-- what is asked for: a script, a node of its network, and the form of the answer
pub record Asked : Type 0 where
  pub script : List ℕ
  pub node : List ℕ
  pub form : Form

abbrev pub request_seen : Request → Asked
request_seen request = record { script = request.script.now; node = request.node.now; form = request.form }

abbrev pub positional : List ℕ → Rule
positional id = record (new_rule id) { required = true }

abbrev pub short_option : List ℕ → ℕ → Rule
short_option id letter = record (new_rule id) { short = Some letter }

abbrev pub long_option : List ℕ → List ℕ → Rule
long_option id name = record (new_rule id) { long = Some name }

-- words alone, without the program's name, and no request for help
abbrev pub bare_app : App
bare_app = record { top = record (new_app (codes "sopcook")).top { no_binary_name = true; disable_help_flag = true }; subs = [] }

-- the command
abbrev pub sopcook_app : App
sopcook_app =
    with_rule (with_rule (with_rule (with_rule bare_app
    (positional (codes "script")))
    (positional (codes "node")))
    (short_option (codes "workers") 106))
    (long_option (codes "form") (codes "form"))

abbrev pub are_taken : Kinds → Bool
are_taken [] = true
are_taken (kind ∷ kinds) = false

-- the text that the words give for an argument
abbrev pub given_for : List ℕ → List (List ℕ) → Option (List ℕ)
given_for id words = first_of id (matches_of sopcook_app words)

abbrev pub is_between : ℕ → ℕ → Option ℕ → Bool
is_between low high None = false
is_between low high (Some n) = nat_le low n && nat_le n high

-- one or two digits with a value from 1 to 64
abbrev pub is_workers : List ℕ → Bool
is_workers text = is_between 1 most_workers (number_in most_worker_digits text)

-- workers may be left out
abbrev pub are_workers : Option (List ℕ) → Bool
are_workers None = true
are_workers (Some text) = is_workers text

abbrev pub form_named : List ℕ → Option Form
form_named text = if bytes_eq text (codes "obj") then Some form.Obj else if bytes_eq text (codes "list") then Some form.List else None

-- and so may the form
abbrev pub form_asked : Option (List ℕ) → Option Form
form_asked None = Some form.Obj
form_asked (Some text) = form_named text

-- the workers fit, and there are a form, a script and a node
abbrev pub asked : Bool → Option Form → Option (List ℕ) → Option (List ℕ) → Option Asked
asked true (Some form) (Some script) (Some node) = Some (record { script = script; node = node; form = form })
asked _ _ _ _ = None

abbrev pub taken_request : Bool → List (List ℕ) → Option Asked
taken_request true words = asked (are_workers (given_for (codes "workers") words)) (form_asked (given_for (codes "form") words)) (given_for (codes "script") words) (given_for (codes "node") words)
taken_request false words = None

-- what these words ask for, where they aren't refused
abbrev pub request_of : List (List ℕ) → Option Asked
request_of words = taken_request (are_taken (fault_of sopcook_app words)) words
