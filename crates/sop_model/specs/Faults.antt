-- What a fault of a cook prints as: its name, then a blank and its number or node, where it has one.
use Rattle.std.specs.Prelude.{ℕ, ◌==◌, Bool, true, not, List, ◌∷◌, ◌++◌, codes, decimal}
use Rattle.std.specs.List.{list_all}
use Rattle.sop_model.specs.Names.{is_name}
use Rattle.sop_model.specs.declared.fault.Fault.{Fault}
use Rattle.sop_model.specs.declared.fault.Fault.TheVariants as fault

abbrev pub with_number : List ℕ → ℕ → List ℕ
with_number name number = name ++ 32 ∷ decimal number

abbrev pub with_node : List ℕ → List ℕ → List ℕ
with_node name node = name ++ 32 ∷ node

abbrev pub fault_text : Fault → List ℕ
fault_text (fault.NoInput input) = with_number (codes "NoInput") input
fault_text fault.NoFile = codes "NoFile"
fault_text (fault.Number line) = with_number (codes "Number") line
fault_text (fault.Index line) = with_number (codes "Index") line
fault_text fault.Limit = codes "Limit"
fault_text fault.BadParm = codes "BadParm"
fault_text fault.NoAttr = codes "NoAttr"
fault_text (fault.BadGroup word) = with_number (codes "BadGroup") word
fault_text (fault.NoGroup word) = with_number (codes "NoGroup") word
fault_text (fault.Lex line) = with_number (codes "Lex") line
fault_text (fault.Syntax line) = with_number (codes "Syntax") line
fault_text (fault.Types line) = with_number (codes "Types") line
fault_text fault.TooLong = codes "TooLong"
fault_text (fault.Range element) = with_number (codes "Range") element
fault_text (fault.DivZero element) = with_number (codes "DivZero") element
fault_text (fault.Turns element) = with_number (codes "Turns") element
fault_text (fault.RunLimit element) = with_number (codes "RunLimit") element
fault_text (fault.EditLimit element) = with_number (codes "EditLimit") element
fault_text fault.NoLoop = codes "NoLoop"
fault_text fault.BadBlock = codes "BadBlock"
fault_text (fault.NotCompilable node) = with_node (codes "NotCompilable") node
fault_text (fault.Leaks node) = with_node (codes "Leaks") node
fault_text fault.NotYet = codes "NotYet"

-- the node that a fault names has a name, where it names one
abbrev pub has_named_node : Fault → Bool
has_named_node (fault.NotCompilable node) = is_name node
has_named_node (fault.Leaks node) = is_name node
has_named_node _ = true

abbrev pub line_feed : ℕ
line_feed = 10

abbrev pub is_one_line : List ℕ → Bool
is_one_line text = list_all (λ b. not (b == line_feed)) text
