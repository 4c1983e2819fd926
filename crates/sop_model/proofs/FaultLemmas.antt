-- A fault is printed on one line, where the node that it names has a name.
use Rattle.std.proofs.Common.{◌≡◌, ℕ, zero, suc, ◌/◌, ◌%◌, ◌<◌, Bool, true, false, not, ◌==◌, List, [], ◌∷◌, ◌++◌, refl, ◌∙◌, arith}
use Rattle.std.specs.Prelude.{codes, decimal, if◌then◌else◌}
use Rattle.std.specs.Fmt.{digits, digits_onto, digit_glyph}
use Rattle.std.specs.List.{list_all}
use Rattle.std.proofs.lemmas.Bool.{and_parts, and_from}
use Rattle.std.proofs.lemmas.Bool.Decides.{nat_tests}
use Rattle.std.proofs.lemmas.List.Folds.{list_all-append}
use Rattle.sop_model.specs.declared.fault.Fault.{Fault}
use Rattle.sop_model.specs.declared.fault.Fault.TheVariants as fault
use Rattle.sop_model.specs.Names.{starts_name, continues_name, is_name}
use Rattle.sop_model.specs.Faults.{fault_text, with_number, with_node, has_named_node, is_one_line}

is_one_line-append : (a b : List ℕ) → is_one_line a ≡ true → is_one_line b ≡ true → is_one_line (a ++ b) ≡ true
is_one_line-append a b left right = list_all-append (λ x. not (x == 10)) a b ∙ and_from _ _ left right

-- the digits of a number

glyph : (d : ℕ) → d < 10 → not (digit_glyph false d == 10) ≡ true
glyph d lt = grind (arith, nat_tests)

chosen : (b : Bool) (here further : List ℕ) → is_one_line here ≡ true → is_one_line further ≡ true → is_one_line (if b then here else further) ≡ true
chosen true here further one more = one
chosen false here further one more = more

is_one_line-digits_onto : (k n : ℕ) (text : List ℕ) → is_one_line text ≡ true → is_one_line (digits_onto k 10 false n text) ≡ true
is_one_line-digits_onto zero n text one = one
is_one_line-digits_onto (suc k) n text one =
    let longer = digit_glyph false (n % 10) ∷ text in
    let here : is_one_line longer ≡ true = and_from _ _ (glyph (n % 10) (omega arith)) one in
    chosen (n / 10 == 0) longer (digits_onto k 10 false (n / 10) longer) here (is_one_line-digits_onto k (n / 10) longer here)

is_one_line-decimal : (n : ℕ) → is_one_line (decimal n) ≡ true
unfolding digits
is_one_line-decimal n = is_one_line-digits_onto 64 n [] refl

numbered : (name : List ℕ) (n : ℕ) → is_one_line name ≡ true → is_one_line (with_number name n) ≡ true
numbered name n one = is_one_line-append name (32 ∷ decimal n) one (is_one_line-decimal n)

-- a name

continued : (b : ℕ) → continues_name b ≡ true → not (b == 10) ≡ true
continued b is = grind (arith, nat_tests)

started : (b : ℕ) → starts_name b ≡ true → not (b == 10) ≡ true
started b is = grind (arith, nat_tests)

all_continue : (bytes : List ℕ) → list_all continues_name bytes ≡ true → is_one_line bytes ≡ true
all_continue [] is = refl
all_continue (b ∷ bytes) is =
    let parts = and_parts _ _ is in
    and_from _ _ (continued b parts.0) (all_continue bytes parts.1)

is_one_line-name : (text : List ℕ) → is_name text ≡ true → is_one_line text ≡ true
is_one_line-name [] is = refl
is_one_line-name (b ∷ bytes) is =
    let parts = and_parts _ _ (and_parts _ _ is).0 in
    and_from _ _ (started b parts.0) (all_continue bytes parts.1)

noded : (name node : List ℕ) → is_one_line name ≡ true → is_name node ≡ true → is_one_line (with_node name node) ≡ true
noded name node one is = is_one_line-append name (32 ∷ node) one (is_one_line-name node is)

-- the law
pub is_one_line-fault_text : (f : Fault) → has_named_node f ≡ true → is_one_line (fault_text f) ≡ true
is_one_line-fault_text (fault.NoInput n) named = numbered (codes "NoInput") n refl
is_one_line-fault_text fault.NoFile named = refl
is_one_line-fault_text (fault.Number n) named = numbered (codes "Number") n refl
is_one_line-fault_text (fault.Index n) named = numbered (codes "Index") n refl
is_one_line-fault_text fault.Limit named = refl
is_one_line-fault_text fault.BadParm named = refl
is_one_line-fault_text fault.NoAttr named = refl
is_one_line-fault_text (fault.BadGroup n) named = numbered (codes "BadGroup") n refl
is_one_line-fault_text (fault.NoGroup n) named = numbered (codes "NoGroup") n refl
is_one_line-fault_text (fault.Lex n) named = numbered (codes "Lex") n refl
is_one_line-fault_text (fault.Syntax n) named = numbered (codes "Syntax") n refl
is_one_line-fault_text (fault.Types n) named = numbered (codes "Types") n refl
is_one_line-fault_text fault.TooLong named = refl
is_one_line-fault_text (fault.Range n) named = numbered (codes "Range") n refl
is_one_line-fault_text (fault.DivZero n) named = numbered (codes "DivZero") n refl
is_one_line-fault_text (fault.Turns n) named = numbered (codes "Turns") n refl
is_one_line-fault_text (fault.RunLimit n) named = numbered (codes "RunLimit") n refl
is_one_line-fault_text (fault.EditLimit n) named = numbered (codes "EditLimit") n refl
is_one_line-fault_text fault.NoLoop named = refl
is_one_line-fault_text fault.BadBlock named = refl
is_one_line-fault_text (fault.NotCompilable node) named = noded (codes "NotCompilable") node refl named
is_one_line-fault_text (fault.Leaks node) named = noded (codes "Leaks") node refl named
is_one_line-fault_text fault.NotYet named = refl
