-- Names of groups: their bytes, and whether a group of a name is there.
use Rattle.std.proofs.Common.{◌≡◌, ℕ, zero, suc, ◌<◌, Bool, true, false, not, List, [], ◌∷◌, length, get_or, arith, Option, refl, sym, ap, ◌∙◌}
use Rattle.std.specs.Prelude.{◌&&◌, ◌||◌, nat_le, position, is_some, bytes_eq}
use Rattle.std.specs.List.{list_all}
use Rattle.std.specs.Str.{IsUtf8}
use Rattle.std.proofs.lemmas.Str.{IsUtf8-from_ascii}
use Rattle.std.proofs.lemmas.Bool.{and_parts, and_from}
use Rattle.std.proofs.lemmas.Bool.Decides.{nat_tests}
use Rattle.sop_model.specs.declared.class.Class.{Class}
use Rattle.sop_model.specs.declared.geo.Geo.{Geo}
use Rattle.sop_model.specs.Limits.{most_name_bytes}
use Rattle.sop_model.specs.Names.{starts_name, continues_name, is_name}
use Rattle.sop_model.specs.Geometry.{heads_of}
use Rattle.sop_pattern.specs.declared.word.Atom.{Atom}
use Rattle.sop_pattern.specs.declared.word.Atom.TheVariants.{Group}
use Rattle.sop_pattern.specs.Words.{is_wild_byte}
use Rattle.sop_pattern.specs.Selection.{lacks_group}

low : (b : ℕ) → (continues_name b || is_wild_byte b) ≡ true → b < 128
low b h = grind (arith, nat_tests)

all_low : (word : List ℕ) → list_all (λ b. continues_name b || is_wild_byte b) word ≡ true → (i : ℕ) → get_or word i 0 < 128
all_low [] h i = omega arith
all_low (b ∷ word) h zero = low b (and_parts (continues_name b || is_wild_byte b) (list_all (λ d. continues_name d || is_wild_byte d) word) h).0
all_low (b ∷ word) h (suc i) = all_low word (and_parts (continues_name b || is_wild_byte b) (list_all (λ d. continues_name d || is_wild_byte d) word) h).1 i

pub IsUtf8-wild : (word : List ℕ) → list_all (λ b. continues_name b || is_wild_byte b) word ≡ true → IsUtf8 word
IsUtf8-wild word h = IsUtf8-from_ascii word (all_low word h)

or_first : (x y : Bool) → x ≡ true → (x || y) ≡ true
or_first true y h = refl
or_first false y h = cc

wider : (word : List ℕ) → list_all continues_name word ≡ true → list_all (λ b. continues_name b || is_wild_byte b) word ≡ true
wider [] h = refl
wider (b ∷ word) h =
    let parts = and_parts (continues_name b) (list_all continues_name word) h in
    and_from (continues_name b || is_wild_byte b) (list_all (λ d. continues_name d || is_wild_byte d) word) (or_first (continues_name b) (is_wild_byte b) parts.0) (wider word parts.1)

-- each byte of a name continues a name
pub names_are_plain : (word : List ℕ) → is_name word ≡ true → list_all (λ b. continues_name b || is_wild_byte b) word ≡ true
names_are_plain [] h = cc
names_are_plain (b ∷ word) h =
    let parts = and_parts (starts_name b && list_all continues_name word) (nat_le (length (b ∷ word)) most_name_bytes) h in
    let front = and_parts (starts_name b) (list_all continues_name word) parts.0 in
    wider (b ∷ word) (and_from (continues_name b) (list_all continues_name word) (or_first (starts_name b) _ front.0) front.1)

not_not : (b : Bool) → not (not b) ≡ b
not_not true = refl
not_not false = refl

pub named_is_missing : (g : Geo) (class : Class) (atom : Atom) (name text : List ℕ) (found : Option ℕ) (none : Bool)
    → atom ≡ Group name → text ≡ name → found ≡ position (λ group. bytes_eq group text) (heads_of g class).groups → is_some found ≡ not none → none ≡ lacks_group g class atom
named_is_missing g class atom name text found none is same at some =
    sym (not_not none) ∙ ap not (sym some) ∙ ap (λ o. not (is_some o)) at
    ∙ ap (λ w. not (is_some (position (λ group. bytes_eq group w) (heads_of g class).groups))) same
    ∙ ap (lacks_group g class) (sym is)
