-- Where a text may be cut: beside an ASCII byte.
use Rattle.std.proofs.Common.{◌≡◌, ℕ, ◌+◌, ◌-◌, ◌≤◌, ◌<◌, List, [], ◌∷◌, length, drop, refl, ap, sym, subst, ◌∙◌, arith, Bool, true, false, not, ◌==◌, get_or, min, cond, inl, inr}
use Rattle.std.proofs.lemmas.Grind.{common_steps}
use Rattle.std.proofs.lemmas.Bool.{cases_lt, ne_eqb}
use Rattle.std.proofs.lemmas.Bool.Decides.{Decides-eqb}
use Rattle.std.proofs.lemmas.List.{get_or-drop, length-drop}
use Rattle.std.proofs.lemmas.List.Sums.{prefix_len_passes, prefix_len_stops, prefix_len-le-length}
use Rattle.std.proofs.lemmas.Str.{IsCharBoundary-before_ascii, IsCharBoundary-after_ascii, IsCharBoundary-end, IsUtf8-drop}
use Rattle.std.specs.Prelude.{Option, Some, None, is_some}
use Rattle.std.specs.Option.{option_map}
use Rattle.std.specs.List.{prefix_len}
use Rattle.std.specs.Str.{IsUtf8, IsCharBoundary}
use Rattle.sop_model.specs.Names.{starts_name, continues_name}
use Rattle.hscript_text.specs.declared.style.Style.{Style}
use Rattle.hscript_text.specs.declared.style.Style.TheVariants.{Bare, Single, Double}
use Rattle.hscript_text.specs.Pieces.{name_len, begins, escape_of, is_plain}
use Rattle.hscript_text.specs.Words.{is_bare}
use Rattle.hscript_text.specs.declared.start.Start.TheVariants.{Between, Command}
use Rattle.hscript_text.specs.Reading.{is_line_end, start_of}

continues_ascii : (b : ℕ) → continues_name b ≡ true → b < 128
continues_ascii b h = grind (arith, common_steps)

name_within : (text : List ℕ) → (name_len text ≤ prefix_len continues_name text)
name_within [] = omega arith
name_within (b ∷ text) = elim (starts_name b) as (λ v. cond v (min 64 (prefix_len continues_name (b ∷ text))) 0 ≤ prefix_len continues_name (b ∷ text)) [ true ↦ omega arith | false ↦ omega arith ]

pub name_in_text : (text : List ℕ) → name_len text ≤ length text
name_in_text text = omega (arith, name_within text, prefix_len-le-length continues_name text)

-- behind a name
pub behind_name : (text : List ℕ) → IsUtf8 text → 0 < name_len text → IsCharBoundary text (name_len text)
behind_name text utf8 some =
    let last : continues_name (get_or text (name_len text - 1) 0) ≡ true = prefix_len_passes continues_name text (name_len text - 1) 0 (omega (arith, name_within text)) in
    let e : name_len text - 1 + 1 ≡ name_len text = omega arith in
    subst (IsCharBoundary text) e (IsCharBoundary-after_ascii text (name_len text - 1) utf8 (omega (arith, name_in_text text)) (continues_ascii _ last))

-- behind one ASCII byte
pub behind_byte : (text : List ℕ) → IsUtf8 text → 0 < length text → get_or text 0 0 < 128 → IsCharBoundary text 1
behind_byte text utf8 some small = let e : 0 + 1 ≡ 1 = omega arith in subst (IsCharBoundary text) e (IsCharBoundary-after_ascii text 0 utf8 some small)

begins_small : (b : ℕ) (text : List ℕ) → b < 128 → begins b text ≡ true → (0 < length text) × (get_or text 0 0 < 128)
begins_small b [] small h = absurd (cc)
begins_small b (c ∷ text) small h = let e : c ≡ b = (Decides-eqb c b).0 h in (omega arith, omega arith)

pub behind_begins : (b : ℕ) (text : List ℕ) → b < 128 → IsUtf8 text → begins b text ≡ true → IsCharBoundary text 1
behind_begins b text small utf8 h = let s = begins_small b text small h in behind_byte text utf8 s.0 s.1

is_some-option_map : {A C : Type 0} (f : A → C) (o : Option A) → is_some (option_map f o) ≡ is_some o
is_some-option_map f None = refl
is_some-option_map f (Some x) = refl

escape_small : (b : ℕ) → is_some (escape_of b) ≡ true → b < 128
escape_small b h = grind (arith, common_steps)

pub behind_escape : (text bytes : List ℕ) (b : ℕ) → IsUtf8 text → 0 < length text → b ≡ get_or text 0 0 → Some bytes ≡ option_map (λ c. c ∷ []) (escape_of b) → IsCharBoundary text 1
behind_escape text bytes b utf8 some at e =
    let known : is_some (escape_of b) ≡ true = sym (is_some-option_map (λ (c : ℕ). c ∷ []) (escape_of b)) ∙ ap is_some (sym e) in
    behind_byte text utf8 some (subst (λ c. c < 128) at (escape_small b known))

mark_small : (style : Style) (b : ℕ) → is_plain style b ≡ false → b < 128
mark_small Bare b h = grind (arith, common_steps)
mark_small Single b h = absurd (cc)
mark_small Double b h = grind (arith, common_steps)

-- behind the bytes that pass a test, where what doesn't is ASCII
behind_passing : (passes : ℕ → Bool) → ((b : ℕ) → passes b ≡ false → b < 128) → (text : List ℕ) (n : ℕ) → n ≡ prefix_len passes text → IsCharBoundary text n
behind_passing passes small text n e =
    let within : n ≤ length text = omega (arith, prefix_len-le-length passes text) in
    elim (cases_lt n (length text)) [
      | inl h ↦ IsCharBoundary-before_ascii text n h (small _ (ap (λ k. passes (get_or text k 0)) e ∙ prefix_len_stops passes text 0 (subst (λ k. k < length text) e h)))
      | inr h ↦ (let s : n ≡ length text = omega arith in subst (IsCharBoundary text) (sym s) (IsCharBoundary-end text))
    ]

-- behind a run of plain bytes
pub behind_run : (style : Style) (text : List ℕ) (n : ℕ) → n ≡ prefix_len (is_plain style) text → IsCharBoundary text n
behind_run style = behind_passing (is_plain style) (mark_small style)

bare_small : (b : ℕ) → is_bare b ≡ false → b < 128
bare_small b h = grind (arith, common_steps)

-- behind a bare word
pub behind_bare : (text : List ℕ) (n : ℕ) → n ≡ prefix_len is_bare text → IsCharBoundary text n
behind_bare = behind_passing is_bare bare_small

-- before and behind a closing quote
pub before_end : (text : List ℕ) (n : ℕ) → (n < length text) × (get_or text n 0 < 128) → IsCharBoundary text n
before_end text n h = IsCharBoundary-before_ascii text n h.0 h.1

pub behind_end : (text after : List ℕ) (n : ℕ) → IsUtf8 text → (n < length text) × (get_or text n 0 < 128) → after ≡ drop n text → IsCharBoundary after 1
behind_end text after n utf8 h e =
    let here : n + 0 ≡ n = omega arith in
    let small : get_or (drop n text) 0 0 < 128 = subst (λ b. b < 128) (sym (get_or-drop n text 0 0 ∙ ap (λ k. get_or text k 0) here)) h.1 in
    let size : length (drop n text) ≡ length text - n = length-drop n text in
    subst (λ t. IsCharBoundary t 1) (sym e) (behind_byte (drop n text) (IsUtf8-drop text n utf8 (before_end text n h)) (omega (arith, h.0)) small)

pub behind_mark : (style : Style) (text : List ℕ) (b : ℕ) → IsUtf8 text → 0 < length text → b ≡ get_or text 0 0 → is_plain style b ≡ false → IsCharBoundary text 1
behind_mark style text b utf8 some at h = behind_byte text utf8 some (subst (λ c. c < 128) at (mark_small style b h))

line_end_small : (b : ℕ) → not (is_line_end b) ≡ false → b < 128
line_end_small b h = grind (arith, common_steps)

-- at the end of a line
pub behind_line : (text : List ℕ) (n : ℕ) → n ≡ prefix_len (λ b. not (is_line_end b)) text → IsCharBoundary text n
behind_line = behind_passing (λ b. not (is_line_end b)) line_end_small

between_small : (b : ℕ) → start_of b ≡ Between → b < 128
between_small b e = elim (cases_lt b 128) [ inl h ↦ h | inr h ↦ absurd (large b h e) ]
  where
    large : (b : ℕ) → 128 ≤ b → start_of b ≡ Between → ⊥
    large b h e =
        let space : (b == 32) ≡ false = ne_eqb b 32 (λ e. omega arith) in
        let tab : (b == 9) ≡ false = ne_eqb b 9 (λ e. omega arith) in
        let return : (b == 13) ≡ false = ne_eqb b 13 (λ e. omega arith) in
        let end : (b == 10) ≡ false = ne_eqb b 10 (λ e. omega arith) in
        let mark : (b == 35) ≡ false = ne_eqb b 35 (λ e. omega arith) in
        let command : start_of b ≡ Command = rw (space, tab, return, end, mark) refl in
        cc

pub behind_between : (text : List ℕ) → IsUtf8 text → 0 < length text → start_of (get_or text 0 0) ≡ Between → IsCharBoundary text 1
behind_between text utf8 some e = behind_byte text utf8 some (between_small _ e)
