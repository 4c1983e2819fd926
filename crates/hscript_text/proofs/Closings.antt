-- The place of the closing quote, read a byte at a time.
use Rattle.std.proofs.Common.{◌≡◌, ℕ, suc, ◌+◌, ◌≤◌, ◌<◌, List, [], ◌∷◌, length, drop, refl, ap, sym, subst, ◌∙◌, arith, Bool, true, false, ◌==◌, get_or, eq-eqb, cond, nat_lt}
use Rattle.std.specs.Prelude.{Option, Some, None, position}
use Rattle.std.specs.Option.{option_map}
use Rattle.std.proofs.lemmas.Bool.{ne_eqb}
use Rattle.std.proofs.lemmas.Bool.Decides.{Decides-eqb}
use Rattle.std.proofs.lemmas.List.{drop_more, drop_all}
use Rattle.std.proofs.lemmas.List.Sums.{passes_at_first}
use Rattle.std.specs.List.{position_or_len}
use Rattle.hscript_text.specs.Words.{unescaped_quote}
use Rattle.hscript_text.specs.Parts.{IsEnd}

-- a place in a text that stands so many bytes further on
abbrev pub further : ℕ → Option ℕ → Option ℕ
further k None = None
further k (Some n) = Some (k + n)

pub further-zero : (o : Option ℕ) → further 0 o ≡ o
further-zero None = refl
further-zero (Some n) = let e : 0 + n ≡ n = omega arith in ap Some e

further-next : (k : ℕ) (o : Option ℕ) → further k (option_map (λ n. n + 1) o) ≡ further (k + 1) o
further-next k None = refl
further-next k (Some n) = let e : k + (n + 1) ≡ k + 1 + n = omega arith in ap Some e

pub quote_here : (text : List ℕ) (i : ℕ) → i < length text → get_or text i 0 ≡ 34 → further i (unescaped_quote false (drop i text)) ≡ Some i
quote_here text i h e =
    let z : i + 0 ≡ i = omega arith in
    ap (λ t. further i (unescaped_quote false t)) (drop_more text i 0 h)
    ∙ ap (λ v. further i (cond v (Some 0) (option_map (λ n. n + 1) (unescaped_quote (get_or text i 0 == 92) (drop (i + 1) text))))) (eq-eqb _ _ e)
    ∙ ap Some z

pub quote_escape : (text : List ℕ) (i : ℕ) → i < length text → further i (unescaped_quote true (drop i text)) ≡ further (i + 1) (unescaped_quote false (drop (i + 1) text))
quote_escape text i h = ap (λ t. further i (unescaped_quote true t)) (drop_more text i 0 h) ∙ further-next i (unescaped_quote false (drop (i + 1) text))

pub quote_plain : (text : List ℕ) (i : ℕ) (escape : Bool) → i < length text → (get_or text i 0 ≡ 34 → ⊥) → escape ≡ (get_or text i 0 == 92)
    → further i (unescaped_quote false (drop i text)) ≡ further (i + 1) (unescaped_quote escape (drop (i + 1) text))
quote_plain text i escape h e is =
    ap (λ t. further i (unescaped_quote false t)) (drop_more text i 0 h)
    ∙ ap (λ v. further i (cond v (Some 0) (option_map (λ n. n + 1) (unescaped_quote (get_or text i 0 == 92) (drop (i + 1) text))))) (ne_eqb _ _ e)
    ∙ further-next i (unescaped_quote (get_or text i 0 == 92) (drop (i + 1) text))
    ∙ ap (λ v. further (i + 1) (unescaped_quote v (drop (i + 1) text))) (sym is)

pub quote_past : (text : List ℕ) (i : ℕ) (escape : Bool) → length text ≤ i → further i (unescaped_quote escape (drop i text)) ≡ None
quote_past text i escape h = ap (λ t. further i (unescaped_quote escape t)) (drop_all i text h)

end_later : (b : ℕ) (text : List ℕ) (o : Option ℕ) → IsEnd text o → IsEnd (b ∷ text) (option_map (λ n. n + 1) o)
end_later b text None h = tt
end_later b text (Some n) h = let e : suc n ≡ n + 1 = omega arith in (omega (arith, h.0), subst (λ k. get_or (b ∷ text) k 0 < 128) e h.1)

-- a closing quote stands where it was found
pub double_end : (escape : Bool) (text : List ℕ) → IsEnd text (unescaped_quote escape text)
double_end escape [] = tt
double_end true (b ∷ text) = end_later b text (unescaped_quote false text) (double_end false text)
double_end false (b ∷ text) = elim (b == 34) as (λ v. (b == 34) ≡ v → IsEnd (b ∷ text) (cond v (Some 0) (option_map (λ n. n + 1) (unescaped_quote (b == 92) text)))) [
  | true ↦ λ e. (let q : b ≡ 34 = (Decides-eqb b 34).0 e in (omega arith, omega arith))
  | false ↦ λ e. end_later b text (unescaped_quote (b == 92) text) (double_end (b == 92) text)
] refl

lt_from : (a b : ℕ) → nat_lt a b ≡ true → a < b
lt_from a b h = grind arith

pub single_end : (text : List ℕ) → IsEnd text (position (λ b. b == 39) text)
single_end text =
    let n = position_or_len (λ b. b == 39) text in
    elim (nat_lt n (length text)) as (λ v. nat_lt n (length text) ≡ v → IsEnd text (cond v (Some n) None)) [
      | true ↦ λ e. (let h : n < length text = lt_from n (length text) e in let q : get_or text n 0 ≡ 39 = (Decides-eqb _ 39).0 (passes_at_first (λ b. b == 39) text 0 h) in (h, omega arith))
      | false ↦ λ e. tt
    ] refl
