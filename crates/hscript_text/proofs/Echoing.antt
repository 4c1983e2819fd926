-- The echoed text, word by word.
use Rattle.std.proofs.Common.{◌≡◌, ℕ, zero, suc, ◌+◌, ◌≤◌, ◌<◌, List, [], ◌∷◌, ◌++◌, length, take, refl, ap, sym, subst, ◌∙◌, arith, get_or, append_assoc, length-append, add-one}
use Rattle.std.specs.Prelude.{Result, Ok, Err}
use Rattle.std.specs.List.{join_with_byte}
use Rattle.std.proofs.lemmas.List.{take_all}
use Rattle.hscript_text.specs.declared.refusal.CommandEnd.{CommandEnd}
use Rattle.hscript_text.specs.declared.refusal.CommandEnd.TheVariants.{Refused, Memory}
use Rattle.hscript_text.specs.Script.{line_of_words}
use Rattle.hscript_text.specs.Parts.{Echoes, between}

join_more : (ws : List (List ℕ)) (i : ℕ) (d : List ℕ) → i < length ws → join_with_byte 32 (take (suc i) ws) ≡ join_with_byte 32 (take i ws) ++ (between i ++ get_or ws i d)
join_more [] i d h = absurd (omega arith)
join_more (w ∷ []) zero d h = refl
join_more (w ∷ []) (suc i) d h = absurd (omega arith)
join_more (w ∷ v ∷ ws) zero d h = refl
join_more (w ∷ v ∷ ws) (suc zero) d h = refl
join_more (w ∷ v ∷ ws) (suc (suc i)) d h =
    ap (λ t. w ++ 32 ∷ t) (join_more (v ∷ ws) (suc i) d (omega arith))
    ∙ sym (append_assoc w (32 ∷ join_with_byte 32 (take (suc i) (v ∷ ws))) (between (suc i) ++ get_or (v ∷ ws) (suc i) d))

join_short : (ws : List (List ℕ)) (k : ℕ) → length (join_with_byte 32 (take k ws)) ≤ length (join_with_byte 32 ws)
join_short ws zero = omega arith
join_short [] (suc k) = omega arith
join_short (w ∷ []) (suc zero) = omega arith
join_short (w ∷ []) (suc (suc k)) = omega arith
join_short (w ∷ v ∷ ws) (suc zero) = omega (arith, length-append w (32 ∷ join_with_byte 32 (v ∷ ws)))
join_short (w ∷ v ∷ ws) (suc (suc k)) =
    omega (arith, join_short (v ∷ ws) (suc k), length-append w (32 ∷ join_with_byte 32 (v ∷ ws)), length-append w (32 ∷ join_with_byte 32 (take (suc k) (v ∷ ws))))

-- a text behind another
pub echoes_then : (old mid new a b : List ℕ) (r : Result (Unit {0}) CommandEnd) → mid ≡ old ++ a → Echoes mid new b r → Echoes old new (a ++ b) r
echoes_then old mid new a b (Ok u) first next = (next.0 ∙ ap (λ t. t ++ b) first ∙ append_assoc old a b, next.1)
echoes_then old mid new a b (Err (Refused refusal)) first next = (next.0, omega (arith, next.1, ap length first, length-append old a, length-append a b))
echoes_then old mid new a b (Err Memory) first next = tt

-- what has no room has none with more behind it
echoes_longer : (old new a b : List ℕ) (end : CommandEnd) → length a ≤ length b → Echoes old new a (Err end) → Echoes old new b (Err end)
echoes_longer old new a b (Refused refusal) h e = (e.0, omega (arith, e.1))
echoes_longer old new a b Memory h e = tt

pub echoes_first : (old new a b : List ℕ) (end : CommandEnd) → Echoes old new a (Err end) → Echoes old new (a ++ b) (Err end)
echoes_first old new a b end e = echoes_longer old new a (a ++ b) end (omega (arith, length-append a b)) e

-- the words before word i were added, and then it
pub echoes_word : (ws : List (List ℕ)) (i : ℕ) (d old mid new : List ℕ) (r : Result (Unit {0}) CommandEnd) → i < length ws → mid ≡ old ++ join_with_byte 32 (take i ws)
    → Echoes mid new (between i ++ get_or ws i d) r → Echoes old new (join_with_byte 32 (take (i + 1) ws)) r
echoes_word ws i d old mid new r h first next =
    subst (λ t. Echoes old new t r) (sym (ap (λ k. join_with_byte 32 (take k ws)) (add-one i) ∙ join_more ws i d h))
    (echoes_then old mid new (join_with_byte 32 (take i ws)) (between i ++ get_or ws i d) r first next)

pub echoes_cut : (ws : List (List ℕ)) (k : ℕ) (old new : List ℕ) (end : CommandEnd) → Echoes old new (join_with_byte 32 (take k ws)) (Err end) → Echoes old new (line_of_words ws) (Err end)
echoes_cut ws k old new end e =
    echoes_longer old new (join_with_byte 32 (take k ws)) (line_of_words ws) end (omega (arith, join_short ws k, length-append (join_with_byte 32 ws) (10 ∷ []))) e

pub echoes_line : (ws : List (List ℕ)) (k : ℕ) (old mid new : List ℕ) (r : Result (Unit {0}) CommandEnd) → length ws ≤ k → mid ≡ old ++ join_with_byte 32 (take k ws)
    → Echoes mid new (10 ∷ []) r → Echoes old new (line_of_words ws) r
echoes_line ws k old mid new r h first next =
    echoes_then old mid new (join_with_byte 32 ws) (10 ∷ []) r (first ∙ ap (λ l. old ++ join_with_byte 32 l) (take_all k ws h)) next
