use Rattle.std.proofs.Common.{◌≡◌, ◌∷◌, ◌<◌, List, ℕ, length, take, drop, ap, sym, ◌∙◌, arith}
use Rattle.std.proofs.lemmas.Grind.{common_steps}
use Rattle.sop_outside.specs.Blanks.{words_of, begins_filled}
use Rattle.sop_outside.proofs.BlankWords.{word_len, first_word}
use Rattle.sop_outside.proofs.blanks.next_word.Goals as goal

cut_at : (text word rest : List ℕ) (n : ℕ) → 0 < length text → begins_filled text → n ≡ word_len text → word ≡ take n text → rest ≡ drop n text → words_of text ≡ word ∷ words_of rest
cut_at text word rest n some filled e front back =
    first_word text some filled ∙ (λ i. sym front' i ∷ words_of (sym back' i))
  where
    front' : word ≡ take (word_len text) text
    front' = front ∙ ap (λ k. take k text) e

    back' : rest ≡ drop (word_len text) text
    back' = back ∙ ap (λ k. drop k text) e

pub returns-clause-word : goal.returns-clause-word
returns-clause-word c =
    sym c.behind_blanks-text.ensures.words
    ∙ cut_at c.behind_blanks-text.result.now _ _ c.word_len.result (grind (arith, common_steps)) c.behind_blanks-text.ensures.filled c.word_len.ensures.value c.split_at.ensures.front c.split_at.ensures.back
