-- Words of a text, read one by one.
use Rattle.std.proofs.Common.{◌≡◌, ℕ, ◌+◌, true, List, ◌++◌, length}
use Rattle.std.specs.Prelude.{◌≤◌, Result, Ok, Err}
use Rattle.std.specs.List.{list_all}
use Rattle.sop_pattern.specs.declared.word.Word.{Word}
use Rattle.sop_pattern.specs.Words.{pattern_from, pattern_of}
use Rattle.sop_pattern.specs.Marks.{has_period}

-- words before the words of a pattern
abbrev pub onto : List Word → Result (List Word) ℕ → Result (List Word) ℕ
onto words (Ok later) = Ok (words ++ later)
onto words (Err bad) = Err bad

-- The words so far, with those that are left behind them, are the pattern of the text.
pub record Reads (words : List Word) (left : List (List ℕ)) (text : List ℕ) : Type 0 where
  pub same : onto words (pattern_from (length words) left) ≡ pattern_of text
  pub periods : list_all (λ w. has_period w.atom) words ≡ true
  pub few : length words + length left ≤ length text
