-- Texts of whole lines.
use Rattle.std.specs.Prelude.{◌≡◌, ℕ, List, [], ◌∷◌, ◌++◌, ◌⊎◌}
use Rattle.sop_model.specs.Faults.{line_feed}

-- the text consists of whole lines: it is empty, or it ends with the end of a line
abbrev pub AreLines : List ℕ → Type 0
AreLines text = (text ≡ []) ⊎ ((front : List ℕ) × (text ≡ front ++ line_feed ∷ []))
