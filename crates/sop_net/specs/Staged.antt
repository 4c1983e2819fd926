-- Texts that are staged for the parameters of a node, and are then set without taking memory.
use Rattle.std.specs.Prelude.{ℕ, List, [], ◌∷◌, Option, None, Some}

-- texts, with those that are staged in their places
abbrev pub staged_over : List (List ℕ) → List (Option (List ℕ)) → List (List ℕ)
staged_over [] staged = []
staged_over (text ∷ texts) [] = text ∷ texts
staged_over (text ∷ texts) (None ∷ staged) = text ∷ staged_over texts staged
staged_over (text ∷ texts) (Some new ∷ staged) = new ∷ staged_over texts staged
