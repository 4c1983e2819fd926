use Rattle.std.proofs.Common.{◌≡◌, ℕ, ◌<◌, false, length, get_or, drop}
use Rattle.sop_model.specs.Geometry.{count_of}
use Rattle.sop_pattern.specs.Selection.{selected_after, selects}
use Rattle.sop_pattern.proofs.marks.flags_of.Given as goal

abbrev pub invariant-loop-word : goal.invariant-loop-word
invariant-loop-word g l = (length l.flags.items ≡ count_of (g.V.GeoView.geo l.view) l.class) × ((e : ℕ) → e < length l.flags.items → selected_after (g.V.GeoView.geo l.view) l.class (get_or l.flags.items e false) (drop l.word-index l.words) e ≡ selects (g.V.GeoView.geo l.view) l.class l.words e)
