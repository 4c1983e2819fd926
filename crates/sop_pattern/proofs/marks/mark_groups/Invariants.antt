use Rattle.std.proofs.Common.{◌≡◌, ℕ, ◌<◌, false, length, get_or, take}
use Rattle.sop_model.specs.Geometry.{heads_of}
use Rattle.sop_pattern.specs.Selection.{some_flag, flags_of}
use Rattle.sop_pattern.specs.Marks.{marked, names_group}
use Rattle.sop_pattern.proofs.marks.mark_groups.Given as goal

abbrev pub invariant-loop-group : goal.invariant-loop-group
invariant-loop-group g l = (e : ℕ) → e < length l.flags → get_or l.flags e false ≡ marked l.to (some_flag (names_group l.atom) (take l.group (heads_of (g.V.GeoView.geo l.view) l.class).groups) (flags_of (g.V.GeoView.geo l.view) l.class e)) (get_or l.initial.flags e false)
