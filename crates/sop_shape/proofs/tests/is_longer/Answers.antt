use Rattle.std.proofs.Common.{◌<◌, ℕ, [], length}
use Rattle.std.proofs.lemmas.List.Elements.{All-nil, All-cons}
use Rattle.sop_shape.proofs.tests.is_longer.Goals as goal

pub with_vertices-requires-clause-prims : goal.with_vertices-requires-clause-prims
with_vertices-requires-clause-prims c =
    let P : ℕ × ℕ → Type 0 = λ a. a.0 < length c.args.other.now.closed in
    All-cons P (0, 1) [] c.requires.first (All-nil P)
