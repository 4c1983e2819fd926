use Rattle.std.proofs.Common.{◌≡◌, take}
use Rattle.sop_model.specs.Geometry.{heads_of}
use Rattle.sop_tables.proofs.loaded.heads_in.Given as goal

abbrev pub invariant-loop-head : goal.invariant-loop-head
invariant-loop-head g l = l.heads ≡ take l.head (heads_of (g.V.GeoView.geo l.view) l.class).heads
