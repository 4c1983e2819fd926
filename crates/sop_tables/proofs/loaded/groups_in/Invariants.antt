use Rattle.std.proofs.Common.{◌≡◌, take}
use Rattle.sop_model.specs.Geometry.{heads_of}
use Rattle.sop_tables.proofs.loaded.groups_in.Given as goal

abbrev pub invariant-loop-group : goal.invariant-loop-group
invariant-loop-group g l = l.groups ≡ take l.group (heads_of (g.V.GeoView.geo l.view) l.class).groups
