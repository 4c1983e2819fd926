use Rattle.std.proofs.Common.{◌+◌, ◌≤◌, take, vec_len, vec_capacity}
use Rattle.sop_model.specs.Geometry.{heads_of, count_of}
use Rattle.sop_tables.specs.Changes.{AreNewColumns}
use Rattle.sop_tables.specs.Loaded.{columns_of}
use Rattle.sop_tables.proofs.loaded.columns_in.Given as goal

abbrev pub invariant-loop-head : goal.invariant-loop-head
invariant-loop-head g l = record {
  room : vec_len l.made + l.heads ≤ vec_capacity l.made + l.head;
  made : AreNewColumns l.initial.shelf l.shelf l.initial.names l.names (count_of (g.V.GeoView.geo l.view) l.class) (take l.head (heads_of (g.V.GeoView.geo l.view) l.class).heads)
      (columns_of (g.V.GeoView.geo l.view) l.class l.head) l.made.items;
}
