use Rattle.std.proofs.Common.{◌+◌, ◌≤◌, vec_len, vec_capacity}
use Rattle.sop_model.specs.Geometry.{count_of}
use Rattle.sop_tables.specs.Changes.{AreNewMembers}
use Rattle.sop_tables.specs.Loaded.{members_of}
use Rattle.sop_tables.proofs.loaded.members_in.Given as goal

abbrev pub invariant-loop-group : goal.invariant-loop-group
invariant-loop-group g l = record {
  room : vec_len l.made + l.groups ≤ vec_capacity l.made + l.group;
  made : AreNewMembers l.initial.shelf l.shelf (count_of (g.V.GeoView.geo l.view) l.class) l.group (members_of (g.V.GeoView.geo l.view) l.class l.group) l.made.items;
}
