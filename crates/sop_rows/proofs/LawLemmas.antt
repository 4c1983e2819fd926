-- The laws of what calls do to a geometry, each put together from the calls.
use Rattle.sop_rows.specs.Laws.{MergesInTurn, LeaveSound, LeaveGood, LeaveWithin, LeaveValuesWithin, SweepsKeepRows, SweepsOnlyMarked}
use Rattle.sop_model.specs.Rows.{default_at, value_set, member_set, column_held, column_cleared, attr_added, attr_deleted, group_added, points_added, prim_added, vertices_added, reordered}
use Rattle.sop_model.specs.Geometry.{count_of}
use Rattle.std.specs.Prelude.{replicate}
use Rattle.sop_model.specs.Appending.{appended}
use Rattle.sop_model.specs.Sweep.{swept}
use Rattle.sop_rows.proofs.ValuesWithin.{AreShort-from_within, AreValuesWithin-from_short, AreShort-column_cleared, AreShort-value_set, AreShort-member_set, AreShort-column_held, AreShort-attr_added, AreShort-attr_deleted, AreShort-group_added, AreShort-points_added, AreShort-prim_added, AreShort-vertices_added, AreShort-swept, AreShort-reordered, AreShort-appended}
use Rattle.sop_rows.proofs.RowOps.{IsSound-value_set, IsGood-value_set, IsWithin-value_set, IsSound-member_set, IsGood-member_set, IsWithin-member_set, IsSound-column_held, IsGood-column_held, IsWithin-column_held, AreOfHead-default_at, IsSound-attr_added, IsGood-attr_added, IsWithin-attr_added, few-attr_added, IsSound-attr_deleted, IsGood-attr_deleted, IsWithin-attr_deleted, IsSound-group_added, IsGood-group_added, IsWithin-group_added, few-group_added}
use Rattle.sop_rows.proofs.ElementOps.{IsSound-points_added, IsGood-points_added, IsWithin-points_added, few-points_added, IsSound-prim_added, IsGood-prim_added, IsWithin-prim_added, few-prim_added}
use Rattle.sop_rows.proofs.VertexOps.{IsSound-vertices_added, IsGood-vertices_added, IsWithin-vertices_added, few-vertices_added}
use Rattle.sop_rows.proofs.OrderOps.{IsSound-reordered, IsGood-reordered, IsWithin-reordered}
use Rattle.sop_rows.proofs.MergeSound.{IsSound-appended, IsGood-appended}
use Rattle.sop_rows.proofs.AppendLemmas.{merged_in_turn}
use Rattle.sop_rows.proofs.AppendedParts.{IsWithin-appended, few-appended}
use Rattle.sop_rows.proofs.SweepLemmas.{rows_of-swept, IsGood-swept, IsWithin-swept, swept-unmarked}

pub merges_in_turn : MergesInTurn
merges_in_turn gs sound = merged_in_turn gs sound

pub leave_sound : LeaveSound
leave_sound = record {
  set = IsSound-value_set;
  set_member = IsSound-member_set;
  hold = IsSound-column_held;
  clear = λ g class head sound there. IsSound-column_held g class head (replicate (count_of g class) (default_at g class head)) sound (AreOfHead-default_at g class head there).kinds;
  add_attr = IsSound-attr_added;
  del_attr = IsSound-attr_deleted;
  add_group = IsSound-group_added;
  add_points = IsSound-points_added;
  add_prim = IsSound-prim_added;
  add_vertices = IsSound-vertices_added;
  reorder = IsSound-reordered;
  append = IsSound-appended;
}

pub leave_good : LeaveGood
leave_good = record {
  set = IsGood-value_set;
  set_member = IsGood-member_set;
  hold = IsGood-column_held;
  clear = λ g class head good there. IsGood-column_held g class head (replicate (count_of g class) (default_at g class head)) good (AreOfHead-default_at g class head there).kinds;
  add_attr = IsGood-attr_added;
  del_attr = IsGood-attr_deleted;
  add_group = IsGood-group_added;
  add_points = IsGood-points_added;
  add_prim = IsGood-prim_added;
  add_vertices = IsGood-vertices_added;
  keep = IsGood-swept;
  reorder = IsGood-reordered;
  append = IsGood-appended;
}

pub leave_within : LeaveWithin
leave_within = record {
  set = IsWithin-value_set;
  set_member = IsWithin-member_set;
  hold = IsWithin-column_held;
  add_attr = λ g class head within. (few-attr_added g class head, IsWithin-attr_added g class head within);
  del_attr = IsWithin-attr_deleted;
  add_group = λ g class name within. (few-group_added g class name, IsWithin-group_added g class name within);
  add_points = λ g n within. (few-points_added g n, IsWithin-points_added g n within);
  add_prim = λ g closed points within. (few-prim_added g closed points, λ few. IsWithin-prim_added g closed points within few.0 few.1);
  add_vertices = λ g adds within are. (λ after. few-vertices_added g adds after are, IsWithin-vertices_added g adds within are);
  keep = IsWithin-swept;
  reorder = IsWithin-reordered;
  append = λ a b one two. (few-appended a b one two, IsWithin-appended a b one two);
}

pub leave_values_within : LeaveValuesWithin
leave_values_within = record {
  set = λ g class head element v within is. AreValuesWithin-from_short (value_set g class head element v) (AreShort-value_set g class head element v (AreShort-from_within g within) is);
  set_member = λ g class group element on within. AreValuesWithin-from_short (member_set g class group element on) (AreShort-member_set g class group element on (AreShort-from_within g within));
  hold = λ g class head vs within all. AreValuesWithin-from_short (column_held g class head vs) (AreShort-column_held g class head vs (AreShort-from_within g within) all);
  clear = λ g class head within. AreValuesWithin-from_short (column_cleared g class head) (AreShort-column_cleared g class head (AreShort-from_within g within));
  add_attr = λ g class head within. AreValuesWithin-from_short (attr_added g class head) (AreShort-attr_added g class head (AreShort-from_within g within));
  del_attr = λ g class head within. AreValuesWithin-from_short (attr_deleted g class head) (AreShort-attr_deleted g class head (AreShort-from_within g within));
  add_group = λ g class name within. AreValuesWithin-from_short (group_added g class name) (AreShort-group_added g class name (AreShort-from_within g within));
  add_points = λ g n within. AreValuesWithin-from_short (points_added g n) (AreShort-points_added g n (AreShort-from_within g within));
  add_prim = λ g closed points within. AreValuesWithin-from_short (prim_added g closed points) (AreShort-prim_added g closed points (AreShort-from_within g within));
  add_vertices = λ g adds within. AreValuesWithin-from_short (vertices_added g adds) (AreShort-vertices_added g adds (AreShort-from_within g within));
  keep = λ g marks within. AreValuesWithin-from_short (swept g marks) (AreShort-swept g marks (AreShort-from_within g within));
  reorder = λ g class perm within is. AreValuesWithin-from_short (reordered g class perm) (AreShort-reordered g class perm (AreShort-from_within g within) is);
  append = λ a b one two within more. AreValuesWithin-from_short (appended a b) (AreShort-appended a b one two (AreShort-from_within a within) (AreShort-from_within b more));
}

pub sweeps_keep_rows : SweepsKeepRows
sweeps_keep_rows g marks class = rows_of-swept g marks class

pub sweeps_only_marked : SweepsOnlyMarked
sweeps_only_marked g marks none good = swept-unmarked g marks none good
