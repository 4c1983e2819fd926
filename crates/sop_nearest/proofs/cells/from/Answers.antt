use Rattle.std.proofs.Common.{rules, tests, subst, sym}
use Rattle.std.specs.Ordering.{is_lt}
use Rattle.std.specs.List.Sorted.{IsSortedBy}
use Rattle.std.proofs.lemmas.List.Sorted.{IsPartitionPoint-from_clause}
use Rattle.sop_nearest.specs.declared.cells.Spot.{Spot}
use Rattle.sop_nearest.specs.Cells.{cell_cmp}
use Rattle.sop_nearest.proofs.Ordered.{sorted_drop}
use Rattle.sop_nearest.proofs.Grid.{cells_parted, from_point, drop_rest}
use Rattle.sop_nearest.proofs.cells.from.Goals as goal

pub returns-clause-value : goal.returns-clause-value
returns-clause-value c =
    from_point (λ s. is_lt (cell_cmp s.cell c.args.low)) c.args.spots.now c.partition_point.result
    (IsPartitionPoint-from_clause (λ (s : Spot). is_lt (cell_cmp s.cell c.args.low)) c.args.spots.now c.partition_point.result c.partition_point.ensures.partitioned (cells_parted c.args.spots.now c.args.low c.requires) (λ a r q k. search (rules, tests)))

pub returns-clause-sorted : goal.returns-clause-sorted
returns-clause-sorted c =
    let lt = λ (a : Spot) (b : Spot). is_lt (cell_cmp a.cell b.cell) in
    subst (λ l. IsSortedBy lt l) (sym (drop_rest c.args.spots.now c.partition_point.result)) (sorted_drop lt c.partition_point.result c.args.spots.now c.requires)
