use Rattle.std.proofs.Common.{rules, tests}
use Rattle.std.specs.Ordering.{is_lt}
use Rattle.std.proofs.lemmas.List.Sorted.{IsPartitionPoint-from_clause}
use Rattle.sop_nearest.specs.declared.cells.Spot.{Spot}
use Rattle.sop_nearest.specs.Cells.{cell_cmp}
use Rattle.sop_nearest.proofs.Grid.{cells_parted, take_until}
use Rattle.sop_nearest.proofs.cells.until.Goals as goal

pub returns : goal.returns
returns c =
    take_until (λ s. is_lt (cell_cmp s.cell c.args.end)) c.args.spots.now c.partition_point.result
    (IsPartitionPoint-from_clause (λ (s : Spot). is_lt (cell_cmp s.cell c.args.end)) c.args.spots.now c.partition_point.result c.partition_point.ensures.partitioned (cells_parted c.args.spots.now c.args.end c.requires) (λ a r q k. search (rules, tests)))
