use Rattle.std.proofs.Common.{◌≡◌, ◌∙◌, get_or}
use Rattle.std.specs.Prelude.{None}
use Rattle.std.proofs.lemmas.List.{get_or_read}
use Rattle.sop_columns.proofs.BitLemmas.{hold_bits, hold_room, hold_more}
use Rattle.sop_columns.proofs.bit_column.hold_blocks.Goals as goal
use Rattle.sop_columns.proofs.bit_column.hold_blocks.Goals.{After-hold_block-arg-in-loop-block-1}

at : (c : After-hold_block-arg-in-loop-block-1) → c.block-item.result ≡ get_or c.args.blocks.now c.loop-block.block-index None
at c = get_or_read c.args.blocks.now c.loop-block.block-index c.block-item.result c.loop-block-test.true c.block-item.is None

pub hold_block-requires-clause-bits : goal.hold_block-requires-clause-bits
hold_block-requires-clause-bits c = hold_bits c.args.blocks.now c.loop-block.block-index _ c.loop-block-test.true (at c) c.args.shelf.now c.loop-block.shelf c.requires.bits c.loop-block.invariant.shifts

pub hold_block-requires-clause-room : goal.hold_block-requires-clause-room
hold_block-requires-clause-room c = hold_room c.args.blocks.now c.loop-block.block-index _ c.loop-block-test.true (at c) c.args.shelf.now c.loop-block.shelf c.requires.bits _ c.loop-block.invariant.shifts c.requires.room

pub loop-block-preserved : goal.loop-block-preserved
loop-block-preserved c = record {
  shifts = hold_more c.args.blocks.now c.loop-block.block-index _ c.loop-block-test.true (at (goal.at.loop-block-preserved c).After-hold_block-arg-in-loop-block-1) c.args.shelf.now c.loop-block.shelf c.requires.bits _ c.loop-block.invariant.shifts c.hold_block.ensures.shifts;
  pages = c.hold_block.ensures.pages ∙ c.loop-block.invariant.pages;
}
