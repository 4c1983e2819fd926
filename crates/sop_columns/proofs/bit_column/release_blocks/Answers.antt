use Rattle.std.proofs.Common.{◌≡◌, get_or, arith}
use Rattle.std.specs.Prelude.{None}
use Rattle.std.proofs.lemmas.List.{get_or_read}
use Rattle.sop_columns.proofs.BitLemmas.{release_bits, release_more}
use Rattle.sop_columns.proofs.bit_column.release_blocks.Goals as goal
use Rattle.sop_columns.proofs.bit_column.release_blocks.Goals.{After-release_block-arg-in-loop-block-1}

at : (c : After-release_block-arg-in-loop-block-1) → c.block-item.result ≡ get_or c.args.blocks.now c.loop-block.block-index None
at c = get_or_read c.args.blocks.now c.loop-block.block-index c.block-item.result c.loop-block-test.true c.block-item.is None

pub release_block-requires : goal.release_block-requires
release_block-requires c = record { bits = release_bits c.args.blocks.now c.loop-block.block-index _ c.loop-block-test.true (at c) c.args.shelf.now c.loop-block.shelf c.requires.bits c.loop-block.invariant.shifts }

pub loop-block-preserved : goal.loop-block-preserved
loop-block-preserved c = record {
  shifts = release_more c.args.blocks.now c.loop-block.block-index _ c.loop-block-test.true (at (goal.at.loop-block-preserved c).After-release_block-arg-in-loop-block-1) c.args.shelf.now c.loop-block.shelf c.requires.bits _ c.loop-block.invariant.shifts c.release_block.ensures.shifts;
  pages = let a = c.release_block.ensures.pages in let b = c.loop-block.invariant.pages in omega arith;
}
