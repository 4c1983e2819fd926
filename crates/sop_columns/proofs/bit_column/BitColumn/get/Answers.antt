use Rattle.std.proofs.Common.{◌/◌, ◌∙◌, sym}
use Rattle.sop_columns.proofs.BitLemmas.{block_here}
use Rattle.sop_columns.proofs.bit_column.BitColumn.get.Goals as goal

pub page_flag-requires : goal.page_flag-requires
page_flag-requires c = block_here _ c.args.self.now (c.args.k / 131072) _ c.requires (sym c.place_of.ensures ∙ c.in-Some.is)
