use Rattle.sop_pattern.proofs.Names.{IsUtf8-wild}
use Rattle.sop_pattern.proofs.named.text_of.Goals as goal

pub unreachable-requires : goal.unreachable-requires
unreachable-requires c = c.in-Err.ensures.cases.0 (IsUtf8-wild c.args.word.now c.requires)
