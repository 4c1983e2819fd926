use Rattle.std.proofs.Common.{sym, ◌∙◌}
use Rattle.sop_pattern.proofs.Names.{names_are_plain}
use Rattle.sop_pattern.proofs.named.read_named.Goals as goal

pub text_of-requires : goal.text_of-requires
text_of-requires c = names_are_plain c.args.word.now (sym c.is_name.ensures ∙ c.if-is_name.true)
