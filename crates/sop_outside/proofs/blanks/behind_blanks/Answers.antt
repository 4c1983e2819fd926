use Rattle.std.proofs.Common.{ap, sym, ◌∙◌, drop, subst}
use Rattle.sop_outside.specs.Blanks.{words_of, begins_filled}
use Rattle.sop_outside.proofs.BlankWords.{words_behind, filled_behind}
use Rattle.sop_outside.proofs.blanks.behind_blanks.Goals as goal

pub returns-clause-words : goal.returns-clause-words
returns-clause-words c = ap words_of (c.split_at.ensures.back ∙ ap (λ n. drop n c.args.text.now) c.blanks_len.ensures.value) ∙ words_behind c.args.text.now

pub returns-clause-filled : goal.returns-clause-filled
returns-clause-filled c = subst begins_filled (sym (c.split_at.ensures.back ∙ ap (λ n. drop n c.args.text.now) c.blanks_len.ensures.value)) (filled_behind c.args.text.now)
