use Rattle.std.proofs.Common.{◌∙◌, ◌/◌, [], arith}
use Rattle.sop_columns.proofs.BitLemmas.{long_other, none_on}
use Rattle.sop_columns.proofs.bit_column.fresh.Goals as goal

pub returns-clause-others : goal.returns-clause-others
returns-clause-others c = λ i n.
    long_other [] _ c.args.j c.switched-word.result (c.args.j / 128) (c.in_ok-put_one.ensures.cells ∙ c.from_vec.ensures ∙ c.in_ok-words.ensures) (omega arith) c.switched-word.ensures.others i n
    ∙ none_on i
