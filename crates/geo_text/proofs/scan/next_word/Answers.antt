use Rattle.std.proofs.Common.{◌∙◌, sym}
use Rattle.geo_text.proofs.ObjScanning.{word_here, no_word_here}
use Rattle.geo_text.proofs.scan.next_word.Goals as goal

pub returns-then-begins_word-clause-words : goal.returns-then-begins_word-clause-words
returns-then-begins_word-clause-words c =
    let text = c.skip_blanks-text.result.now in
    let front = c.split_at.ensures.front in
    let back = c.split_at.ensures.back in
    sym c.skip_blanks-text.ensures.words
    ∙ word_here text c.split_at.result.0.now c.split_at.result.1.now (rw (front, back) c.word_len.ensures.text) (rw front c.word_len.ensures.word) (rw back c.word_len.ensures.rest)
    (sym c.begins_word.ensures ∙ c.if-begins_word.true)

pub returns-else-begins_word-clause-words : goal.returns-else-begins_word-clause-words
returns-else-begins_word-clause-words c =
    let text = c.skip_blanks-text.result.now in
    let front = c.split_at.ensures.front in
    let back = c.split_at.ensures.back in
    sym c.skip_blanks-text.ensures.words
    ∙ no_word_here text c.split_at.result.0.now c.split_at.result.1.now (rw (front, back) c.word_len.ensures.text) (rw front c.word_len.ensures.word) (rw back c.word_len.ensures.rest)
    (sym c.begins_word.ensures ∙ c.if-begins_word.false) c.skip_blanks-text.ensures.start
