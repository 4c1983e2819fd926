use Rattle.std.proofs.Common.{◌∙◌}
use Rattle.geo_text.specs.ObjScan.{words_here}
use Rattle.geo_text.proofs.ObjVectors.{texture_words}
use Rattle.geo_text.proofs.vectors.texture_in.Goals as goal

pub returns : goal.returns
returns c =
    let y = c.next_or_zero.result in
    let z = c.next_or_zero-2.result in
    c.vector_in.ensures
    ∙ texture_words (words_here c.args.words.now) c.in_ok-x.x.now (words_here c.in_ok-x.rest.now) y.0.now (words_here y.1.now) z.0.now (words_here z.1.now)
    c.in_ok-x.ensures.words c.next_or_zero.ensures c.next_or_zero-2.ensures
