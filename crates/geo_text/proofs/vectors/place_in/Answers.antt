use Rattle.geo_text.specs.ObjScan.{words_here}
use Rattle.geo_text.proofs.ObjVectors.{plain_place}
use Rattle.geo_text.proofs.vectors.place_in.Goals as goal

pub returns-in-None : goal.returns-in-None
returns-in-None c =
    let (x, y, z, words, says) = c.in-Some.ensures in
    plain_place (words_here c.args.words.now) x y z (words_here c.in-Some.rest.now) c.in-Some.place words c.in-None.ensures says
