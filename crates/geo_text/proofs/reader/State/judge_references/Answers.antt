use Rattle.std.proofs.lemmas.Result.{on_ok_weaker, IfErr-weaker}
use Rattle.geo_text.specs.ObjScan.{words_here}
use Rattle.geo_text.proofs.ObjReader.{checked_taken, checked_refused}
use Rattle.geo_text.proofs.reader.State.judge_references.Goals as goal

pub returns-clause-taken : goal.returns-clause-taken
returns-clause-taken c =
    on_ok_weaker c.read_vertices.result
    (λ h line has t. checked_taken line has c.args.totals.now c.args.self.now.so_far (words_here c.args.words.now) c.read_vertices.new.vertices.items t (h line))
    c.read_vertices.ensures.ok

pub returns-clause-err : goal.returns-clause-err
returns-clause-err c =
    IfErr-weaker c.read_vertices.result _ _
    (λ f h line. checked_refused line c.args.totals.now c.args.self.now.so_far (words_here c.args.words.now) f (h line))
    c.read_vertices.ensures.err
