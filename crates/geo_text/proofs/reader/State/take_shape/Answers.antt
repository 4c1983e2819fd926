use Rattle.std.proofs.Common.{◌≡◌, ap, ◌∙◌, refl, Ok}
use Rattle.geo_text.specs.ObjScan.{words_here}
use Rattle.geo_text.specs.ObjTaking.{prim_taken}
use Rattle.geo_text.specs.ObjRun.{taking_seen}
use Rattle.geo_text.proofs.ObjReader.{shape_refused, no_shape, shape_taken, taking_more, empty_is, some_is}
use Rattle.geo_text.proofs.reader.State.take_shape.Goals as goal

pub returns-in-Err-clause-err : goal.returns-in-Err-clause-err
returns-in-Err-clause-err g c = λ line.
    shape_refused line c.args.totals.now c.args.self.now.so_far c.args.closed (words_here c.args.words.now) c.in-Err.fault (c.in-Err.ensures.err line)

pub returns-then-is_empty-clause-taken : goal.returns-then-is_empty-clause-taken
returns-then-is_empty-clause-taken g c = λ line.
    let vertices = c.read_vertices.new.vertices.items in
    let none = empty_is c.is_empty.result c.as_slice.result.now vertices c.is_empty.ensures c.if-is_empty.true c.as_slice.ensures.value in
    no_shape line (g.T.ObjTaker.attributes c.args.taker.now) c.args.totals.now c.args.self.now.so_far c.args.closed (words_here c.args.words.now) vertices
    (taking_seen (g.T.ObjTaker.taken c.args.taker.now) c.args.self.now.groups) (c.in_default.ensures.ok line) none

pub returns-clause-taken : goal.returns-clause-taken
returns-clause-taken g c = λ line.
    let vertices = c.read_vertices.new.vertices.items in
    let has = g.T.ObjTaker.attributes c.args.taker.now in
    let now = g.T.ObjTaker.attributes c.find.new.taker in
    let before = taking_seen (g.T.ObjTaker.taken c.args.taker.now) c.args.self.now.groups in
    let flags = c.find.new.self.flags.items in
    let some = some_is c.is_empty.result c.as_slice.result.now vertices c.is_empty.ensures c.if-is_empty.false c.as_slice.ensures.value in
    let taken : g.T.ObjTaker.taken c.take_prim.new.self ≡ prim_taken now c.args.closed vertices flags (g.T.ObjTaker.taken c.find.new.taker) =
    c.in_ok-take_prim.ensures.taken ∙ ap (λ l. prim_taken now c.args.closed l c.deref-2.result.now (g.T.ObjTaker.taken c.find.new.taker)) c.deref.ensures.value
    ∙ ap (λ l. prim_taken now c.args.closed vertices l (g.T.ObjTaker.taken c.find.new.taker)) c.deref-2.ensures.value in
    shape_taken line has c.args.totals.now c.args.self.now.so_far c.args.closed (words_here c.args.words.now) vertices before (c.in_default.ensures.ok line) some
    ∙ ap Ok (taking_more has now c.args.closed vertices before (record { geo = g.T.ObjTaker.taken c.find.new.taker; flags = flags }) (g.T.ObjTaker.taken c.take_prim.new.self) c.find.new.self
    c.in_ok-find.ensures.flags c.in_ok-find.ensures.attributes taken c.find.ensures.words c.in_ok-find.ensures.known refl)
