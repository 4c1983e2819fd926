use Rattle.std.proofs.Common.{◌≡◌, Some, Ok, refl, subst, arith}
use Rattle.sop_vault.specs.Vaults.{Changed}
use Rattle.sop_basic.specs.Making.{Makes}
use Rattle.sop_basic.specs.Shapes.{shape, closed_prims}
use Rattle.sop_basic.proofs.MakingLemmas.{ended_as}
use Rattle.sop_basic.proofs.QuadLemmas.{quads_none, quads_live, quad_points, quad_room, quads_more, quads_stopped}
use Rattle.sop_basic.proofs.quads.add_quads.Goals as goal

pub loop-i-init : goal.loop-i-init
loop-i-init g c = quads_none (g.Q.Quads.corners c.args.quads.now) c.args.vault.now c.args.key

pub add_prim-requires-clause-live : goal.add_prim-requires-clause-live
add_prim-requires-clause-live g c = quads_live (g.Q.Quads.corners c.args.quads.now) c.args.vault.now c.loop-i.vault c.args.key c.loop-i.i c.requires.points c.loop-i.invariant

pub add_prim-requires-clause-points : goal.add_prim-requires-clause-points
add_prim-requires-clause-points g c =
    quad_points (g.Q.Quads.corners c.args.quads.now) c.args.vault.now c.loop-i.vault c.args.key c.loop-i.i c.requires.points c.loop-i.invariant _ c.quad.ensures
    (c.requires.within c.requires.points.places c.requires.points.there c.loop-i.i (let lt = c.loop-i-test.true in omega arith))

pub add_prim-requires-clause-room : goal.add_prim-requires-clause-room
add_prim-requires-clause-room g c =
    quad_room (g.Q.Quads.corners c.args.quads.now) c.args.vault.now c.loop-i.vault c.args.key c.loop-i.i c.requires.points c.loop-i.invariant c.requires.four (let lt = c.loop-i-test.true in let few = c.requires.few in omega arith) _ c.quad.ensures

pub returns-in_err-add_prim : goal.returns-in_err-add_prim
returns-in_err-add_prim g c = λ places there.
    let corners = g.Q.Quads.corners c.args.quads.now in
    ended_as c.from_residual.result c.in_err-add_prim.field-0.0 (Makes c.args.vault.now c.add_prim.new.vault c.args.key (Ok (shape places (closed_prims corners c.args.count)))) c.from_residual.ensures.1
    (quads_stopped corners c.args.vault.now c.loop-i.vault c.args.key c.loop-i.i c.requires.points c.loop-i.invariant c.add_prim.new.vault _ c.in_err-add_prim.field-0.0 (shape places (closed_prims corners c.args.count)) c.in_err-add_prim.ensures)

pub loop-i-preserved : goal.loop-i-preserved
loop-i-preserved g c =
    quads_more (g.Q.Quads.corners c.args.quads.now) c.args.vault.now c.loop-i.vault c.args.key c.loop-i.i c.requires.points c.loop-i.invariant c.add_prim.new.vault _ c.quad.ensures c.in_ok-add_prim.ensures

pub returns : goal.returns
returns g c = λ places there.
    let corners = g.Q.Quads.corners c.args.quads.now in
    let all : c.loop-i.i ≡ c.args.count = let no = c.loop-i-test.false in let k = c.loop-i.auto.i-end in omega arith in
    (shape places (closed_prims corners c.args.count), refl, subst (λ n. Changed c.args.vault.now c.loop-i.vault c.args.key (Some (shape places (closed_prims corners n)))) all (c.loop-i.invariant places there))
