use Rattle.std.proofs.Common.{◌≡◌, ◌+◌, ◌-◌, get_or, refl, subst, arith}
use Rattle.sop_shape.proofs.OrderLemmas.{IsInverting, number_within, inverting_more, inverted}
use Rattle.sop_shape.proofs.lists.places_in.Goals as goal

pub index_mut-requires : goal.index_mut-requires
index_mut-requires c =
    let perm = c.args.perm.now in
    let within = c.loop-left.invariant.within in
    let small = number_within perm c.requires.order (c.loop-left.left - 1) 0 (omega arith) in
    omega (arith, c.loop-left.invariant.long, c.loop-left.places.ok.0)

pub loop-left-preserved : goal.loop-left-preserved
loop-left-preserved c =
    let perm = c.args.perm.now in
    let within = c.loop-left.invariant.within in
    let k = c.loop-left.left - 1 in
    let same : c.loop-left.left ≡ k + 1 = omega arith in
    inverting_more perm c.requires.order k (get_or perm k 0) c.loop-left.places.items _ (omega arith) refl refl (subst (λ n. IsInverting perm n c.loop-left.places.items) same c.loop-left.invariant)

pub returns-clause-each : goal.returns-clause-each
returns-clause-each c =
    let perm = c.args.perm.now in
    let none : c.loop-left.left ≡ 0 = omega arith in
    inverted perm c.requires.order c.loop-left.places.items (subst (λ n. IsInverting perm n c.loop-left.places.items) none c.loop-left.invariant)
