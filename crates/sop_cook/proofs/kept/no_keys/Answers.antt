use Rattle.std.proofs.Common.{◌≡◌, sym, subst, arith}
use Rattle.sop_cook.specs.Parts.{AreNone}
use Rattle.sop_cook.proofs.KeptLemmas.{AreNone-nil, AreNone-push}
use Rattle.sop_cook.proofs.kept.no_keys.Goals as goal

pub loop-init : goal.loop-init
loop-init c = subst (λ places. AreNone 0 places) (sym c.in_ok-places.ensures.items) AreNone-nil

pub loop-preserved : goal.loop-preserved
loop-preserved c = AreNone-push c.loop.counter c.loop.places.items c.push.new.self.items c.loop.invariant c.in_ok-push.ensures.items

pub returns : goal.returns
returns c =
    let test = c.loop-test.false in
    let ends = c.loop.auto.counter-end in
    let all : c.loop.counter ≡ c.args.count = omega (arith, test, ends) in
    subst (λ n. AreNone n c.loop.places.items) all c.loop.invariant
