use Rattle.std.proofs.Common.{refl}
use Rattle.sop_model.specs.Sweep.{is_marked}
use Rattle.sop_shape.proofs.CountLemmas.{places_more}
use Rattle.sop_shape.proofs.lists.set_places.Goals as goal

pub loop-place-preserved : goal.loop-place-preserved
loop-place-preserved c = places_more (is_marked c.args.flags.now) c.loop-place.place (is_marked c.args.flags.now c.loop-place.place) c.loop-place.places.items c.push_if.new.numbers.items refl c.loop-place.invariant c.in_ok-push_if.ensures
