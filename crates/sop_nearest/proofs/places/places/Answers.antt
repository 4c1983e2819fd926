use Rattle.sop_model.specs.Places.{places_of}
use Rattle.sop_nearest.proofs.Reading.{places_more}
use Rattle.sop_nearest.proofs.places.places.Goals as goal

pub loop-point-preserved : goal.loop-point-preserved
loop-point-preserved g c = places_more (places_of (g.V.GeoView.geo c.args.view.now)) c.loop-point.point c.place_of.result c.loop-point.places.items c.push.new.self.items c.place_of.ensures c.loop-point.invariant c.in_ok-push.ensures.items
