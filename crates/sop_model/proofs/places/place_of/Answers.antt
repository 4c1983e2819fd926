use Rattle.std.proofs.Common.{◌∙◌, ap, Some}
use Rattle.sop_model.specs.Values.{value_seen}
use Rattle.sop_model.specs.Places.{vector_in}
use Rattle.sop_model.proofs.PlacesLemmas.{place_is_vector, place_read}
use Rattle.sop_model.proofs.places.place_of.Goals as goal

pub unreachable-requires : goal.unreachable-requires
unreachable-requires g c =
    place_is_vector (g.V.GeoView.geo c.args.view.now) c.args.point c.value.result c.requires.readable c.requires.in_range c.value.ensures c.in_default.not-Vector

pub returns : goal.returns
returns g c =
    place_read (g.V.GeoView.geo c.args.view.now) c.args.point (value_seen c.value.result) c.value.ensures ∙ ap (λ r. Some (vector_in (Some (value_seen r)))) c.in-Vector.is
