use Rattle.std.proofs.Common.{◌≡◌, ◌++◌, ◌∷◌, [], length, take, ap, rules, ◌∙◌}
use Rattle.std.specs.Prelude.{unwrap_or}
use Rattle.sop_model.specs.Values.{zero_vector}
use Rattle.geo_text.proofs.ObjColumnLemmas.{point_pushed}
use Rattle.geo_text.proofs.columns.ObjColumnsObjTaker.take_point.Goals as goal

pub returns-clause-taken : goal.returns-clause-taken
returns-clause-taken c =
    let count : c.len-count.result ≡ length c.self.inside.places.items = search rules in
    rw (← c.self.view_is)
    (point_pushed _ c.args.place c.args.colour c.push.new.self.items c.put_colour.new.colours.items c.self.invariant c.in_ok-push.ensures.items
    (λ t. c.in_ok-put_colour.ensures.ok t ∙ ap (λ n. take n c.self.inside.colours.items ++ unwrap_or c.args.colour zero_vector ∷ []) count))
