use Rattle.std.proofs.Common.{◌≡◌, ◌-◌, length, ap, ◌∙◌}
use Rattle.std.specs.Prelude.{unwrap_or, slice_get}
use Rattle.geo_text.specs.ObjColumns.{last_end}
use Rattle.geo_text.proofs.ObjColumnLemmas.{last_end_read}
use Rattle.geo_text.proofs.columns.ObjColumns.vertex_count.Goals as goal

pub returns : goal.returns
returns c =
    let ends = c.self.inside.ends.items in
    let read : c.unwrap_or.result ≡ unwrap_or (slice_get ends (length ends - 1)) 0 = cc (c.deref.ensures.value, c.last.ensures.value) in
    read ∙ last_end_read ends ∙ ap (λ s. last_end 0 s.ends) c.self.view_is
