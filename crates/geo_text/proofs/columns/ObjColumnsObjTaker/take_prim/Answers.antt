use Rattle.std.proofs.Common.{◌≡◌, ◌++◌, ◌∷◌, [], length, take, refl, ap, subst, sym, rules, arith, ◌∙◌}
use Rattle.geo_text.specs.declared.columns.Outline.{Outline}
use Rattle.geo_text.specs.ObjColumns.{columns_with, last_end, AreComplete}
use Rattle.geo_text.proofs.ObjColumnLemmas.{put_at, prim_pushed, filled_outline, filled_vertices, filled_prim}
use Rattle.geo_text.proofs.columns.ObjColumnsObjTaker.take_prim.Goals as goal

pub invariant_of-self-in_err-push-2 : goal.invariant_of-self-in_err-push-2
invariant_of-self-in_err-push-2 c =
    let i = c.self.inside in
    let o : Outline = record { closed = c.args.closed; known = c.len.result; flags = c.in_ok-from_slice.field-0 } in
    let start_is = c.vertex_count-start.ensures ∙ sym (ap (λ s. last_end 0 s.ends) c.self.view_is) in
    let places : c.len-2.result ≡ length i.ends.items = search rules in
    let os_is = c.in_ok-push.ensures.items ∙ ap (λ l. l ++ o ∷ []) (c.truncate.ensures.items ∙ ap (λ n. take n i.outlines.items) places) in
    let kept = filled_vertices _ c.put.new.self.refers.items c.put.new.self.textures.items c.put.new.self.normals.items c.self.invariant
    (omega (arith, start_is, c.in_ok-put.ensures.points_stay)) (λ t. omega (arith, start_is, c.in_ok-put.ensures.textures_stay t)) (λ t. omega (arith, start_is, c.in_ok-put.ensures.normals_stay t)) in
    subst (λ es. AreComplete (columns_with i.attributes i.frame i.places.items i.colours.items es c.push.new.self.items c.put.new.self.refers.items c.put.new.self.textures.items c.put.new.self.normals.items)) (sym c.in_err-push-2.ensures.items)
    (filled_outline _ o c.push.new.self.items kept os_is c.len.ensures)

pub invariant_of-self-2 : goal.invariant_of-self-2
invariant_of-self-2 c =
    let i = c.self.inside in
    let o : Outline = record { closed = c.args.closed; known = c.len.result; flags = c.in_ok-from_slice.field-0 } in
    let start_is = c.vertex_count-start.ensures ∙ sym (ap (λ s. last_end 0 s.ends) c.self.view_is) in
    let places : c.len-2.result ≡ length i.ends.items = search rules in
    let os_is = c.in_ok-push.ensures.items ∙ ap (λ l. l ++ o ∷ []) (c.truncate.ensures.items ∙ ap (λ n. take n i.outlines.items) places) in
    let put = put_at i.attributes c.vertex_count-start.result (last_end 0 i.ends.items) c.args.vertices.now i.vertices.refers.items i.vertices.textures.items i.vertices.normals.items c.put.new.self.refers.items c.put.new.self.textures.items c.put.new.self.normals.items
    start_is c.in_ok-put.ensures.refers c.in_ok-put.ensures.textures c.in_ok-put.ensures.normals c.self.invariant.refers c.self.invariant.textures c.self.invariant.normals in
    filled_prim _ c.args.vertices.now o c.in-Ok.end c.push-2.new.self.items c.push.new.self.items c.put.new.self.refers.items c.put.new.self.textures.items c.put.new.self.normals.items c.self.invariant put
    c.in_ok-push-2.ensures.items os_is (omega (arith, start_is, c.in-Ok.ensures)) c.len.ensures

pub returns-clause-taken : goal.returns-clause-taken
returns-clause-taken c =
    let i = c.self.inside in
    let o : Outline = record { closed = c.args.closed; known = c.len.result; flags = c.in_ok-from_slice.field-0 } in
    let start_is = c.vertex_count-start.ensures ∙ sym (ap (λ s. last_end 0 s.ends) c.self.view_is) in
    let places : c.len-2.result ≡ length i.ends.items = search rules in
    let os_is = c.in_ok-push.ensures.items ∙ ap (λ l. l ++ o ∷ []) (c.truncate.ensures.items ∙ ap (λ n. take n i.outlines.items) places) in
    let put = put_at i.attributes c.vertex_count-start.result (last_end 0 i.ends.items) c.args.vertices.now i.vertices.refers.items i.vertices.textures.items i.vertices.normals.items c.put.new.self.refers.items c.put.new.self.textures.items c.put.new.self.normals.items
    start_is c.in_ok-put.ensures.refers c.in_ok-put.ensures.textures c.in_ok-put.ensures.normals c.self.invariant.refers c.self.invariant.textures c.self.invariant.normals in
    rw (← c.self.view_is)
    (prim_pushed _ c.args.closed c.args.groups.now c.args.vertices.now o c.in-Ok.end c.push-2.new.self.items c.push.new.self.items c.put.new.self.refers.items c.put.new.self.textures.items c.put.new.self.normals.items c.self.invariant put
    c.in_ok-push-2.ensures.items os_is (omega (arith, start_is, c.in-Ok.ensures)) refl c.len.ensures c.in_ok-from_slice.ensures.items)
