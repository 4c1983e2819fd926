use Rattle.std.proofs.Common.{◌≡◌, ◌-◌, ◌∙◌, ap, sym, Ok, [], ◌∷◌, false, arith}
use Rattle.std.specs.List.{range_with_len}
use Rattle.sop_model.specs.Rows.{prim_added}
use Rattle.sop_model.specs.declared.fault.CookStop.TheVariants.{Memory}
use Rattle.sop_basic.specs.Line.{line_through}
use Rattle.sop_basic.specs.Making.{Makes}
use Rattle.sop_basic.specs.Shapes.{shape, prim_through}
use Rattle.sop_basic.proofs.MakingLemmas.{ended_as, untouched, makes_as}
use Rattle.sop_basic.proofs.ShapeLemmas.{through_points, through_room}
use Rattle.sop_basic.proofs.line.add_through.Goals as goal

pub returns-in_err-numbers : goal.returns-in_err-numbers
returns-in_err-numbers c = λ places there.
    ended_as c.from_residual.result Memory (Makes c.args.vault.now c.args.vault.now c.args.key (Ok (line_through places))) c.from_residual.ensures.1 (untouched c.args.vault.now c.args.key (shape places []) there)

pub add_prim-requires-clause-points : goal.add_prim-requires-clause-points
add_prim-requires-clause-points c =
    let all : c.args.count - 0 ≡ c.args.count = omega arith in
    through_points c.args.vault.now c.args.key c.args.count c.requires.points c.as_slice.result.now (c.as_slice.ensures.value ∙ c.in_ok-numbers.ensures ∙ ap (range_with_len 0) all) (c.requires.many c.requires.points.places c.requires.points.there)

pub add_prim-requires-clause-room : goal.add_prim-requires-clause-room
add_prim-requires-clause-room c =
    let all : c.args.count - 0 ≡ c.args.count = omega arith in
    through_room c.args.vault.now c.args.key c.args.count c.requires.points c.as_slice.result.now (c.as_slice.ensures.value ∙ c.in_ok-numbers.ensures ∙ ap (range_with_len 0) all) (c.requires.many c.requires.points.places c.requires.points.there) false

pub returns : goal.returns
returns c = λ places there.
    let all : c.args.count - 0 ≡ c.args.count = omega arith in
    let numbers = c.as_slice.ensures.value ∙ c.in_ok-numbers.ensures ∙ ap (range_with_len 0) (all ∙ sym (c.requires.many places there)) in
    makes_as c.args.vault.now c.add_prim.new.vault c.args.key (Ok (prim_added (shape places []) false c.as_slice.result.now)) (Ok (line_through places)) c.add_prim.result
    (ap (λ xs. Ok (shape places (prim_through false xs ∷ []))) numbers) (c.add_prim.ensures (shape places []) there)
