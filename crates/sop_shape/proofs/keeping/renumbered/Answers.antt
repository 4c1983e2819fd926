use Rattle.std.proofs.Common.{◌∙◌, ◌≤◌, ◌<◌, length, map, ap, sym, subst}
use Rattle.std.specs.Prelude.{All}
use Rattle.sop_model.specs.Sweep.{is_marked, how_many}
use Rattle.sop_model.specs.Rows.{picked}
use Rattle.sop_shape.proofs.LeftLemmas.{All-picked, counts_within, counts_read}
use Rattle.sop_shape.proofs.keeping.renumbered.Goals as goal

pub pick-requires-2 : goal.pick-requires-2
pick-requires-2 c =
    let flags = c.args.flags.now in
    let old = c.as_slice-2.ensures.value ∙ c.in_ok-old.ensures 0 in
    let within = subst (All (λ k. k ≤ length flags)) (sym old) (All-picked (λ k. k ≤ length flags) c.args.numbers.now c.args.places.now c.requires.places c.requires.numbers) in
    subst (λ xs. All (λ n. n < length xs) c.as_slice-2.result.now) (sym c.as_slice.ensures.value) (counts_within flags c.in_ok-counts.counts.items c.as_slice-2.result.now c.in_ok-counts.ensures within)

pub returns : goal.returns
returns c =
    let flags = c.args.flags.now in
    let old = c.as_slice-2.ensures.value ∙ c.in_ok-old.ensures 0 in
    let within = subst (All (λ k. k ≤ length flags)) (sym old) (All-picked (λ k. k ≤ length flags) c.args.numbers.now c.args.places.now c.requires.places c.requires.numbers) in
    counts_read flags c.in_ok-counts.counts.items c.as_slice-2.result.now c.in_ok-made.made.items c.in_ok-counts.ensures within (c.in_ok-made.ensures 0 ∙ ap (λ xs. picked xs 0 c.as_slice-2.result.now) c.as_slice.ensures.value)
    ∙ ap (map (how_many (is_marked flags))) old
