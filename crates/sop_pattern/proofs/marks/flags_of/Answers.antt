use Rattle.std.proofs.Common.{ap, sym, ◌∙◌, arith, get_or, false}
use Rattle.std.proofs.lemmas.List.{drop_all}
use Rattle.std.proofs.lemmas.List.FromFn.{fill_by_all}
use Rattle.sop_model.specs.Geometry.{count_of}
use Rattle.sop_pattern.specs.Selection.{selected_after, selects}
use Rattle.sop_pattern.proofs.marks.flags_of.Goals as goal

pub returns : goal.returns
returns g c =
    let geo = g.V.GeoView.geo c.args.view.now in
    let flags = c.loop-word.flags.items in
    fill_by_all (selects geo c.args.class c.args.words.now) flags (count_of geo c.args.class) false c.loop-word.invariant.0
    (λ e lt. sym (ap (λ rest. selected_after geo c.args.class (get_or flags e false) rest e) (drop_all c.loop-word.word-index c.args.words.now (omega arith))) ∙ c.loop-word.invariant.1 e (omega arith))
