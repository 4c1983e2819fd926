use Rattle.std.proofs.Common.{◌++◌, ◌∷◌, [], not, filter, take, List, ℕ, ◌∙◌, ap, sym, append_assoc}
use Rattle.std.specs.List.{list_any}
use Rattle.std.specs.Str.{bytes_eq}
use Rattle.sop_tables.proofs.NamedLemmas.{filter_next, filter_skipped}
use Rattle.sop_tables.proofs.sets.add_groups.Goals as goal
use Rattle.sop_tables.proofs.sets.add_groups.Goals.{then-not-has_group+in_ok-copy+in_ok-add, else-not-has_group}

pub loop-name-preserved : goal.loop-name-preserved
loop-name-preserved c =
    let same = ap (λ (name : List ℕ). list_any (λ k. bytes_eq k name) c.args.first.now) (sym c.as_str.ensures) ∙ sym c.has_group.ensures in
    let test = (λ (name : List ℕ). not (list_any (λ k. bytes_eq k name) c.args.first.now)) in
    elim c.if-not-has_group.branch [
      | then-not-has_group+in_ok-copy+in_ok-add w ↦
          w.into-is ∙ w.in_ok-add.ensures.ok ∙ (λ j. c.loop-name.invariant j ++ w.in_ok-copy.ensures j ∷ []) ∙ append_assoc c.args.into.now (filter test (take c.loop-name.name-index c.args.more.now)) (c.name-item.result ∷ [])
          ∙ ap (λ more. c.args.into.now ++ more) (sym (filter_next test c.args.more.now c.loop-name.name-index c.name-item.result c.loop-name-test.true c.name-item.is (ap not (same ∙ w.if-not-has_group.true))))
      | else-not-has_group w ↦
          w.into-is ∙ c.loop-name.invariant
          ∙ ap (λ more. c.args.into.now ++ more) (sym (filter_skipped test c.args.more.now c.loop-name.name-index c.name-item.result c.loop-name-test.true c.name-item.is (ap not (same ∙ w.if-not-has_group.false))))
    ]
