use Rattle.std.proofs.Common.{◌+◌, ◌∷◌, [], not, filter, length, take, List, ℕ, ◌∙◌, ap, sym, length-append, arith}
use Rattle.std.specs.List.{list_any}
use Rattle.std.specs.Str.{bytes_eq}
use Rattle.sop_tables.proofs.NamedLemmas.{filter_next, filter_skipped}
use Rattle.sop_tables.proofs.sets.count_groups.Goals as goal
use Rattle.sop_tables.proofs.sets.count_groups.Goals.{then-not-has_group, else-not-has_group}

pub overflow_add-count : goal.overflow_add-count
overflow_add-count c = let f = c.loop-name.invariant.few in let t = c.loop-name-test.true in let e = c.loop-name.auto.name-index-end in omega arith

pub loop-name-preserved : goal.loop-name-preserved
loop-name-preserved c =
    let same = ap (λ (name : List ℕ). list_any (λ k. bytes_eq k name) c.args.first.now) (sym c.as_str.ensures) ∙ sym c.has_group.ensures in
    let test = (λ (name : List ℕ). not (list_any (λ k. bytes_eq k name) c.args.first.now)) in
    let so_far = filter test (take c.loop-name.name-index c.args.more.now) in
    let few = c.loop-name.invariant.few in let was = c.loop-name.invariant.is in
    elim c.if-not-has_group.branch [
      | then-not-has_group w ↦
          let more = ap length (filter_next test c.args.more.now c.loop-name.name-index c.name-item.result c.loop-name-test.true c.name-item.is (ap not (same ∙ w.if-not-has_group.true))) in
          let long = length-append so_far (c.name-item.result ∷ []) in let now = w.count-is in
          record { is = now ∙ ap (λ (k : ℕ). k + 1) was ∙ sym (more ∙ long); few = omega arith }
      | else-not-has_group w ↦
          let more = ap length (filter_skipped test c.args.more.now c.loop-name.name-index c.name-item.result c.loop-name-test.true c.name-item.is (ap not (same ∙ w.if-not-has_group.false))) in let now = w.count-is in
          record { is = now ∙ was ∙ sym more; few = omega arith }
    ]
