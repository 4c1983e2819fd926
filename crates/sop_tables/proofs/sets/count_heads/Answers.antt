use Rattle.std.proofs.Common.{◌+◌, ◌∷◌, [], not, filter, length, take, List, ℕ, ◌∙◌, ap, sym, length-append, arith}
use Rattle.std.specs.List.{list_any}
use Rattle.std.specs.Str.{bytes_eq}
use Rattle.sop_model.specs.declared.geo.Head.{Head}
use Rattle.sop_tables.proofs.NamedLemmas.{filter_next, filter_skipped}
use Rattle.sop_tables.proofs.sets.count_heads.Goals as goal
use Rattle.sop_tables.proofs.sets.count_heads.Goals.{then-not-has_head, else-not-has_head}

pub overflow_add-count : goal.overflow_add-count
overflow_add-count c = let f = c.loop-head.invariant.few in let t = c.loop-head-test.true in let e = c.loop-head.auto.head-index-end in omega arith

pub loop-head-preserved : goal.loop-head-preserved
loop-head-preserved c =
    let same = ap (λ (name : List ℕ). list_any (λ (k : Head). bytes_eq k.name name) c.args.first.now) (sym c.as_str.ensures) ∙ sym c.has_head.ensures in
    let test = (λ (h : Head). not (list_any (λ k. bytes_eq k.name h.name) c.args.first.now)) in
    let so_far = filter test (take c.loop-head.head-index c.args.more.now) in
    let few = c.loop-head.invariant.few in let was = c.loop-head.invariant.is in
    elim c.if-not-has_head.branch [
      | then-not-has_head w ↦
          let more = ap length (filter_next test c.args.more.now c.loop-head.head-index c.head-item.result c.loop-head-test.true c.head-item.is (ap not (same ∙ w.if-not-has_head.true))) in
          let long = length-append so_far (c.head-item.result ∷ []) in let now = w.count-is in
          record { is = now ∙ ap (λ (k : ℕ). k + 1) was ∙ sym (more ∙ long); few = omega arith }
      | else-not-has_head w ↦
          let more = ap length (filter_skipped test c.args.more.now c.loop-head.head-index c.head-item.result c.loop-head-test.true c.head-item.is (ap not (same ∙ w.if-not-has_head.false))) in let now = w.count-is in
          record { is = now ∙ was ∙ sym more; few = omega arith }
    ]
