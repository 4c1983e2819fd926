use Rattle.std.proofs.Common.{◌∙◌, ℕ, ap, sym, subst, arith, length}
use Rattle.std.specs.Prelude.{IsPermutation, List}
use Rattle.std.specs.List.{range_with_len}
use Rattle.std.proofs.lemmas.List.FromFn.{length-range_with_len}
use Rattle.std.proofs.lemmas.List.Sorted.{IsPermutation-refl, IsPermutation-swap, IsPermutation-trans, length_permutation}
use Rattle.sop_bench.proofs.vaults.random_order.Goals as goal

pub loop-place-init : goal.loop-place-init
loop-place-init c =
    let all = range_with_len 0 c.args.count in
    record {
      order = subst (IsPermutation all) (sym c.in_ok-order.ensures) (IsPermutation-refl all);
      many = ap (λ (numbers : List ℕ). length numbers) c.in_ok-order.ensures ∙ length-range_with_len 0 c.args.count;
    }

pub loop-place-preserved : goal.loop-place-preserved
loop-place-preserved c =
    let old = c.loop-place.order.items in
    let new = c.swap.new.self.items in
    let swapped = IsPermutation-swap old new c.loop-place.place c.index_below.result (omega arith) (omega arith) c.swap.ensures.items in
    record {
      order = IsPermutation-trans (range_with_len 0 c.args.count) old new c.loop-place.invariant.order swapped;
      many = length_permutation old new swapped ∙ c.loop-place.invariant.many;
    }
