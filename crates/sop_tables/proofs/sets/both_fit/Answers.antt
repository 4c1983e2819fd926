use Rattle.std.proofs.Common.{◌≡◌, ◌+◌, ◌++◌, ◌∙◌, List, ℕ, not, filter, length, ap, arith, length-append}
use Rattle.std.specs.List.{list_any}
use Rattle.std.specs.Str.{bytes_eq}
use Rattle.sop_model.specs.declared.geo.Head.{Head}
use Rattle.sop_rows.specs.Both.{more_heads, more_groups}
use Rattle.sop_tables.proofs.NamedLemmas.{le_true, true_le}
use Rattle.sop_tables.proofs.sets.both_fit.Goals as goal

pub overflow_add-heads : goal.overflow_add-heads
overflow_add-heads c =
    let a = c.len.ensures in let b = c.count_heads.ensures.few in let e = ap (λ (hs : List Head). length hs) c.as_slice-2.ensures in
    let f = c.requires.first.0 in let g = c.requires.second.0 in omega arith

pub overflow_add-groups : goal.overflow_add-groups
overflow_add-groups c =
    let a = c.len-2.ensures in let b = c.count_groups.ensures.few in let e = ap (λ (gs : List (List ℕ)). length gs) c.as_slice-4.ensures in
    let f = c.requires.first.1.0 in let g = c.requires.second.1.0 in omega arith

all_heads : (c : goal.After-count_groups) → c.len.result + c.count_heads.result ≡ length (c.args.first.now.heads ++ more_heads c.args.first.now c.args.second.now)
all_heads c =
    let is = c.count_heads.ensures.is ∙ (λ j. length (filter (λ (h : Head). not (list_any (λ (k : Head). bytes_eq k.name h.name) (c.as_slice.ensures j))) (c.as_slice-2.ensures j))) in
    let a = c.len.ensures in let b = length-append c.args.first.now.heads (more_heads c.args.first.now c.args.second.now) in omega arith

all_groups : (c : goal.After-count_groups) → c.len-2.result + c.count_groups.result ≡ length (c.args.first.now.groups ++ more_groups c.args.first.now c.args.second.now)
all_groups c =
    let is = c.count_groups.ensures.is ∙ (λ j. length (filter (λ (name : List ℕ). not (list_any (λ (k : List ℕ). bytes_eq k name) (c.as_slice-3.ensures j))) (c.as_slice-4.ensures j))) in
    let a = c.len-2.ensures in let b = length-append c.args.first.now.groups (more_groups c.args.first.now c.args.second.now) in omega arith

pub returns-then-heads-le-MOST_HEADS : goal.returns-then-heads-le-MOST_HEADS
returns-then-heads-le-MOST_HEADS c =
    let h = all_heads c.before in let g = all_groups c.before in let within = c.if-heads-le-MOST_HEADS.true in
    (λ t. ((omega arith), ((let u = true_le (c.len-2.result + c.count_groups.result) 256 t in omega arith), tt)), λ k. le_true (c.len-2.result + c.count_groups.result) 256 (let l = k.1.0 in omega arith))

pub returns-else-heads-le-MOST_HEADS : goal.returns-else-heads-le-MOST_HEADS
returns-else-heads-le-MOST_HEADS c =
    let h = all_heads c.before in let past = c.if-heads-le-MOST_HEADS.false in
    (λ t. absurd (let u = true_le (c.len.result + c.count_heads.result) 64 t in omega arith), λ k. absurd (let l = k.0 in omega arith))
