use Rattle.std.proofs.Common.{◌≡◌, ◌∙◌, ◌+◌, ◌-◌, ◌%◌, [], List, length, take, set, get_or, ap, sym, subst, arith}
use Rattle.std.proofs.lemmas.List.{get_or_default}
use Rattle.sop_pages.specs.declared.cell.Cell.{Cell}
use Rattle.sop_cells.specs.Shelves.{joined, IsPaged}
use Rattle.sop_cells.proofs.CutLemmas.{keep_within, kept_cells, kept_paged}
use Rattle.sop_cells.proofs.cells.shorten_last.Goals as goal
use Rattle.sop_cells.proofs.cells.shorten_last.Goals.{After-index_mut, After-shorten}

long : (c : After-index_mut) → length c.args.pages.now.items ≡ c.len-count.result - 1 + 1
long c = let l = c.args.pages.now.ok.0 in let n = c.if-count-eq0.false in let m = c.len-count.ensures in omega arith

page : (c : After-index_mut) → c.index_mut.result.now ≡ get_or c.args.pages.now.items (c.len-count.result - 1) []
page c = c.index_mut.ensures.value ∙ get_or_default c.args.pages.now.items (c.len-count.result - 1) _ [] (let l = long c in omega arith)

pub shorten-requires-clause-within : goal.shorten-requires-clause-within
shorten-requires-clause-within c =
    let w = (goal.at.shorten-requires-clause-within c).After-index_mut in let q = ap (λ (cs : List Cell). length cs) (page w) in
    let k = keep_within c.args.pages.now.items (c.len-count.result - 1) c.args.len c.requires.paged (long w) c.requires.tight c.requires.within in omega arith

after : (c : After-shorten) (same : c.index_mut.result.now ≡ get_or c.args.pages.now.items (c.len-count.result - 1) []) → c.shorten.new.self ≡ take ((c.args.len - 1) % 1024 + 1) (get_or c.args.pages.now.items (c.len-count.result - 1) [])
after c same = c.shorten.ensures ∙ ap (take ((c.args.len - 1) % 1024 + 1)) same

pub returns-clause-cells : goal.returns-clause-cells
returns-clause-cells c =
    let w = (goal.at.returns-clause-cells c).After-index_mut in
    ap (λ (b : List Cell). joined (set c.args.pages.now.items (c.len-count.result - 1) b)) (after (goal.at.returns-clause-cells c).After-shorten (page w))
    ∙ kept_cells c.args.pages.now.items (c.len-count.result - 1) c.args.len c.requires.paged (long w) c.requires.tight c.requires.within

pub returns-clause-paged : goal.returns-clause-paged
returns-clause-paged c =
    let w = (goal.at.returns-clause-paged c).After-index_mut in
    subst (λ (b : List Cell). IsPaged (set c.args.pages.now.items (c.len-count.result - 1) b)) (sym (after (goal.at.returns-clause-paged c).After-shorten (page w)))
    (kept_paged c.args.pages.now.items (c.len-count.result - 1) c.args.len c.requires.paged (long w) c.requires.tight c.requires.within)
