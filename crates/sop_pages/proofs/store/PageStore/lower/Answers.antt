use Rattle.std.proofs.Common.{◌≡◌, ◌-◌, ℕ, ap, arith}
use Rattle.std.specs.Prelude.{Some}
use Rattle.sop_pages.specs.Pages.{page_at, count, count_of}
use Rattle.sop_pages.proofs.StoreLemmas.{found, wrote, wrote_live}
use Rattle.sop_pages.proofs.MoveLemmas.{lower_moves}
use Rattle.sop_pages.proofs.store.PageStore.lower.Goals as goal

pub returns-clause-moves : goal.returns-clause-moves
returns-clause-moves c =
    let n : ℕ = c.in-Some.held.now.count in
    let there : Some (c.in-Some.held.now.page, n) ≡ page_at c.args.self.now c.args.id = found c.self.inside.pages _ _ _ (Some c.in-Some.held.now) c.self.view_is c.id.view_is c.in-Some.ensures.value in
    let counted : n ≡ count c.args.self.now c.args.id = ap count_of there in
    let shared = c.requires in
    lower_moves c.args.self.now _ c.args.id _ n (n - 1) there (omega arith)
    (wrote c.self.inside.pages _ _ _ _ _ c.self.view_is c.id.view_is c.in-Some.ensures.value)

pub returns-clause-pages : goal.returns-clause-pages
returns-clause-pages c = wrote_live c.self.inside.pages _ _ _ _ c.self.view_is c.in-Some.ensures.value
