use Rattle.std.proofs.Common.{refl}
use Rattle.sop_pages.specs.Cells.{with_run}
use Rattle.sop_pages.proofs.MoveLemmas.{changed_alone}
use Rattle.sop_pages.proofs.store.PageStore.set_run.Goals as goal

pub returns-then-held-eq1 : goal.returns-then-held-eq1
returns-then-held-eq1 c =
    let is = changed_alone c.self.inside.pages _ _ _ c.in-Some.held.now _ (λ cells. with_run cells c.args.start c.args.run.now) c.self.view_is c.id.view_is c.in-Some.ensures.value c.if-held-eq1.true refl c.put_run.ensures in
    record { moves = is.moves; cells = is.here; single = λ _. refl; alone = is.alone; pages = is.pages; err = tt }
