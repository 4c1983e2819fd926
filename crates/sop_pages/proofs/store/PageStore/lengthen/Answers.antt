use Rattle.std.proofs.Common.{refl}
use Rattle.std.specs.Prelude.{◌++◌}
use Rattle.sop_pages.proofs.MoveLemmas.{changed_alone}
use Rattle.sop_pages.proofs.store.PageStore.lengthen.Goals as goal

pub returns-then-held-eq1 : goal.returns-then-held-eq1
returns-then-held-eq1 c =
    let is = changed_alone c.self.inside.pages _ _ _ c.in-Some.held.now _ (λ cells. cells ++ c.args.more.now) c.self.view_is c.id.view_is c.in-Some.ensures.value c.if-held-eq1.true refl c.in_ok-lengthen.ensures.cells in
    record { moves = is.moves; cells = is.here; single = λ _. refl; alone = is.alone; pages = is.pages; err = tt }
