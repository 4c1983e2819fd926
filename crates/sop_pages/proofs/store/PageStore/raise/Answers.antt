use Rattle.std.specs.Prelude.{Some}
use Rattle.sop_pages.proofs.StoreLemmas.{found, wrote, wrote_live}
use Rattle.sop_pages.proofs.MoveLemmas.{share_moves}
use Rattle.sop_pages.proofs.store.PageStore.raise.Goals as goal

pub returns-clause-moves : goal.returns-clause-moves
returns-clause-moves c =
    share_moves c.args.self.now _ c.args.id _ c.in-Some.held.now.count
    (found c.self.inside.pages _ _ _ (Some c.in-Some.held.now) c.self.view_is c.id.view_is c.in-Some.ensures.value)
    (wrote c.self.inside.pages _ _ _ _ _ c.self.view_is c.id.view_is c.in-Some.ensures.value)

pub returns-clause-pages : goal.returns-clause-pages
returns-clause-pages c = wrote_live c.self.inside.pages _ _ _ _ c.self.view_is c.in-Some.ensures.value
