use Rattle.sop_pages.proofs.StoreLemmas.{live_is_a_page}
use Rattle.sop_pages.proofs.store.PageStore.each_is_a_page.Goals as goal

pub returns : goal.returns
returns c = live_is_a_page c.self.inside.pages _ c.self.view_is c.self.invariant
