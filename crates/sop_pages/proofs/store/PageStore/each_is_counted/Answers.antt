use Rattle.sop_pages.proofs.StoreLemmas.{each_counted}
use Rattle.sop_pages.proofs.store.PageStore.each_is_counted.Goals as goal

pub returns : goal.returns
returns c = each_counted c.self.inside.pages _ c.self.view_is c.self.invariant
