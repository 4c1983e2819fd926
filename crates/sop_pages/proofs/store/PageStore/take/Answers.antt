use Rattle.std.proofs.Common.{◌∙◌, ◌+◌, ℕ, ap, sym}
use Rattle.sop_pages.specs.Pages.{live_pages}
use Rattle.sop_pages.proofs.StoreLemmas.{changes, live_len}
use Rattle.sop_pages.proofs.MoveLemmas.{remove_moves}
use Rattle.sop_pages.proofs.store.PageStore.take.Goals as goal

pub returns-clause-moves : goal.returns-clause-moves
returns-clause-moves c =
    remove_moves c.args.self.now _ c.args.id c.requires (changes c.self.inside.pages c.try_remove.new.self _ _ _ _ c.self.view_is c.id.view_is c.in-Some.ensures.updates)

pub returns-clause-pages : goal.returns-clause-pages
returns-clause-pages c =
    ap (λ (n : ℕ). n + 1) (live_len c.try_remove.new.self) ∙ c.in-Some.ensures.len ∙ sym (live_len c.self.inside.pages) ∙ ap live_pages c.self.view_is
