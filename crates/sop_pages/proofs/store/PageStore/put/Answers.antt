use Rattle.std.proofs.Common.{◌≡◌, ◌∙◌, ◌+◌, ℕ, refl, ap, sym}
use Rattle.std.specs.Prelude.{None}
use Rattle.sop_pages.specs.Pages.{live_pages}
use Rattle.sop_pages.specs.Slots.{store_of}
use Rattle.sop_pages.proofs.StoreLemmas.{changes, found, live_len}
use Rattle.sop_pages.proofs.MoveLemmas.{put_moves}
use Rattle.sop_pages.proofs.store.PageStore.put.Goals as goal

pub returns-clause-moves : goal.returns-clause-moves
returns-clause-moves c =
    let same : store_of c.reserve.new.self ≡ c.args.self.now = ap store_of c.reserve.ensures.rest_kept ∙ c.self.view_is in
    let e = c.insert_reserved-key.ensures in
    put_moves c.args.self.now _ c.insert_reserved-key.result _ (sym (found c.reserve.new.self _ c.insert_reserved-key.result _ None same refl (sym e.was_vacant)))
    (changes c.reserve.new.self c.insert_reserved-key.new.self _ c.insert_reserved-key.result _ _ same refl e.updates)

pub returns-clause-pages : goal.returns-clause-pages
returns-clause-pages c =
    live_len c.insert_reserved-key.new.self ∙ c.insert_reserved-key.ensures.len
    ∙ ap (λ (n : ℕ). n + 1) (sym (live_len c.reserve.new.self) ∙ ap live_pages (ap store_of c.reserve.ensures.rest_kept ∙ c.self.view_is))
