use Rattle.std.proofs.Common.{◌+◌, refl, ◌∙◌, arith}
use Rattle.atomic_table.proofs.Lists.{set_else}
use Rattle.sop_claim.specs.Views.{with_miss, with_loaded, joined}
use Rattle.sop_claim.proofs.Keeps.{done_kept, skipped_kept, loaded_kept, faulty_kept, drawn_kept, missed_kept, split_kept, joined_kept}
use Rattle.sop_claim.proofs.Runs.{unmoved, draws_run, done_run, faulty_run, skipped_run, split_run, joined_run, holder}
use Rattle.sop_claim.proofs.law.steps_are_events.Goals as goal

pub returns : goal.returns
returns c = record {
  draw = λ b hit room. (drawn_kept b.n b.next b.least b.views b.id b.view b.kept b.there hit (omega arith), draws_run b.n b.next b.least b.views b.id b.view b.kept b.reached b.there hit (omega arith));
  empty_draw = λ b miss room. (missed_kept b.n b.next b.least b.views b.id b.view b.kept b.there miss room, unmoved b.n b.next b.least b.views b.id b.view b.kept b.reached b.there (with_miss b.view) refl refl refl refl (omega arith) (b.next + 1) (omega arith));
  report = λ b k held. let by = holder b.n b.next b.least b.views b.id b.view b.kept b.reached b.there k held in
      (by.0, (by.1, by.2), (faulty_kept b.n b.next b.least b.views b.id b.view b.kept b.there k held, faulty_run b.n b.next b.least b.views b.id b.view b.kept b.reached b.there k held));
  least = λ b. (loaded_kept b.n b.next b.least b.views b.id b.view b.kept b.there, unmoved b.n b.next b.least b.views b.id b.view b.kept b.reached b.there (with_loaded b.view b.least) refl refl refl refl refl b.next refl);
  done = λ b k held. let by = holder b.n b.next b.least b.views b.id b.view b.kept b.reached b.there k held in
      (by.0, (by.1, by.2), (done_kept b.n b.next b.least b.views b.id b.view b.kept b.there k held, done_run b.n b.next b.least b.views b.id b.view b.kept b.reached b.there k held));
  skip = λ b k seen held below loaded. let by = holder b.n b.next b.least b.views b.id b.view b.kept b.reached b.there k held in
      (by.0, (by.1, by.2), (skipped_kept b.n b.next b.least b.views b.id b.view b.kept b.there k held (seen, below, loaded), skipped_run b.n b.next b.least b.views b.id b.view b.kept b.reached b.there k held seen below loaded));
  split = λ b room. (split_kept b.n b.next b.least b.views b.id b.view b.kept b.there room, split_run b.n b.next b.least b.views b.id b.view b.kept b.reached b.there room);
  join = λ b other w (apart, there) some_share.
      (joined_kept b.n b.next b.least b.views b.id b.view other w b.kept b.there apart (set_else b.views b.id other (joined b.view w) apart ∙ there) some_share, joined_run b.n b.next b.least b.views b.id b.view b.kept b.reached b.there other w apart there some_share);
}
