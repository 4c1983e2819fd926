use Rattle.std.proofs.Common.{[], ◌∷◌}
use Rattle.sop_vault.proofs.PassLemmas.{passes_none, owns_back}
use Rattle.sop_cook.specs.Keys.{keys_in}
use Rattle.sop_cook.proofs.KeptLemmas.{free_at, first_live, added_stays, share_passes, share_owns}
use Rattle.sop_cook.proofs.kept.Kept.keep.Goals as goal

pub returns-in_ok-share-clause-passes : goal.returns-in_ok-share-clause-passes
returns-in_ok-share-clause-passes c =
    let u = c.args.vault.now in
    let keys = c.args.self.now.keys.items in
    share_passes u c.share.new.self keys c.args.x c.args.key c.in_ok-share.field-0 (owns_back u (c.args.key ∷ []) (keys_in keys) c.requires.owns) (first_live u c.args.key (keys_in keys) c.requires.owns) c.in_ok-share.ensures.ok
    (free_at keys c.args.x c.index-then-index-gt0.result.now c.is_none.result c.requires.keys c.index-then-index-gt0.ensures c.is_none.ensures c.if-is_none.true)

pub returns-in_ok-share-clause-owns : goal.returns-in_ok-share-clause-owns
returns-in_ok-share-clause-owns c =
    let u = c.args.vault.now in
    let keys = c.args.self.now.keys.items in
    share_owns u c.share.new.self keys c.args.x c.args.key c.in_ok-share.field-0 (owns_back u (c.args.key ∷ []) (keys_in keys) c.requires.owns) (first_live u c.args.key (keys_in keys) c.requires.owns) c.in_ok-share.ensures.ok
    (free_at keys c.args.x c.index-then-index-gt0.result.now c.is_none.result c.requires.keys c.index-then-index-gt0.ensures c.is_none.ensures c.if-is_none.true)

pub returns-else-index-gt0-clause-passes : goal.returns-else-index-gt0-clause-passes
returns-else-index-gt0-clause-passes c = passes_none c.args.vault.now (keys_in c.args.self.now.keys.items)

pub returns-in_ok-share-clause-stays : goal.returns-in_ok-share-clause-stays
returns-in_ok-share-clause-stays c = λ k live. added_stays c.args.vault.now c.share.new.self c.in_ok-share.field-0 _ c.in_ok-share.ensures.ok k live
