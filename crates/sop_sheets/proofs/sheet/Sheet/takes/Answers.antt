use Rattle.sop_sheets.proofs.AppendLemmas.{fits_within, within_counts, within_sets}
use Rattle.sop_sheets.proofs.sheet.Sheet.takes.Goals as goal

pub returns-then-counts_fit : goal.returns-then-counts_fit
returns-then-counts_fit c =
    let s = c.args.shelf.now in let n = c.args.names.now in let is = c.requires.sheet in let other = c.requires.other in
    (λ t. fits_within s n c.args.self.now c.args.other.now is other (c.counts_fit.ensures.0 c.if-counts_fit.true) (c.sets_fit.ensures.0 t), λ w. c.sets_fit.ensures.1 (within_sets s n c.args.self.now c.args.other.now is other w))

pub returns-else-counts_fit : goal.returns-else-counts_fit
returns-else-counts_fit c =
    (λ t. let no = c.if-counts_fit.false in cc, λ w. c.counts_fit.ensures.1 (within_counts c.args.shelf.now c.args.names.now c.args.self.now c.args.other.now c.requires.sheet c.requires.other w))
