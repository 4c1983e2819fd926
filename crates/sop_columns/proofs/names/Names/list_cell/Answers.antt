use Rattle.sop_columns.proofs.NameLemmas.{grows_same}
use Rattle.sop_columns.proofs.ListLemmas.{list_at, list_grows, list_known, same_lists}
use Rattle.sop_columns.proofs.names.Names.list_cell.Goals as goal

pub returns-in_err-number-clause-grows : goal.returns-in_err-number-clause-grows
returns-in_err-number-clause-grows c = grows_same _ _ (same_lists c.self.inside.texts.keys _ _ _ c.in_err-number.ensures.err c.self.view_is)

pub returns-clause-value : goal.returns-clause-value
returns-clause-value c = let s = c.in_ok-number.ensures.stored in list_at c.insert_full.new.self.keys c.args.list s.0 c.in_ok-number.number s.1 s.2

pub returns-clause-grows : goal.returns-clause-grows
returns-clause-grows c = list_grows c.self.inside.texts.keys _ _ _ c.args.list c.in_ok-number.ensures.keys c.self.view_is

pub returns-clause-known : goal.returns-clause-known
returns-clause-known c = list_known c.self.inside.texts.keys _ _ _ c.args.list c.in_ok-number.ensures.keys c.self.view_is
