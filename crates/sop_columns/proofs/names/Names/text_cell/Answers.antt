use Rattle.std.proofs.Common.{◌≡◌, ◌∙◌, ap, sym}
use Rattle.std.specs.Prelude.{bytes_eq}
use Rattle.indexmap.specs.IndexSet.{insert_key}
use Rattle.sop_model.specs.declared.value.Value.TheVariants as value
use Rattle.sop_columns.proofs.NameLemmas.{grows_none, grows_same}
use Rattle.sop_columns.proofs.ListLemmas.{text_at, text_grows, text_known, same_texts}
use Rattle.sop_columns.proofs.names.Names.text_cell.Goals as goal
use Rattle.sop_columns.proofs.names.Names.text_cell.Goals.{In_ok-number}

pub returns-in-Some-clause-value : goal.returns-in-Some-clause-value
returns-in-Some-clause-value c = ap value.Str (text_at _ c.self.inside.lists.keys _ _ _ c.self.view_is (sym c.in-Some.ensures.index))

pub returns-in-Some-clause-grows : goal.returns-in-Some-clause-grows
returns-in-Some-clause-grows c = grows_none _

pub returns-in_err-key-clause-grows : goal.returns-in_err-key-clause-grows
returns-in_err-key-clause-grows c = grows_none _

pub returns-in_err-number-clause-grows : goal.returns-in_err-number-clause-grows
returns-in_err-number-clause-grows c = grows_same _ _ (same_texts _ _ c.self.inside.lists.keys _ c.in_err-number.ensures.err c.self.view_is)

put : (c : In_ok-number) → c.insert_full.new.self.keys ≡ insert_key bytes_eq c.self.inside.texts.keys c.args.text.now
put c = c.in_ok-number.ensures.keys ∙ ap (insert_key bytes_eq c.self.inside.texts.keys) (c.in_ok-key.ensures ∙ c.as_str.ensures)

pub returns-clause-grows : goal.returns-clause-grows
returns-clause-grows c = text_grows _ _ c.self.inside.lists.keys _ c.args.text.now (put c) c.self.view_is

pub returns-clause-known : goal.returns-clause-known
returns-clause-known c = text_known _ _ c.self.inside.lists.keys _ c.args.text.now (put c) c.self.view_is
