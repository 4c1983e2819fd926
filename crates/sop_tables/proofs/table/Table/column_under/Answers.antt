use Rattle.std.proofs.Common.{◌≡◌, ℕ, List, map, replicate, ap, sym, ◌∙◌, subst}
use Rattle.std.specs.Prelude.{All, IfOk, position, slice_index_or}
use Rattle.std.specs.Str.{bytes_eq}
use Rattle.sop_model.specs.declared.geo.Head.{Head}
use Rattle.sop_model.specs.declared.value.Value.{Value}
use Rattle.sop_model.specs.Values.{kind_of, default_of}
use Rattle.sop_columns.specs.Fitted.{fitted_to}
use Rattle.sop_tables.specs.Tables.{TableLists, held}
use Rattle.sop_tables.specs.Changes.{no_head, head_at, IsNewColumn}
use Rattle.sop_tables.proofs.FlatLemmas.{any_default}
use Rattle.sop_tables.proofs.BesideLemmas.{table_column, table_column_held}
use Rattle.sop_tables.proofs.NamedLemmas.{values_found, values_missing, head_within, place_within, column_kinds}
use Rattle.sop_tables.proofs.table.Table.column_under.Goals as goal

pub returns-in_default-clause-made : goal.returns-in_default-clause-made
returns-in_default-clause-made c =
    let s = c.args.shelf.now in let t = c.fresh_column.new.shelf in let n = c.args.names.now in let m = c.fresh_column.new.names in
    let missing = ap (λ (name : List ℕ). position (λ (h : Head). bytes_eq h.name name) c.args.self.now.set.heads) (sym c.as_str.ensures) ∙ sym c.find.ensures ∙ c.in_default.is in
    let P : ℕ → Type 0 = λ k. IfOk c.fresh_column.result (IsNewColumn s t n m k c.args.head.now (replicate k (default_of c.args.head.now.kind))) in
    let Q : List Value → Type 0 = λ vs. IfOk c.fresh_column.result (IsNewColumn s t n m c.args.self.now.count c.args.head.now vs) in
    subst Q (sym (values_missing s n c.args.self.now c.requires.other.table c.args.head.now missing)) (subst P (ap (λ (tb : TableLists). tb.count) c.self.view_is) c.fresh_column.ensures.made)

pub column-requires : goal.column-requires
column-requires c =
    let found = ap (λ (name : List ℕ). position (λ (h : Head). bytes_eq h.name name) c.args.self.now.set.heads) (sym c.as_str.ensures) ∙ sym c.find.ensures ∙ c.in-Some.is in
    place_within c.args.shelf.now c.args.names.now c.args.self.now c.requires.other.table c.args.head.now.name c.in-Some.k found

head_is : (c : goal.After-fitted_column-arg-2-1) → slice_index_or c.heads.result.now c.in-Some.k c.index-heads-k.result ≡ head_at c.args.self.now.set.heads c.in-Some.k
head_is c =
    let found = ap (λ (name : List ℕ). position (λ (h : Head). bytes_eq h.name name) c.args.self.now.set.heads) (sym c.as_str.ensures) ∙ sym c.find.ensures ∙ c.in-Some.is in
    let within = head_within c.args.shelf.now c.args.names.now c.args.self.now c.requires.other.table c.args.head.now.name c.in-Some.k found in
    ap (λ (hs : List Head). slice_index_or hs c.in-Some.k c.index-heads-k.result) c.heads.ensures ∙ any_default c.args.self.now.set.heads c.in-Some.k c.index-heads-k.result no_head within

pub fitted_column-requires-clause-column : goal.fitted_column-requires-clause-column
fitted_column-requires-clause-column c =
    table_column c.args.shelf.now c.args.names.now c.args.self.now c.requires.other.table c.requires.other.held c.in-Some.k c.column.result.now c.column.ensures _ _ (ap (λ (tb : TableLists). tb.count) c.self.view_is) (head_is c)

pub fitted_column-requires-clause-held : goal.fitted_column-requires-clause-held
fitted_column-requires-clause-held c = table_column_held c.args.shelf.now c.args.names.now c.args.self.now c.requires.other.table c.requires.other.held c.in-Some.k c.column.result.now c.column.ensures

pub fitted_column-requires-clause-kinds : goal.fitted_column-requires-clause-kinds
fitted_column-requires-clause-kinds c =
    let s = c.args.shelf.now in let n = c.args.names.now in let p = c.column.result.now in
    subst (λ (k : ℕ). All (λ v. kind_of v ≡ (slice_index_or c.heads.result.now c.in-Some.k c.index-heads-k.result).kind) (held s n k p)) (sym (ap (λ (tb : TableLists). tb.count) c.self.view_is))
    (subst (λ (g : Head). All (λ v. kind_of v ≡ g.kind) (held s n c.args.self.now.count p)) (sym (head_is c)) (column_kinds s n c.args.self.now c.requires.other c.in-Some.k p c.column.ensures))

pub returns-clause-made : goal.returns-clause-made
returns-clause-made c =
    let s = c.args.shelf.now in let t = c.fitted_column.new.shelf in let n = c.args.names.now in let m = c.fitted_column.new.names in let p = c.column.result.now in
    let found = ap (λ (name : List ℕ). position (λ (h : Head). bytes_eq h.name name) c.args.self.now.set.heads) (sym c.as_str.ensures) ∙ sym c.find.ensures ∙ c.in-Some.is in
    let P : ℕ → Type 0 = λ k. IfOk c.fitted_column.result (IsNewColumn s t n m k c.args.head.now (map (fitted_to c.args.head.now.kind) (held s n k p))) in
    let Q : List Value → Type 0 = λ vs. IfOk c.fitted_column.result (IsNewColumn s t n m c.args.self.now.count c.args.head.now vs) in
    subst Q (sym (values_found s n c.args.self.now c.requires.other.table c.args.head.now c.in-Some.k p found c.column.ensures)) (subst P (ap (λ (tb : TableLists). tb.count) c.self.view_is) c.fitted_column.ensures.made)
