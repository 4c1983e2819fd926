-- Rows as the transposition of columns: the row of an element has its value from each column, and whether each group has it.
use Rattle.std.specs.Prelude.{ℕ, zero, suc, Bool, false, List, [], ◌∷◌, ◌++◌, map, replicate, slice_index_or, Option, None, Some, pos, if◌then◌else◌}
use Rattle.std.specs.Str.{bytes_eq}
use Rattle.sop_model.specs.declared.geo.Row.{Row}
use Rattle.sop_model.specs.declared.geo.Head.{Head}
use Rattle.sop_model.specs.declared.value.Value.{Value}
use Rattle.sop_model.specs.declared.value.Value.TheVariants as value
use Rattle.sop_model.specs.Values.{default_of}
use Rattle.sop_model.specs.Merge.{fitted}

-- f of each number from 0 on, so many of them
abbrev pub tabulated : {X : Type 0} → ℕ → (ℕ → X) → List X
tabulated zero f = []
tabulated (suc n) f = f 0 ∷ tabulated n (λ i. f (suc i))

-- the value of a column at an element
abbrev pub item : ℕ → List Value → Value
item i vs = slice_index_or vs i (value.Int (pos 0))

-- the row of an element, from a column of values for each head and the members of each group
abbrev pub row_of : List (List Value) → List (ℕ → Bool) → ℕ → Row
row_of columns members i = record { values = map (item i) columns; flags = map (λ has. has i) members }

-- the rows of so many elements
abbrev pub rows_from : ℕ → List (List Value) → List (ℕ → Bool) → List Row
rows_from count columns members = tabulated count (row_of columns members)

-- the values of a column at these elements
abbrev pub items_at : List ℕ → List Value → List Value
items_at numbers vs = map (λ i. item i vs) numbers

-- each column with the other behind it
abbrev pub append_each : List (List Value) → List (List Value) → List (List Value)
append_each [] others = []
append_each (vs ∷ columns) [] = vs ∷ columns
append_each (vs ∷ columns) (ws ∷ others) = (vs ++ ws) ∷ append_each columns others

-- a column of so many times one value, for each value
abbrev pub filled_each : ℕ → List Value → List (List Value)
filled_each count ds = map (replicate count) ds

-- the column under a name, of columns that stand in the order of some heads
abbrev pub column_under : List Head → List (List Value) → List ℕ → Option (List Value)
column_under [] columns name = None
column_under (h ∷ heads) [] name = None
column_under (h ∷ heads) (vs ∷ columns) name = if bytes_eq h.name name then Some vs else column_under heads columns name

-- a column put under a head, value by value; where there is none, so many defaults
abbrev pub fitted_column : ℕ → Head → Option (List Value) → List Value
fitted_column count h None = replicate count (default_of h.kind)
fitted_column count h (Some vs) = map (λ v. fitted h (Some v)) vs

-- the members under a group's name, of members that stand in the order of some groups; where there is none, nothing
abbrev pub members_under : List (List ℕ) → List (ℕ → Bool) → List ℕ → ℕ → Bool
members_under [] members name i = false
members_under (g ∷ groups) [] name i = false
members_under (g ∷ groups) (has ∷ members) name i = if bytes_eq g name then has i else members_under groups members name i
