-- A group made sure of, and its members combined with what is selected.
use Rattle.std.proofs.Common.{◌≡◌, ℕ, zero, suc, ◌+◌, ◌≤◌, Bool, true, false, List, [], ◌∷◌, length, drop, get_or, refl, sym, ap, ◌∙◌, subst, arith}
use Rattle.std.specs.Prelude.{Option, Some, None, Ok, Err, position, slice_get, slice_index_or, if◌then◌else◌}
use Rattle.std.specs.Option.{option_and_then}
use Rattle.std.specs.Str.{bytes_eq}
use Rattle.std.proofs.lemmas.List.Quantifiers.{position-Some}
use Rattle.sop_model.specs.declared.class.Class.{Class}
use Rattle.sop_model.specs.declared.geo.Geo.{Geo}
use Rattle.sop_model.specs.declared.geo.Row.{Row}
use Rattle.sop_model.specs.declared.geo.HeadSet.{HeadSet}
use Rattle.sop_model.specs.declared.fault.CookStop.{CookStop}
use Rattle.sop_model.specs.declared.fault.CookStop.TheVariants as stop
use Rattle.sop_model.specs.declared.fault.Fault.TheVariants as fault
use Rattle.sop_model.specs.Limits.{most_heads, most_groups}
use Rattle.sop_model.specs.Geometry.{heads_of, rows_of, count_of, fits, IsWithin}
use Rattle.sop_model.specs.Rows.{changed_at, with_flag, with_rows, group_named, group_added, HasGroup}
use Rattle.sop_model.proofs.LimitsLemmas.{within_heads, within_groups, fits_within, Fits-from_fits}
use Rattle.sop_rows.proofs.ClassRows.{HasShapeOf-with_rows, count_of-shape, heads_of-with_rows}
use Rattle.sop_rows.proofs.RowOps.{IsWithin-shape, HasShapeOf-group_added, heads_of-group_added}
use Rattle.sop_rows.proofs.FirstLemmas.{bytes_same}
use Rattle.sop_vault.specs.Vaults.{VaultMap}
use Rattle.sop_basic.specs.Making.{Prepares}
use Rattle.sop_basic.proofs.HeadLemmas.{position_push}
use Rattle.sop_basic.proofs.MovementLemmas.{split_at}
use Rattle.sop_combine.specs.declared.group_create.Combination.{Combination}
use Rattle.sop_combine.specs.GroupCreate.{combined, with_group_at, with_group, rows_combined, members_combined_at, members_combined}
use Rattle.sop_combine.specs.Marked.{rows_changed, class_changed, flag_combined, combining}
use Rattle.sop_combine.specs.Steps.{FindsGroup}

-- ---- the group
pub group_below : (g : Geo) (class : Class) (name : List ℕ) (group : ℕ) → group_named g class name ≡ Some group → HasGroup g class group
group_below g class name group named = (position-Some (λ other. bytes_eq other name) (heads_of g class).groups group [] named).0

pub group_new : (g : Geo) (class : Class) (name : List ℕ) (group : ℕ) → group_named g class name ≡ None → group ≡ length (heads_of g class).groups → group_named (group_added g class name) class name ≡ Some group
group_new g class name group free is =
    ap (λ (set : HeadSet). position (λ other. bytes_eq other name) set.groups) (heads_of-group_added g class name)
    ∙ position_push (λ other. bytes_eq other name) (heads_of g class).groups name free (bytes_same name) ∙ ap Some (sym is)

pub with_group_count : (g : Geo) (class : Class) (name : List ℕ) → count_of (with_group g class name) class ≡ count_of g class
with_group_count g class name = by (group_named g class name)
  where
    by : (o : Option ℕ) → count_of (with_group_at g class name o) class ≡ count_of g class
    by None = count_of-shape g (group_added g class name) (HasShapeOf-group_added g class name) class
    by (Some group) = refl

-- ---- its members
module _ (combination : Combination) where
  rows_as : (group : ℕ) (flags : List Bool) (i : ℕ) (rows : List Row) → length flags ≡ i + length rows → rows_changed (combining combination group flags) i rows ≡ rows_combined combination group rows (drop i flags)
  rows_as group flags i [] each = refl
  rows_as group flags i (row ∷ rows) each =
      let cut : drop i flags ≡ get_or flags i false ∷ drop (suc i) flags = split_at flags i false (omega (arith, each)) in
      ap (λ rs. combining combination group flags i row ∷ rs) (rows_as group flags (suc i) rows (omega (arith, each))) ∙ sym (ap (rows_combined combination group (row ∷ rows)) cut)

  flag_got : (flags : List Bool) (i : ℕ) (b : Bool) → slice_get flags i ≡ Some b → slice_index_or flags i false ≡ b
  flag_got [] i b is = absurd (cc)
  flag_got (x ∷ flags) zero b is = cc
  flag_got (x ∷ flags) (suc i) b is = flag_got flags i b is

  -- the flag of one element, by what it was
  pub one_combined : (group : ℕ) (selected old : Bool) (rows : List Row) (element : ℕ) → option_and_then (λ row. slice_get row.flags group) (slice_get rows element) ≡ Some old
      → changed_at (with_flag group (combined combination old selected)) rows element ≡ changed_at (flag_combined combination group selected) rows element
  one_combined group selected old [] element is = refl
  one_combined group selected old (row ∷ rows) zero is = ap (λ b. with_flag group (combined combination b selected) row ∷ rows) (sym (flag_got row.flags group old is))
  one_combined group selected old (row ∷ rows) (suc element) is = ap (λ rs. row ∷ rs) (one_combined group selected old rows element is)

  combined_long : (group : ℕ) (rows : List Row) (flags : List Bool) → length (rows_combined combination group rows flags) ≡ length rows
  combined_long group [] flags = refl
  combined_long group (row ∷ rows) [] = refl
  combined_long group (row ∷ rows) (on ∷ flags) = ap suc (combined_long group rows flags)

  pub members_are : (g : Geo) (class : Class) (name : List ℕ) (group : ℕ) (flags : List Bool) → group_named g class name ≡ Some group → length flags ≡ count_of g class
      → class_changed (combining combination group flags) g class ≡ members_combined combination g class name flags
  members_are g class name group flags named each =
      ap (with_rows g class) (rows_as group flags 0 (rows_of g class) (omega (arith, each))) ∙ sym (ap (members_combined_at combination g class flags) named)

  -- within limits before, where it is after
  members_within : (g : Geo) (class : Class) (flags : List Bool) (o : Option ℕ) → IsWithin (members_combined_at combination g class flags o) → IsWithin g
  members_within g class flags None within = within
  members_within g class flags (Some group) within =
      let rows = rows_combined combination group (rows_of g class) flags in
      let shape = HasShapeOf-with_rows g class rows (combined_long group (rows_of g class) flags) in
      IsWithin-shape (with_rows g class rows) g (record { points = sym shape.points; closed = sym shape.closed; sizes = sym shape.sizes; refers = sym shape.refers }) within
      (λ other. subst (λ (set : HeadSet). length set.heads ≤ most_heads) (heads_of-with_rows g class rows other) (within_heads within other))
      (λ other. subst (λ (set : HeadSet). length set.groups ≤ most_groups) (heads_of-with_rows g class rows other) (within_groups within other))

  -- a group that passes a limit is Limit at the node
  pub group_stopped : (old new : VaultMap) (key : ℕ) (class : Class) (name : List ℕ) (g : Geo) (flags : List Bool) (s : CookStop) → FindsGroup old new key class name g (Err s) → Prepares old new key (Ok (members_combined combination g class name flags)) (Err s)
  group_stopped old new key class name g flags (stop.Fault f) (limit, passes, touched) =
      (ap (λ b. if b then Ok (members_combined combination g class name flags) else Err fault.Limit) (no (fits (members_combined combination g class name flags)) refl) ∙ ap Err (sym limit), touched)
    where
      no : (b : Bool) → fits (members_combined combination g class name flags) ≡ b → b ≡ false
      no false e = refl
      no true e = absurd (passes (members_within g class flags (group_named g class name) (fits_within (Fits-from_fits (members_combined combination g class name flags) e))))
  group_stopped old new key class name g flags stop.Memory touched = touched
