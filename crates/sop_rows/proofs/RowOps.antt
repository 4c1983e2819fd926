-- Values, flags, heads and groups changed: the shape stays, and what is left is well made and within the limits.
use Rattle.std.proofs.Common.{◌≡◌, ℕ, zero, suc, ◌<◌, ◌≤◌, Bool, false, List, [], ◌∷◌, length, map, Option, Some, refl, ap, sym, ◌∙◌, subst, arith, length-append}
use Rattle.std.specs.Prelude.{All, option_map, slice_get, remove, replicate, pos, unwrap_or}
use Rattle.std.proofs.lemmas.List.{length-map, length-replicate}
use Rattle.std.proofs.lemmas.List.Elements.{All-replicate}
use Rattle.sop_model.specs.declared.class.Class.{Class}
use Rattle.sop_model.specs.declared.class.Class.TheVariants.{Detail, Prim, Point, Vertex}
use Rattle.sop_model.specs.declared.geo.Geo.{Geo}
use Rattle.sop_model.specs.declared.geo.Row.{Row}
use Rattle.sop_model.specs.declared.geo.Head.{Head}
use Rattle.sop_model.specs.declared.geo.HeadSet.{HeadSet}
use Rattle.sop_model.specs.declared.value.Kind.{Kind}
use Rattle.sop_model.specs.declared.value.Value.{Value}
use Rattle.sop_model.specs.declared.value.Value.TheVariants as value
use Rattle.sop_model.specs.Limits.{most_heads, most_groups}
use Rattle.sop_model.specs.Values.{kind_of, default_of}
use Rattle.sop_model.specs.Vertices.{corners_of}
use Rattle.sop_model.specs.Geometry.{heads_of, rows_of, count_of, IsRowOf, IsSound, IsGood, IsWithin}
use Rattle.sop_model.specs.Rows.{changed_at, with_value, with_flag, with_last_value, with_last_flag, without_value, rows_held, with_last_head, with_last_group, without_head, with_rows, with_class, value_set, member_set, column_held, default_at, attr_added, attr_deleted, group_added, HasHead, IsOfHead, AreOfHead, IsNewHead, IsNewGroup, HasGroups, IsNotPosition}
use Rattle.sop_model.proofs.RowLists.{length-changed_at, All-changed_at}
use Rattle.sop_rows.proofs.ClassRows.{HasShapeOf, HasShapeOf-with_rows, HasShapeOf-with_class, heads_of-with_rows, heads_of-with_class, heads_of-with_class_other, rows_of-with_rows, rows_of-with_class, each_class, count_of-shape}
use Rattle.sop_rows.proofs.HeadLemmas.{IsNamed-last_head, IsNamed-last_group, IsNamed-without_head, begins-append, begins-remove}
use Rattle.sop_rows.proofs.RowSound.{kind_of-default_of, IsRowOf-with_value, IsRowOf-with_flag, IsRowOf-last_value, IsRowOf-last_flag, IsRowOf-without_value, length-rows_held, All-rows_held, All-map_rows, SuitsClass, IsSound-with_class, IsGood-shape}
use Rattle.sop_model.proofs.LimitsLemmas.{IsWithin-from, within_points, within_prims, within_vertices, within_heads, within_groups}

-- A CLASS AND ITS ROWS

same_heads : (g : Geo) (class : Class) (rows : List Row) → with_class g class (heads_of g class) rows ≡ with_rows g class rows
same_heads g Detail rows = refl
same_heads g Prim rows = refl
same_heads g Point rows = refl
same_heads g Vertex rows = refl

own_heads : (g : Geo) (class : Class) → IsSound g → SuitsClass class (heads_of g class)
own_heads g Detail sound = record { detail = λ e. sound.detail_groups; point = λ e. cc }
own_heads g Prim sound = record { detail = λ e. cc; point = λ e. cc }
own_heads g Point sound = record { detail = λ e. cc; point = λ e. sound.position }
own_heads g Vertex sound = record { detail = λ e. cc; point = λ e. cc }

pub IsSound-with_rows : (g : Geo) (class : Class) (rows : List Row) → IsSound g → All (IsRowOf (heads_of g class)) rows → length rows ≡ count_of g class → IsSound (with_rows g class rows)
IsSound-with_rows g class rows sound all many =
    subst IsSound (same_heads g class rows) (IsSound-with_class g class (heads_of g class) rows sound (sound.named class) (own_heads g class sound) all many)

-- a geometry of the same shape is within the limits where its heads and groups are
pub IsWithin-shape : (g h : Geo) → HasShapeOf g h → IsWithin g → ((class : Class) → length (heads_of h class).heads ≤ most_heads) → ((class : Class) → length (heads_of h class).groups ≤ most_groups) → IsWithin h
IsWithin-shape g h shape within heads groups =
    IsWithin-from h
    (let a = (within_points within) in let b = shape.points in omega arith)
    (let a = (within_prims within) in let b = count_of-shape g h shape Prim in let c = length-map h.prims (λ p. p.row) in let d = length-map g.prims (λ p. p.row) in omega arith)
    (let a = (within_vertices within) in let b = count_of-shape g h shape Vertex in let c = length-map (corners_of h.prims) (λ c. c.row) in let d = length-map (corners_of g.prims) (λ c. c.row) in omega arith)
    heads
    groups

pub IsWithin-with_rows : (g : Geo) (class : Class) (rows : List Row) → length rows ≡ count_of g class → IsWithin g → IsWithin (with_rows g class rows)
IsWithin-with_rows g class rows many within =
    IsWithin-shape g (with_rows g class rows) (HasShapeOf-with_rows g class rows many) within
    (λ other. subst (λ (set : HeadSet). length set.heads ≤ most_heads) (sym (heads_of-with_rows g class rows other)) (within_heads within other))
    (λ other. subst (λ (set : HeadSet). length set.groups ≤ most_groups) (sym (heads_of-with_rows g class rows other)) (within_groups within other))

pub IsWithin-with_class : (g : Geo) (class : Class) (set : HeadSet) (rows : List Row) → length rows ≡ count_of g class → length set.heads ≤ most_heads → length set.groups ≤ most_groups → IsWithin g → IsWithin (with_class g class set rows)
IsWithin-with_class g class set rows many few few_groups within =
    let made = with_class g class set rows in
    IsWithin-shape g made (HasShapeOf-with_class g class set rows many) within
    (each_class (λ c. length (heads_of made c).heads ≤ most_heads) class (subst (λ (s : HeadSet). length s.heads ≤ most_heads) (sym (heads_of-with_class g class set rows)) few)
    (λ other ne. subst (λ (s : HeadSet). length s.heads ≤ most_heads) (sym (heads_of-with_class_other g class set rows other ne)) (within_heads within other)))
    (each_class (λ c. length (heads_of made c).groups ≤ most_groups) class (subst (λ (s : HeadSet). length s.groups ≤ most_groups) (sym (heads_of-with_class g class set rows)) few_groups)
    (λ other ne. subst (λ (s : HeadSet). length s.groups ≤ most_groups) (sym (heads_of-with_class_other g class set rows other ne)) (within_groups within other)))

-- A VALUE SET

module _ (g : Geo) (class : Class) (head element : ℕ) (v : Value) where
  pub HasShapeOf-value_set : HasShapeOf g (value_set g class head element v)
  HasShapeOf-value_set = HasShapeOf-with_rows g class (changed_at (with_value head v) (rows_of g class) element) (length-changed_at (with_value head v) (rows_of g class) element)

  pub rows_of-value_set : rows_of (value_set g class head element v) class ≡ changed_at (with_value head v) (rows_of g class) element
  rows_of-value_set = rows_of-with_rows g class (changed_at (with_value head v) (rows_of g class) element) (length-changed_at (with_value head v) (rows_of g class) element)

  pub IsSound-value_set : IsSound g → IsOfHead g class head v → IsSound (value_set g class head element v)
  IsSound-value_set sound is =
      IsSound-with_rows g class (changed_at (with_value head v) (rows_of g class) element) sound
      (All-changed_at (IsRowOf (heads_of g class)) (with_value head v) (IsRowOf-with_value (heads_of g class) head v is) (rows_of g class) element (sound.rows class))
      (length-changed_at (with_value head v) (rows_of g class) element)

  pub IsGood-value_set : IsGood g → IsOfHead g class head v → IsGood (value_set g class head element v)
  IsGood-value_set good is = IsGood-shape g (value_set g class head element v) HasShapeOf-value_set (IsSound-value_set good.sound is) good

  pub IsWithin-value_set : IsWithin g → IsWithin (value_set g class head element v)
  IsWithin-value_set = IsWithin-with_rows g class (changed_at (with_value head v) (rows_of g class) element) (length-changed_at (with_value head v) (rows_of g class) element)

-- A FLAG SET

module _ (g : Geo) (class : Class) (group element : ℕ) (on : Bool) where
  pub HasShapeOf-member_set : HasShapeOf g (member_set g class group element on)
  HasShapeOf-member_set = HasShapeOf-with_rows g class (changed_at (with_flag group on) (rows_of g class) element) (length-changed_at (with_flag group on) (rows_of g class) element)

  pub rows_of-member_set : rows_of (member_set g class group element on) class ≡ changed_at (with_flag group on) (rows_of g class) element
  rows_of-member_set = rows_of-with_rows g class (changed_at (with_flag group on) (rows_of g class) element) (length-changed_at (with_flag group on) (rows_of g class) element)

  pub IsSound-member_set : IsSound g → IsSound (member_set g class group element on)
  IsSound-member_set sound =
      IsSound-with_rows g class (changed_at (with_flag group on) (rows_of g class) element) sound
      (All-changed_at (IsRowOf (heads_of g class)) (with_flag group on) (IsRowOf-with_flag (heads_of g class) group on) (rows_of g class) element (sound.rows class))
      (length-changed_at (with_flag group on) (rows_of g class) element)

  pub IsGood-member_set : IsGood g → IsGood (member_set g class group element on)
  IsGood-member_set good = IsGood-shape g (member_set g class group element on) HasShapeOf-member_set (IsSound-member_set good.sound) good

  pub IsWithin-member_set : IsWithin g → IsWithin (member_set g class group element on)
  IsWithin-member_set = IsWithin-with_rows g class (changed_at (with_flag group on) (rows_of g class) element) (length-changed_at (with_flag group on) (rows_of g class) element)

-- A WHOLE COLUMN

module _ (g : Geo) (class : Class) (head : ℕ) (vs : List Value) where
  pub HasShapeOf-column_held : HasShapeOf g (column_held g class head vs)
  HasShapeOf-column_held = HasShapeOf-with_rows g class (rows_held head (rows_of g class) vs) (length-rows_held head (rows_of g class) vs)

  pub rows_of-column_held : rows_of (column_held g class head vs) class ≡ rows_held head (rows_of g class) vs
  rows_of-column_held = rows_of-with_rows g class (rows_held head (rows_of g class) vs) (length-rows_held head (rows_of g class) vs)

  pub IsSound-column_held : IsSound g → All (IsOfHead g class head) vs → IsSound (column_held g class head vs)
  IsSound-column_held sound kinds =
      IsSound-with_rows g class (rows_held head (rows_of g class) vs) sound
      (All-rows_held (heads_of g class) head (rows_of g class) vs kinds (sound.rows class)) (length-rows_held head (rows_of g class) vs)

  pub IsGood-column_held : IsGood g → All (IsOfHead g class head) vs → IsGood (column_held g class head vs)
  IsGood-column_held good kinds = IsGood-shape g (column_held g class head vs) HasShapeOf-column_held (IsSound-column_held good.sound kinds) good

  pub IsWithin-column_held : IsWithin g → IsWithin (column_held g class head vs)
  IsWithin-column_held = IsWithin-with_rows g class (rows_held head (rows_of g class) vs) (length-rows_held head (rows_of g class) vs)

-- the default of a head is of its kind
head_at : (heads : List Head) (i : ℕ) → i < length heads → (k : Kind) × (option_map (λ h. h.kind) (slice_get heads i) ≡ Some k)
head_at [] i lt = absurd (omega arith)
head_at (h ∷ heads) zero lt = (h.kind, refl)
head_at (h ∷ heads) (suc i) lt = head_at heads i (omega arith)

pub IsOfHead-default_at : (g : Geo) (class : Class) (head : ℕ) → HasHead g class head → IsOfHead g class head (default_at g class head)
IsOfHead-default_at g class head there =
    let found = head_at (heads_of g class).heads head there in
    let same : kind_of (default_at g class head) ≡ found.0 = ap (λ (o : Option Kind). kind_of (or_zero o)) found.1 ∙ kind_of-default_of found.0 in
    found.1 ∙ ap Some (sym same)
  where
    or_zero : Option Kind → Value
    or_zero o = unwrap_or (option_map default_of o) (value.Int (pos 0))

pub AreOfHead-default_at : (g : Geo) (class : Class) (head : ℕ) → HasHead g class head → AreOfHead g class head (replicate (count_of g class) (default_at g class head))
AreOfHead-default_at g class head there = record {
  many = length-replicate (count_of g class) (default_at g class head);
  kinds = All-replicate (IsOfHead g class head) (count_of g class) (default_at g class head) (IsOfHead-default_at g class head there);
}

-- A HEAD ADDED

module _ (g : Geo) (class : Class) (head : Head) where
  added_many : length (map (with_last_value (default_of head.kind)) (rows_of g class)) ≡ count_of g class
  added_many = length-map (rows_of g class) (with_last_value (default_of head.kind))

  pub HasShapeOf-attr_added : HasShapeOf g (attr_added g class head)
  HasShapeOf-attr_added = HasShapeOf-with_class g class (with_last_head (heads_of g class) head) (map (with_last_value (default_of head.kind)) (rows_of g class)) added_many

  pub heads_of-attr_added : heads_of (attr_added g class head) class ≡ with_last_head (heads_of g class) head
  heads_of-attr_added = heads_of-with_class g class (with_last_head (heads_of g class) head) (map (with_last_value (default_of head.kind)) (rows_of g class))

  pub rows_of-attr_added : rows_of (attr_added g class head) class ≡ map (with_last_value (default_of head.kind)) (rows_of g class)
  rows_of-attr_added = rows_of-with_class g class (with_last_head (heads_of g class) head) (map (with_last_value (default_of head.kind)) (rows_of g class)) added_many

  head_suits : IsSound g → SuitsClass class (with_last_head (heads_of g class) head)
  head_suits sound =
      let own = own_heads g class sound in
      record { detail = λ e. own.detail e; point = λ e. begins-append (heads_of g class).heads (head ∷ []) (own.point e) }

  pub IsSound-attr_added : IsSound g → IsNewHead g class head.name → IsSound (attr_added g class head)
  IsSound-attr_added sound new =
      IsSound-with_class g class (with_last_head (heads_of g class) head) (map (with_last_value (default_of head.kind)) (rows_of g class)) sound
      (IsNamed-last_head (heads_of g class) head (sound.named class) new.named new.free) (head_suits sound)
      (All-map_rows (heads_of g class) (with_last_head (heads_of g class) head) (with_last_value (default_of head.kind)) (IsRowOf-last_value (heads_of g class) head) (rows_of g class) (sound.rows class))
      added_many

  pub IsGood-attr_added : IsGood g → IsNewHead g class head.name → IsGood (attr_added g class head)
  IsGood-attr_added good new = IsGood-shape g (attr_added g class head) HasShapeOf-attr_added (IsSound-attr_added good.sound new) good

  pub IsWithin-attr_added : IsWithin g → length (heads_of g class).heads < most_heads → IsWithin (attr_added g class head)
  IsWithin-attr_added within few =
      IsWithin-with_class g class (with_last_head (heads_of g class) head) (map (with_last_value (default_of head.kind)) (rows_of g class)) added_many
      (let a = length-append (heads_of g class).heads (head ∷ []) in omega arith) (within_groups within class) within

  -- and no further
  pub few-attr_added : IsWithin (attr_added g class head) → length (heads_of g class).heads < most_heads
  few-attr_added within =
      let a = within_heads within class in let b = ap (λ (set : HeadSet). length set.heads) heads_of-attr_added in
      let c = length-append (heads_of g class).heads (head ∷ []) in omega arith

-- A HEAD DELETED

still_suits : (g : Geo) (class : Class) (head : ℕ) → IsSound g → IsNotPosition class head → SuitsClass class (without_head (heads_of g class) head)
still_suits g Detail head sound other = record { detail = λ e. sound.detail_groups; point = λ e. cc }
still_suits g Prim head sound other = record { detail = λ e. cc; point = λ e. cc }
still_suits g Point head sound other = record { detail = λ e. cc; point = λ e. begins-remove g.point.heads head other sound.position }
still_suits g Vertex head sound other = record { detail = λ e. cc; point = λ e. cc }

length_remove_le : {X : Type 0} (xs : List X) (i : ℕ) → length (remove xs i) ≤ length xs
length_remove_le [] zero = omega arith
length_remove_le [] (suc i) = omega arith
length_remove_le (x ∷ xs) zero = omega arith
length_remove_le (x ∷ xs) (suc i) = omega (arith, length_remove_le xs i)

module _ (g : Geo) (class : Class) (head : ℕ) where
  deleted_many : length (map (without_value head) (rows_of g class)) ≡ count_of g class
  deleted_many = length-map (rows_of g class) (without_value head)

  pub HasShapeOf-attr_deleted : HasShapeOf g (attr_deleted g class head)
  HasShapeOf-attr_deleted = HasShapeOf-with_class g class (without_head (heads_of g class) head) (map (without_value head) (rows_of g class)) deleted_many

  pub heads_of-attr_deleted : heads_of (attr_deleted g class head) class ≡ without_head (heads_of g class) head
  heads_of-attr_deleted = heads_of-with_class g class (without_head (heads_of g class) head) (map (without_value head) (rows_of g class))

  pub rows_of-attr_deleted : rows_of (attr_deleted g class head) class ≡ map (without_value head) (rows_of g class)
  rows_of-attr_deleted = rows_of-with_class g class (without_head (heads_of g class) head) (map (without_value head) (rows_of g class)) deleted_many

  pub IsSound-attr_deleted : IsSound g → IsNotPosition class head → IsSound (attr_deleted g class head)
  IsSound-attr_deleted sound other =
      IsSound-with_class g class (without_head (heads_of g class) head) (map (without_value head) (rows_of g class)) sound
      (IsNamed-without_head (heads_of g class) head (sound.named class)) (still_suits g class head sound other)
      (All-map_rows (heads_of g class) (without_head (heads_of g class) head) (without_value head) (IsRowOf-without_value (heads_of g class) head) (rows_of g class) (sound.rows class))
      deleted_many

  pub IsGood-attr_deleted : IsGood g → IsNotPosition class head → IsGood (attr_deleted g class head)
  IsGood-attr_deleted good other = IsGood-shape g (attr_deleted g class head) HasShapeOf-attr_deleted (IsSound-attr_deleted good.sound other) good

  pub IsWithin-attr_deleted : IsWithin g → IsWithin (attr_deleted g class head)
  IsWithin-attr_deleted within =
      IsWithin-with_class g class (without_head (heads_of g class) head) (map (without_value head) (rows_of g class)) deleted_many
      (let a = within_heads within class in let b = length_remove_le (heads_of g class).heads head in omega arith) (within_groups within class) within

-- A GROUP ADDED

group_suits : (g : Geo) (class : Class) (name : List ℕ) → IsSound g → HasGroups class → SuitsClass class (with_last_group (heads_of g class) name)
group_suits g Detail name sound has = absurd has
group_suits g Prim name sound has = record { detail = λ e. cc; point = λ e. cc }
group_suits g Point name sound has = record { detail = λ e. cc; point = λ e. sound.position }
group_suits g Vertex name sound has = record { detail = λ e. cc; point = λ e. cc }

module _ (g : Geo) (class : Class) (name : List ℕ) where
  grouped_many : length (map (with_last_flag false) (rows_of g class)) ≡ count_of g class
  grouped_many = length-map (rows_of g class) (with_last_flag false)

  pub HasShapeOf-group_added : HasShapeOf g (group_added g class name)
  HasShapeOf-group_added = HasShapeOf-with_class g class (with_last_group (heads_of g class) name) (map (with_last_flag false) (rows_of g class)) grouped_many

  pub heads_of-group_added : heads_of (group_added g class name) class ≡ with_last_group (heads_of g class) name
  heads_of-group_added = heads_of-with_class g class (with_last_group (heads_of g class) name) (map (with_last_flag false) (rows_of g class))

  pub rows_of-group_added : rows_of (group_added g class name) class ≡ map (with_last_flag false) (rows_of g class)
  rows_of-group_added = rows_of-with_class g class (with_last_group (heads_of g class) name) (map (with_last_flag false) (rows_of g class)) grouped_many

  pub IsSound-group_added : IsSound g → HasGroups class → IsNewGroup g class name → IsSound (group_added g class name)
  IsSound-group_added sound has new =
      IsSound-with_class g class (with_last_group (heads_of g class) name) (map (with_last_flag false) (rows_of g class)) sound
      (IsNamed-last_group (heads_of g class) name (sound.named class) new.named new.free) (group_suits g class name sound has)
      (All-map_rows (heads_of g class) (with_last_group (heads_of g class) name) (with_last_flag false) (IsRowOf-last_flag (heads_of g class) name false) (rows_of g class) (sound.rows class))
      grouped_many

  pub IsGood-group_added : IsGood g → HasGroups class → IsNewGroup g class name → IsGood (group_added g class name)
  IsGood-group_added good has new = IsGood-shape g (group_added g class name) HasShapeOf-group_added (IsSound-group_added good.sound has new) good

  pub IsWithin-group_added : IsWithin g → length (heads_of g class).groups < most_groups → IsWithin (group_added g class name)
  IsWithin-group_added within few =
      IsWithin-with_class g class (with_last_group (heads_of g class) name) (map (with_last_flag false) (rows_of g class)) grouped_many
      (within_heads within class) (let a = length-append (heads_of g class).groups (name ∷ []) in omega arith) within

  -- and no further
  pub few-group_added : IsWithin (group_added g class name) → length (heads_of g class).groups < most_groups
  few-group_added within =
      let a = within_groups within class in let b = ap (λ (set : HeadSet). length set.groups) heads_of-group_added in
      let c = length-append (heads_of g class).groups (name ∷ []) in omega arith
