-- Members of groups, marked group by group.
use Rattle.std.proofs.Common.{◌≡◌, ℕ, zero, suc, ◌+◌, Bool, true, false, List, [], ◌∷◌, take, add-one, refl, sym, ap, ◌∙◌, Option, Some, None}
use Rattle.std.specs.Prelude.{◌&&◌, ◌||◌, slice_get, unwrap_or}
use Rattle.std.specs.Option.{option_map, option_and_then}
use Rattle.sop_model.specs.declared.class.Class.{Class}
use Rattle.sop_model.specs.declared.geo.Geo.{Geo}
use Rattle.sop_model.specs.declared.geo.Row.{Row}
use Rattle.sop_model.specs.Geometry.{heads_of, rows_of}
use Rattle.sop_pattern.specs.Selection.{some_flag, flags_of}
use Rattle.sop_pattern.specs.Marks.{marked, member_of}

or_none : (b p : Bool) → b ≡ (b || (p && false))
or_none true p = refl
or_none false true = refl
or_none false false = refl

or_assoc : (a b c : Bool) → (a || (b || c)) ≡ ((a || b) || c)
or_assoc true b c = refl
or_assoc false b c = refl

or_last : (b : Bool) → (b || false) ≡ b
or_last true = refl
or_last false = refl

name_is : (a b : List ℕ) → Some a ≡ Some b → a ≡ b
name_is a b e = cc

some_flag_more : (passes : List ℕ → Bool) (groups : List (List ℕ)) (flags : List Bool) (i : ℕ) (name : List ℕ) → slice_get groups i ≡ Some name
    → some_flag passes (take (suc i) groups) flags ≡ (some_flag passes (take i groups) flags || (passes name && unwrap_or (slice_get flags i) false))
some_flag_more passes [] flags i name at = cc
some_flag_more passes (g ∷ groups) [] zero name at = or_none false (passes name)
some_flag_more passes (g ∷ groups) [] (suc i) name at = or_none false (passes name)
some_flag_more passes (g ∷ groups) (f ∷ flags) zero name at = or_last (passes g && f) ∙ ap (λ n. passes n && f) (name_is g name at)
some_flag_more passes (g ∷ groups) (f ∷ flags) (suc i) name at =
    ap (λ b. (passes g && f) || b) (some_flag_more passes groups flags i name at)
    ∙ or_assoc (passes g && f) (some_flag passes (take i groups) flags) (passes name && unwrap_or (slice_get flags i) false)

member_is : (row : Option Row) (i : ℕ) → unwrap_or (option_and_then (λ r. slice_get r.flags i) row) false ≡ unwrap_or (slice_get (unwrap_or (option_map (λ r. r.flags) row) []) i) false
member_is None i = refl
member_is (Some row) i = refl

marked_twice : (to a b flag : Bool) → marked to b (marked to a flag) ≡ marked to (a || b) flag
marked_twice to true true flag = refl
marked_twice to true false flag = refl
marked_twice to false b flag = refl

module _ (passes : List ℕ → Bool) (g : Geo) (class : Class) (i : ℕ) (name : List ℕ) (at : slice_get (heads_of g class).groups i ≡ Some name) (e : ℕ) (to old now : Bool)
    (before : now ≡ marked to (some_flag passes (take i (heads_of g class).groups) (flags_of g class e)) old) where
  with_next : some_flag passes (take (i + 1) (heads_of g class).groups) (flags_of g class e)
      ≡ (some_flag passes (take i (heads_of g class).groups) (flags_of g class e) || (passes name && member_of g class i e))
  with_next =
      ap (λ n. some_flag passes (take n (heads_of g class).groups) (flags_of g class e)) (add-one i)
      ∙ some_flag_more passes (heads_of g class).groups (flags_of g class e) i name at
      ∙ ap (λ b. some_flag passes (take i (heads_of g class).groups) (flags_of g class e) || (passes name && b)) (sym (member_is (slice_get (rows_of g class) e) i))

  pub group_marked : (next : Bool) → passes name ≡ true → next ≡ marked to (member_of g class i e) now → next ≡ marked to (some_flag passes (take (i + 1) (heads_of g class).groups) (flags_of g class e)) old
  group_marked next named is =
      let whole = with_next ∙ ap (λ p. some_flag passes (take i (heads_of g class).groups) (flags_of g class e) || (p && member_of g class i e)) named in
      is ∙ ap (marked to (member_of g class i e)) before
      ∙ marked_twice to (some_flag passes (take i (heads_of g class).groups) (flags_of g class e)) (member_of g class i e) old
      ∙ ap (λ b. marked to b old) (sym whole)

  pub group_passed : passes name ≡ false → now ≡ marked to (some_flag passes (take (i + 1) (heads_of g class).groups) (flags_of g class e)) old
  group_passed other =
      let whole = with_next ∙ ap (λ p. some_flag passes (take i (heads_of g class).groups) (flags_of g class e) || (p && member_of g class i e)) other ∙ or_last (some_flag passes (take i (heads_of g class).groups) (flags_of g class e)) in
      before ∙ ap (λ b. marked to b old) (sym whole)
