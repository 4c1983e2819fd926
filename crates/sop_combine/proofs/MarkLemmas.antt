-- Marks set one element after the other, by flags.
use Rattle.std.proofs.Common.{◌≡◌, ℕ, zero, suc, ◌<◌, ◌≤◌, Bool, true, false, not, List, [], ◌∷◌, length, replicate, refl, sym, ap, ◌∙◌, arith}
use Rattle.std.specs.Prelude.{if◌then◌else◌, slice_set, slice_index_or}
use Rattle.std.specs.Bool.{beq}
use Rattle.std.proofs.lemmas.List.{length-map, length-replicate}
use Rattle.sop_model.specs.declared.class.Class.{Class}
use Rattle.sop_model.specs.declared.class.Class.TheVariants.{Detail, Prim, Point, Vertex}
use Rattle.sop_model.specs.declared.geo.Geo.{Geo}
use Rattle.sop_model.specs.Geometry.{count_of}
use Rattle.sop_model.specs.Sweep.{AreMarksOf}
use Rattle.sop_rows.specs.Marking.{no_marks}
use Rattle.sop_combine.specs.Blast.{chosen, marks_on}
use Rattle.sop_combine.specs.Marked.{marked_at, HasMark}

-- ---- flags, the first so many as they are, the others not set
abbrev pub first_of : List Bool → ℕ → List Bool
first_of [] k = []
first_of (on ∷ flags) zero = false ∷ first_of flags zero
first_of (on ∷ flags) (suc k) = on ∷ first_of flags k

first_long : (flags : List Bool) (k : ℕ) → length (first_of flags k) ≡ length flags
first_long [] k = refl
first_long (on ∷ flags) zero = ap suc (first_long flags zero)
first_long (on ∷ flags) (suc k) = ap suc (first_long flags k)

first_none : (flags : List Bool) → first_of flags 0 ≡ replicate (length flags) false
first_none [] = refl
first_none (on ∷ flags) = ap (λ xs. false ∷ xs) (first_none flags)

first_all : (flags : List Bool) (k : ℕ) → length flags ≤ k → first_of flags k ≡ flags
first_all [] k le = refl
first_all (on ∷ flags) zero le = absurd (omega arith)
first_all (on ∷ flags) (suc k) le = ap (λ xs. on ∷ xs) (first_all flags k (omega arith))

first_set : (flags : List Bool) (k : ℕ) → k < length flags → slice_index_or flags k false ≡ true → slice_set (first_of flags k) k true ≡ first_of flags (suc k)
first_set [] k lt on = absurd (omega arith)
first_set (b ∷ flags) zero lt on = ap (λ x. x ∷ first_of flags zero) (sym on)
first_set (b ∷ flags) (suc k) lt on = ap (λ xs. b ∷ xs) (first_set flags k (omega arith) on)

first_skip : (flags : List Bool) (k : ℕ) → slice_index_or flags k false ≡ false → first_of flags k ≡ first_of flags (suc k)
first_skip [] k off = refl
first_skip (b ∷ flags) zero off = ap (λ x. x ∷ first_of flags zero) (sym off)
first_skip (b ∷ flags) (suc k) off = ap (λ xs. b ∷ xs) (first_skip flags k off)

-- ---- what is chosen
flip : (b : Bool) → not (beq b true) ≡ not b
flip true = refl
flip false = refl

as_is : (b : Bool) → not (beq b false) ≡ b
as_is true = refl
as_is false = refl

pub chosen_at : (negate : Bool) (flags : List Bool) (k : ℕ) → k < length flags → not (beq (slice_index_or flags k false) negate) ≡ slice_index_or (chosen negate flags) k false
chosen_at true [] k lt = absurd (omega arith)
chosen_at true (b ∷ flags) zero lt = flip b
chosen_at true (b ∷ flags) (suc k) lt = chosen_at true flags k (omega arith)
chosen_at false flags k lt = as_is (slice_index_or flags k false)

pub chosen_long : (negate : Bool) (flags : List Bool) → length (chosen negate flags) ≡ length flags
chosen_long true flags = length-map flags not
chosen_long false flags = refl

-- ---- marks on the elements of a class
module _ (g : Geo) (and_points : Bool) (flags : List Bool) where
  start : (class : Class) → replicate (count_of g class) false ≡ first_of flags 0 → no_marks g ≡ marks_on g class and_points (first_of flags 0)
  start Detail none = refl
  start Point none = ap (λ xs. marks_on g Point and_points xs) none
  start Vertex none = ap (λ xs. marks_on g Vertex and_points xs) none
  start Prim none = by and_points
    where
      by : (b : Bool) → no_marks g ≡ marks_on g Prim b (first_of flags 0)
      by true = ap (λ xs. marks_on g Prim true xs) none
      by false = ap (λ xs. marks_on g Prim false xs) none

  marked : (class : Class) (xs : List Bool) (k : ℕ) → marked_at (marks_on g class and_points xs) class k and_points ≡ marks_on g class and_points (slice_set xs k true)
  marked Detail xs k = refl
  marked Point xs k = refl
  marked Vertex xs k = refl
  marked Prim xs k = by and_points
    where
      by : (b : Bool) → marked_at (marks_on g Prim b xs) Prim k b ≡ marks_on g Prim b (slice_set xs k true)
      by true = refl
      by false = refl

  has : (class : Class) (xs : List Bool) (k : ℕ) → length xs ≡ count_of g class → k < count_of g class → HasMark (marks_on g class and_points xs) class k
  has Detail xs k each lt = tt
  has Point xs k each lt = omega (arith, each, lt)
  has Vertex xs k each lt = omega (arith, each, lt)
  has Prim xs k each lt = (omega (arith, each, lt), by and_points)
    where
      by : (b : Bool) → k < length (if b then xs else replicate (count_of g Prim) false)
      by true = omega (arith, each, lt)
      by false = let long = length-replicate (count_of g Prim) false in omega (arith, long, lt)

  pub are_marks : (class : Class) → length flags ≡ count_of g class → AreMarksOf g (marks_on g class and_points flags)
  are_marks Detail each = record { points = length-replicate _ false; vertices = length-replicate _ false; prims = length-replicate _ false; with_points = length-replicate _ false }
  are_marks Point each = record { points = each; vertices = length-replicate _ false; prims = length-replicate _ false; with_points = length-replicate _ false }
  are_marks Vertex each = record { points = length-replicate _ false; vertices = each; prims = length-replicate _ false; with_points = length-replicate _ false }
  are_marks Prim each = record { points = length-replicate _ false; vertices = length-replicate _ false; prims = each; with_points = by and_points }
    where
      by : (b : Bool) → length (if b then flags else replicate (count_of g Prim) false) ≡ count_of g Prim
      by true = each
      by false = length-replicate (count_of g Prim) false

module _ (g : Geo) (class : Class) (and_points : Bool) (flags : List Bool) (each : length flags ≡ count_of g class) where
  -- marks on those of the first so many elements
  pub marks_start : no_marks g ≡ marks_on g class and_points (first_of flags 0)
  marks_start = start g and_points flags class (ap (λ n. replicate n false) (sym each) ∙ sym (first_none flags))

  pub marks_has : (k : ℕ) → k < count_of g class → HasMark (marks_on g class and_points (first_of flags k)) class k
  marks_has k lt = has g and_points flags class (first_of flags k) k (first_long flags k ∙ each) lt

  pub marks_more : (k : ℕ) (on : Bool) → k < count_of g class → on ≡ slice_index_or flags k false
      → (if on then marked_at (marks_on g class and_points (first_of flags k)) class k and_points else marks_on g class and_points (first_of flags k)) ≡ marks_on g class and_points (first_of flags (suc k))
  marks_more k true lt on = marked g and_points flags class (first_of flags k) k ∙ ap (λ xs. marks_on g class and_points xs) (first_set flags k (omega (arith, each, lt)) (sym on))
  marks_more k false lt on = ap (λ xs. marks_on g class and_points xs) (first_skip flags k (sym on))

  pub marks_done : (k : ℕ) → count_of g class ≤ k → marks_on g class and_points (first_of flags k) ≡ marks_on g class and_points flags
  marks_done k le = ap (λ xs. marks_on g class and_points xs) (first_all flags k (omega (arith, each, le)))
