-- The loads of files that a cook reads, by name.
use Rattle.std.specs.Prelude.{◌≡◌, ◌⊎◌, ℕ, List, unwrap_or, refl}
use Rattle.std.specs.Coded.{Coded, code_by, coded_list, coded_ℕ, coded⊎}
use base.Stored.{coded_unit}
use mathlib.Core.Logic.{inl, inr}
use Rattle.std.specs.Ordering.{nat_cmp}
use Rattle.std.specs.Cmp.Lexicographic.{slice_cmp}
use Rattle.std.specs.FinMap as finite
use Rattle.sop_basic.specs.declared.loaded.LoadedFile.{LoadedFile}
use Rattle.sop_basic.specs.declared.loaded.LoadedFile.TheVariants.{Bytes, Missing, TooLong}

-- what the load of each name gave, for finitely many names
abbrev pub Loads : Type 0
Loads = finite.FinMap (slice_cmp nat_cmp) LoadedFile

-- how contracts tell loads apart: as nothing, too much, or a list of bytes
abbrev pub load_as : LoadedFile → Unit {0} ⊎ Unit {0} ⊎ List ℕ
load_as Missing = inl tt
load_as TooLong = inr (inl tt)
load_as (Bytes bytes) = inr (inr bytes)

abbrev pub load_from : Unit {0} ⊎ Unit {0} ⊎ List ℕ → LoadedFile
load_from (inl _) = Missing
load_from (inr (inl _)) = TooLong
load_from (inr (inr bytes)) = Bytes bytes

pub load_from_as : (file : LoadedFile) → load_from (load_as file) ≡ file
load_from_as Missing = refl
load_from_as TooLong = refl
load_from_as (Bytes bytes) = refl

abbrev pub loads_code : Coded Loads
loads_code = finite.code (coded_list coded_ℕ) (code_by (Unit {0} ⊎ Unit {0} ⊎ List ℕ) (coded⊎ coded_unit (coded⊎ coded_unit (coded_list coded_ℕ))) load_as load_from load_from_as)

-- what the load of each name gives
abbrev pub FileMap : Type 0
FileMap = List ℕ → LoadedFile

-- the load of a name; one that isn't there counts as missing
abbrev pub file_in : Loads → FileMap
file_in loads name = unwrap_or (finite.get loads name) Missing
