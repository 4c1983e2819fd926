-- What a load of a file gives, from the bytes that stand under each name.
use Rattle.std.specs.Prelude.{◌≡◌, ℕ, List, length, if◌then◌else◌, nat_le, Option, None, Some, Result, Ok, Err}
use Rattle.std.specs.Ordering.{nat_cmp}
use Rattle.std.specs.Cmp.Lexicographic.{slice_cmp}
use Rattle.std.specs.FinMap.{FinMap, get}
use Rattle.sop_outside.specs.declared.files.LoadEnd.{LoadEnd}
use Rattle.sop_outside.specs.declared.files.LoadEnd.TheVariants.{Missing, Failed, TooLong, Memory}

-- The bytes of each file by the bytes of its name, for finitely many names.
abbrev pub Names : Type 0
Names = FinMap (slice_cmp nat_cmp) (List ℕ)

-- What a load gives of the bytes that were found: none are Missing, and more than the limit are TooLong.
abbrev pub within : ℕ → Option (List ℕ) → Result (List ℕ) LoadEnd
within limit None = Err Missing
within limit (Some bytes) = if nat_le (length bytes) limit then Ok bytes else Err TooLong

-- What a load of a name with a limit gives where nothing fails: the bytes under that name, if they are at most so many.
abbrev pub load_of : Names → List ℕ → ℕ → Result (List ℕ) LoadEnd
load_of names name limit = within limit (get names name)

-- A load may end so: as Missing or TooLong only where that is what the load gives, as Failed and Memory wherever they come from outside.
abbrev pub IsRefusal : Result (List ℕ) LoadEnd → LoadEnd → Type 0
IsRefusal load Missing = load ≡ Err Missing
IsRefusal load TooLong = load ≡ Err TooLong
IsRefusal load Failed = Unit {0}
IsRefusal load Memory = Unit {0}
