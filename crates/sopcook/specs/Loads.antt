-- The loads of files that tell their bytes.
use Rattle.std.specs.Prelude.{◌≡◌, ℕ, List, Result, Ok, Err, IsTrue, is_some, Some, Contains, ◌⊎◌}
use Rattle.std.specs.FinMap as finite
use Rattle.sop_outside.specs.Load.{Names, load_of}
use Rattle.sop_outside.specs.declared.files.LoadEnd.{LoadEnd}
use Rattle.sop_outside.specs.declared.files.LoadEnd.TheVariants as end
use Rattle.sop_basic.specs.declared.loaded.LoadedFile.{LoadedFile}
use Rattle.sop_basic.specs.declared.loaded.LoadedFile.TheVariants as load
use Rattle.sop_basic.specs.Loads.{FileMap, Loads, file_in}
use Rattle.sop_net.specs.declared.node.Node.{Node}
use Rattle.sop_net.specs.Needs.{file_of}
use Rattle.sopcook.specs.Limits.{most_file_bytes}

-- the load of a file that gives this
abbrev pub load_from : Result (List ℕ) LoadEnd → LoadedFile
load_from (Ok bytes) = load.Bytes bytes
load_from (Err end.TooLong) = load.TooLong
load_from (Err other) = load.Missing

-- what the load of each name gives
abbrev pub told_files : Names → FileMap
told_files names name = load_from (load_of names name most_file_bytes)

-- a load of this name is there
abbrev pub Has : Loads → List ℕ → Type 0
Has loads name = IsTrue (is_some (finite.get loads name))

-- each load that is there is what the files tell
abbrev pub HoldsLoads : Names → Loads → Type 0
HoldsLoads names loads = (name : List ℕ) → Has loads name → file_in loads name ≡ told_files names name

-- no load goes
abbrev pub Keeps : Loads → Loads → Type 0
Keeps old new = (name : List ℕ) → Has old name → Has new name

-- the loads of the files of these nodes are there
abbrev pub HasFilesOf : List Node → List ℕ → Loads → Type 0
HasFilesOf nodes xs loads = (x : ℕ) (name : List ℕ) → Contains xs x → file_of nodes x ≡ Some name → Has loads name

-- some file was missing
abbrev pub HasMissing : Loads → Type 0
HasMissing loads = (name : List ℕ) × (finite.get loads name ≡ Some load.Missing)

-- a file that is missing now was so before, or a miss was counted
abbrev pub MissesBy : Loads → Loads → Type 0 → Type 0
MissesBy old new missed = HasMissing new → HasMissing old ⊎ missed
