-- How flags are marked, list by list.
use Rattle.std.specs.Prelude.{ℕ, ◌-◌, ◌%◌, Bool, true, false, if◌then◌else◌, ◌&&◌, nat_lt, List, unwrap_or}
use Rattle.std.specs.Str.{bytes_eq}
use Rattle.sop_model.specs.declared.class.Class.{Class}
use Rattle.sop_model.specs.declared.geo.Geo.{Geo}
use Rattle.sop_model.specs.Geometry.{flag_at}
use Rattle.sop_pattern.specs.declared.word.Atom.{Atom}
use Rattle.sop_pattern.specs.declared.word.Atom.TheVariants.{Number, Range, Step, Cycle, All, Group, Groups}
use Rattle.sop_pattern.specs.Selection.{is_between}
use Rattle.sop_pattern.specs.Wildcard.{matches}

-- a flag that is set to a value where its element is held
abbrev pub marked : Bool → Bool → Bool → Bool
marked to held flag = if held then to else flag

-- whether a number is among the first `taken` of each `every` from one number to another
abbrev pub is_in_cycle : ℕ → ℕ → ℕ → ℕ → ℕ → Bool
is_in_cycle first last taken every e = is_between first last e && nat_lt ((e - first) % every) taken

-- whether an atom's step is at least 1
abbrev pub has_period : Atom → Bool
has_period (Number n) = true
has_period (Range n m) = true
has_period (Step n m s) = nat_lt 0 s
has_period (Cycle n m a b) = nat_lt 0 b
has_period All = true
has_period (Group name) = true
has_period (Groups pattern) = true

-- whether an atom stands for a group of this name
abbrev pub names_group : Atom → List ℕ → Bool
names_group (Number n) name = false
names_group (Range n m) name = false
names_group (Step n m s) name = false
names_group (Cycle n m a b) name = false
names_group All name = false
names_group (Group own) name = bytes_eq own name
names_group (Groups pattern) name = matches pattern name

-- whether an element is a member of the group of this number
abbrev pub member_of : Geo → Class → ℕ → ℕ → Bool
member_of g class group e = unwrap_or (flag_at g class group e) false
