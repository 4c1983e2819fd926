-- The job of the tests: twice the numbers of a view, `width` of them a ticket. A ticket whose first number is 0 is faulty.
use Rattle.std.specs.Prelude.{◌≡◌, ℕ, ◌+◌, ◌*◌, ◌<◌, ◌≤◌, ◌==◌, List, length, slice_index, Option, Some, None, if◌then◌else◌}

-- the numbers can be read while there are few
abbrev pub AreReadable : List ℕ → Type 0
AreReadable numbers = length numbers ≤ 5

-- ticket k has a first number, and all of its numbers are there
abbrev pub CanDouble : List ℕ → ℕ → ℕ → Type 0
CanDouble numbers width k = AreReadable numbers × (1 ≤ width) × (k * width + width ≤ length numbers)

abbrev pub double_fault : List ℕ → ℕ → ℕ → Option ℕ
double_fault numbers width k = if slice_index numbers (k * width) == 0 then Some (k * width) else None

abbrev pub AreDoubles : List ℕ → ℕ → ℕ → List ℕ → Type 0
AreDoubles numbers width k doubles = (length doubles ≡ width) × ((i : ℕ) → i < width → slice_index doubles i ≡ 2 * slice_index numbers (k * width + i))
