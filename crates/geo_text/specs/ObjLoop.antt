-- The lines of an OBJ text that are left to read, as private contracts speak of them.
use Rattle.std.specs.Prelude.{◌≡◌, ℕ, ◌+◌, ◌-◌, List, [], map, Option, None, Some, Result, Err}
use Rattle.std.specs.List.{slice_split}
use Rattle.sop_model.specs.declared.geo.Geo.{Geo}
use Rattle.geo_text.specs.declared.obj_fault.ObjFault.{ObjFault}
use Rattle.geo_text.specs.declared.obj_fault.ObjFault.TheVariants as fault
use Rattle.geo_text.specs.declared.reference.Counts.{Counts}
use Rattle.geo_text.specs.declared.taker.Attributes.{Attributes}
use Rattle.geo_text.specs.declared.totals.Totals.{Totals}
use Rattle.geo_text.specs.ObjLines.{numbered}
use Rattle.geo_text.specs.ObjMeaning.{Refusal, Number, Index, Limit, Said, said_by, map_ok, pieces_of}
use Rattle.geo_text.specs.ObjScan.{is_line_feed, ends_in}
use Rattle.geo_text.specs.ObjRun.{Taking, pieces_taken}

-- what a fault says of what a text means
abbrev pub IsTold : {A : Type 0} → ObjFault → Result A Refusal → Type 0
IsTold (fault.Number line) r = r ≡ Err (Number line)
IsTold (fault.Index line) r = r ≡ Err (Index line)
IsTold fault.Limit r = r ≡ Err Limit
IsTold fault.Memory r = Unit {0}

-- the number of the line that a part of a text begins with, where the text has so many ends
abbrev pub number_at : ℕ → List ℕ → ℕ
number_at ends text = ends - ends_in text + 1

-- what the lines of the end of a text say
abbrev pub said_at : ℕ → List ℕ → List Said
said_at ends text = map said_by (numbered (number_at ends text) (slice_split is_line_feed text))

abbrev pub said_left : ℕ → Option (List ℕ) → List Said
said_left ends None = []
said_left ends (Some text) = said_at ends text

abbrev pub ends_left : Option (List ℕ) → ℕ
ends_left None = 0
ends_left (Some text) = ends_in text

-- counts of lines, and of those before them
abbrev pub counts_sum : Counts → Counts → Counts
counts_sum a b = record { points = a.points + b.points; textures = a.textures + b.textures; normals = a.normals + b.normals }

-- what some lines take onto what was taken
abbrev pub outcome : Attributes → Totals → Counts → List Said → Taking → Result Taking Refusal
outcome has totals so_far said t = map_ok (λ pieces. pieces_taken has totals.textures.items totals.normals.items pieces t) (pieces_of totals.counts so_far said)

abbrev pub geo_taken : Result Taking Refusal → Result Geo Refusal
geo_taken r = map_ok (λ t. t.geo) r
