-- References as private contracts speak of them.
use Rattle.std.specs.Prelude.{◌≡◌, ◌⊎◌, ℕ, ◌<◌, ◌≤◌, Bool, true, false, ◌==◌, List, [], ◌∷◌, Option, None, Some, Result, Ok, Err}
use Rattle.std.specs.List.{slice_split}
use Rattle.std.specs.Borrow.{Bor}
use Rattle.sop_model.specs.Limits.{most_points}
use Rattle.geo_text.specs.declared.reference.WordFault.{WordFault}
use Rattle.geo_text.specs.declared.reference.WordFault.TheVariants as fault
use Rattle.geo_text.specs.declared.reference.Counts.{Counts}
use Rattle.geo_text.specs.declared.reference.Parts.{Parts}
use Rattle.geo_text.specs.declared.reference.ReferenceWord.{ReferenceWord}
use Rattle.geo_text.specs.declared.reference.ReferenceWord.TheVariants as word
use Rattle.geo_text.specs.ObjStatements.{Reference, Ahead, Absent, part_of, reference_of}
use Rattle.geo_text.specs.ObjScan.{words_here}
use Rattle.geo_text.specs.ObjMeaning.{Refusal, Number, Index}

abbrev pub refusal : ℕ → WordFault → Refusal
refusal line fault.Number = Number line
refusal line fault.Index = Index line

-- what a word of this line gives
abbrev pub told : {A : Type 0} → ℕ → Result A WordFault → Result A Refusal
told line (Ok x) = Ok x
told line (Err f) = Err (refusal line f)

abbrev pub slash_parts : List ℕ → List (List ℕ)
slash_parts text = slice_split (λ b. b == 47) text

-- the parts behind a slash, where there is one
abbrev pub parts_left : Option (Bor (List ℕ)) → List (List ℕ)
parts_left None = []
parts_left (Some rest) = slash_parts rest.now

-- of some parts: the first and those behind it, or an empty one where there are none
abbrev pub IsNextPart : List (List ℕ) → List ℕ → List (List ℕ) → Type 0
IsNextPart parts part rest = (parts ≡ part ∷ rest) ⊎ ((parts ≡ []) × (part ≡ []) × (rest ≡ []))

-- whether more stands behind a slash than the end
abbrev pub goes_on : List (List ℕ) → Bool
goes_on [] = false
goes_on ([] ∷ []) = false
goes_on _ = true

abbrev pub reference_seen : Parts → Reference
reference_seen p = record { point = part_of p.point.now; texture = part_of p.texture.now; normal = part_of p.normal.now; is_long = p.is_long }

-- the reference of a word that only says the number of a point
abbrev pub said_number : ℕ → Reference
said_number number = record { point = Ahead number; texture = Absent; normal = Absent; is_long = false }

abbrev pub reference_said : ReferenceWord → Reference
reference_said (word.Number number) = said_number number
reference_said (word.Word bytes) = reference_of bytes.now

-- whether the next word of a text is such a reference, and what stands behind it
abbrev pub IsNextWord : List ℕ → Reference → List ℕ → Type 0
IsNextWord text reference rest = (word : List ℕ) × (words_here text ≡ word ∷ words_here rest) × (reference_of word ≡ reference)

abbrev pub SaysNumber : List ℕ → ℕ → List ℕ → Type 0
SaysNumber text number rest = IsNextWord text (said_number number) rest

-- of the words of a line: the first as a reference and those behind it, or none
abbrev pub IsNextReference : Option (ReferenceWord × Bor (List ℕ)) → List ℕ → Type 0
IsNextReference None text = words_here text ≡ []
IsNextReference (Some next) text = IsNextWord text (reference_said next.0) next.1.now

-- counts of a whole text: points within the limit, and others that a number of 64 bits can pass
pub record AreCounts (whole : Counts) : Type 0 where
  pub points : whole.points ≤ most_points
  pub textures : whole.textures < 18446744073709551615
  pub normals : whole.normals < 18446744073709551615

-- counts of the lines before one
pub record AreSoFar (whole so_far : Counts) : Type 0 where
  pub points : so_far.points ≤ whole.points
  pub textures : so_far.textures ≤ whole.textures
  pub normals : so_far.normals ≤ whole.normals
