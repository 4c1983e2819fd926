-- The types of nodes: the word of each, its number of inputs, whether these may stay unwired, and its parameters in order, each with the
-- values that it takes and the one that it has at first.
use Rattle.std.specs.Prelude.{ℕ, ℤ, pos, neg_ℤ, Bool, true, false, List, [], ◌∷◌, map, codes, Option, find, bytes_eq}
use Rattle.sop_net.specs.Limits.{most_inputs}
use Rattle.sop_net.specs.declared.node_type.NodeType.{NodeType}
use Rattle.sop_net.specs.declared.node_type.NodeType.TheVariants as type

-- the values that a parameter takes
pub data ParmKind : Type 0 where
  -- a whole number from the first to the second
  Whole : ℤ → ℤ → ParmKind
  -- a numeral
  Numeral : ParmKind
  -- three numerals
  Vector : ParmKind
  -- any multiple of three numerals
  Vectors : ParmKind
  -- `0` or `1`
  Flag : ParmKind
  -- any text of at most 1,024 bytes
  Text : ParmKind
  -- a snippet of at most 65,536 bytes
  Snippet : ParmKind
  -- one of these words
  Choice : List (List ℕ) → ParmKind

pub record Parm : Type 0 where
  pub name : List ℕ
  pub kind : ParmKind
  pub default : List ℕ

pub record TypeRow : Type 0 where
  pub word : List ℕ
  pub inputs : ℕ
  -- no input need be wired
  pub is_optional : Bool
  pub parms : List Parm

abbrev pub whole : List ℕ → List ℕ → ℤ → ℤ → Parm
whole name default low high = record { name = name; kind = Whole low high; default = default }

abbrev pub numeral : List ℕ → List ℕ → Parm
numeral name default = record { name = name; kind = Numeral; default = default }

abbrev pub vector : List ℕ → List ℕ → Parm
vector name default = record { name = name; kind = Vector; default = default }

abbrev pub vectors : List ℕ → Parm
vectors name = record { name = name; kind = Vectors; default = [] }

abbrev pub flag : List ℕ → List ℕ → Parm
flag name default = record { name = name; kind = Flag; default = default }

abbrev pub text : List ℕ → List ℕ → Parm
text name default = record { name = name; kind = Text; default = default }

abbrev pub snippet : List ℕ → Parm
snippet name = record { name = name; kind = Snippet; default = [] }

-- the first word is the default
abbrev pub choice : List ℕ → List ℕ → List (List ℕ) → Parm
choice name word words = record { name = name; kind = Choice (word ∷ words); default = word }

-- a class of elements, with `point` at first
abbrev pub any_class : Parm
any_class = choice (codes "class") (codes "point") (codes "detail" ∷ codes "prim" ∷ codes "vertex" ∷ [])

-- a group pattern, which is empty at first
abbrev pub pattern : Parm
pattern = text (codes "group") []

abbrev pub row : List ℕ → ℕ → Bool → List Parm → TypeRow
row word inputs is_optional parms = record { word = word; inputs = inputs; is_optional = is_optional; parms = parms }

abbrev pub row_of : NodeType → TypeRow
row_of type.File = row (codes "file") 0 false (text (codes "file") [] ∷ [])
row_of type.Add = row (codes "add") 1 true
    (vectors (codes "points")
    ∷ choice (codes "poly") (codes "none") (codes "open" ∷ codes "closed" ∷ []) ∷ [])
row_of type.Line = row (codes "line") 0 false
    (vector (codes "origin") (codes "0 0 0")
    ∷ vector (codes "dir") (codes "0 1 0")
    ∷ numeral (codes "dist") (codes "1")
    ∷ whole (codes "points") (codes "2") (pos 1) (pos 1000000) ∷ [])
row_of type.Grid = row (codes "grid") 0 false
    (whole (codes "rows") (codes "10") (pos 1) (pos 1000)
    ∷ whole (codes "cols") (codes "10") (pos 1) (pos 1000)
    ∷ numeral (codes "sizex") (codes "10")
    ∷ numeral (codes "sizez") (codes "10") ∷ [])
row_of type.Box = row (codes "box") 0 false
    (vector (codes "size") (codes "1 1 1")
    ∷ vector (codes "center") (codes "0 0 0") ∷ [])
row_of type.Null = row (codes "null") 1 false []
row_of type.Switch = row (codes "switch") most_inputs false (whole (codes "input") (codes "0") (pos 0) (pos 31) ∷ [])
row_of type.Xform = row (codes "xform") 1 false
    (vector (codes "t") (codes "0 0 0")
    ∷ vector (codes "s") (codes "1 1 1")
    ∷ pattern ∷ [])
row_of type.AttribCreate = row (codes "attribcreate") 1 false
    (any_class
    ∷ text (codes "name") []
    ∷ choice (codes "kind") (codes "float") (codes "int" ∷ codes "vector" ∷ codes "string" ∷ [])
    ∷ text (codes "value") []
    ∷ pattern ∷ [])
row_of type.AttribDelete = row (codes "attribdelete") 1 false (any_class ∷ text (codes "names") [] ∷ [])
row_of type.Enumerate = row (codes "enumerate") 1 false (any_class ∷ text (codes "name") (codes "index") ∷ pattern ∷ [])
row_of type.Merge = row (codes "merge") most_inputs true []
row_of type.Blast = row (codes "blast") 1 false
    (choice (codes "class") (codes "prim") (codes "point" ∷ codes "vertex" ∷ [])
    ∷ pattern
    ∷ flag (codes "negate") (codes "0")
    ∷ flag (codes "unused") (codes "1") ∷ [])
row_of type.GroupCreate = row (codes "groupcreate") 1 false
    (choice (codes "class") (codes "point") (codes "prim" ∷ codes "vertex" ∷ [])
    ∷ text (codes "name") []
    ∷ pattern
    ∷ choice (codes "op") (codes "replace") (codes "union" ∷ codes "intersect" ∷ codes "subtract" ∷ []) ∷ [])
row_of type.CopyToPoints = row (codes "copytopoints") 2 false (pattern ∷ [])
row_of type.Sort = row (codes "sort") 1 false
    (choice (codes "class") (codes "point") (codes "prim" ∷ [])
    ∷ choice (codes "by") (codes "x") (codes "y" ∷ codes "z" ∷ codes "attr" ∷ codes "reverse" ∷ codes "shift" ∷ [])
    ∷ text (codes "attr") []
    ∷ whole (codes "shift") (codes "0") (neg_ℤ (pos 1000000)) (pos 1000000) ∷ [])
row_of type.Fuse = row (codes "fuse") 1 false (numeral (codes "dist") (codes "0.001") ∷ [])
row_of type.Reverse = row (codes "reverse") 1 false (pattern ∷ [])
row_of type.AttribWrangle = row (codes "attribwrangle") 4 true
    (choice (codes "class") (codes "point") (codes "detail" ∷ codes "prim" ∷ codes "vertex" ∷ codes "number" ∷ [])
    ∷ pattern
    ∷ snippet (codes "snippet")
    ∷ whole (codes "count") (codes "0") (pos 0) (pos 1000000) ∷ [])
row_of type.BlockBegin = row (codes "block_begin") 1 false
    (choice (codes "method") (codes "piece") (codes "feedback" ∷ codes "input" ∷ codes "metadata" ∷ [])
    ∷ text (codes "block") [] ∷ [])
row_of type.BlockEnd = row (codes "block_end") 1 false
    (text (codes "begin") []
    ∷ choice (codes "gather") (codes "merge") (codes "feedback" ∷ [])
    ∷ choice (codes "by") (codes "attr") (codes "count" ∷ [])
    ∷ choice (codes "class") (codes "point") (codes "prim" ∷ [])
    ∷ text (codes "attr") (codes "name")
    ∷ whole (codes "count") (codes "1") (pos 0) (pos 10000) ∷ [])
row_of type.CompileBegin = row (codes "compile_begin") 1 false (text (codes "block") [] ∷ [])
row_of type.CompileEnd = row (codes "compile_end") 1 false []

abbrev pub types : List NodeType
types =
    type.File ∷ type.Add ∷ type.Line ∷ type.Grid ∷ type.Box ∷ type.Null ∷ type.Switch ∷ type.Xform ∷ type.AttribCreate ∷ type.AttribDelete
    ∷ type.Enumerate ∷ type.Merge ∷ type.Blast ∷ type.GroupCreate ∷ type.CopyToPoints ∷ type.Sort ∷ type.Fuse ∷ type.Reverse
    ∷ type.AttribWrangle ∷ type.BlockBegin ∷ type.BlockEnd ∷ type.CompileBegin ∷ type.CompileEnd ∷ []

-- the type of this word
abbrev pub type_of_word : List ℕ → Option NodeType
type_of_word word = find (λ t. bytes_eq (row_of t).word word) types

abbrev pub inputs_of : NodeType → ℕ
inputs_of t = (row_of t).inputs

abbrev pub parms_of : NodeType → List Parm
parms_of t = (row_of t).parms

-- the parameters of a new node
abbrev pub default_parms : NodeType → List (List ℕ)
default_parms t = map (λ p. p.default) (parms_of t)
