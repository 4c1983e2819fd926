-- The parameters of a new node are texts that they take, and it has no wire.
use Rattle.std.proofs.Common.{◌≡◌, refl, ℕ, zero, suc, List, [], ◌∷◌, Bool, true, false, ◌&&◌, IsTrue}
use Rattle.std.specs.Prelude.{None, replicate}
use Rattle.sop_net.specs.declared.node_type.NodeType.{NodeType}
use Rattle.sop_net.specs.declared.node_type.NodeType.TheVariants as type
use Rattle.sop_net.specs.NodeTable.{Parm, parms_of, default_parms}
use Rattle.sop_net.specs.ParmValues.{is_value}
use Rattle.sop_net.specs.Network.{AreValues, wired}
use Rattle.std.proofs.lemmas.Bool.{and_parts}

are_values : List Parm → List (List ℕ) → Bool
are_values [] [] = true
are_values [] (text ∷ texts) = false
are_values (p ∷ parms) [] = false
are_values (p ∷ parms) (text ∷ texts) = is_value p.kind text && are_values parms texts

taken : (parms : List Parm) (texts : List (List ℕ)) → IsTrue (are_values parms texts) → AreValues parms texts
unfolding are_values
taken [] [] h = tt
taken [] (text ∷ texts) h = absurd (cc)
taken (p ∷ parms) [] h = absurd (cc)
taken (p ∷ parms) (text ∷ texts) h = let parts = and_parts (is_value p.kind text) (are_values parms texts) h in (parts.0, taken parms texts parts.1)

all-taken : (node_type : NodeType) → IsTrue (are_values (parms_of node_type) (default_parms node_type))
unfolding are_values
all-taken type.File = refl
all-taken type.Add = refl
all-taken type.Line = refl
all-taken type.Grid = refl
all-taken type.Box = refl
all-taken type.Null = refl
all-taken type.Switch = refl
all-taken type.Xform = refl
all-taken type.AttribCreate = refl
all-taken type.AttribDelete = refl
all-taken type.Enumerate = refl
all-taken type.Merge = refl
all-taken type.Blast = refl
all-taken type.GroupCreate = refl
all-taken type.CopyToPoints = refl
all-taken type.Sort = refl
all-taken type.Fuse = refl
all-taken type.Reverse = refl
all-taken type.AttribWrangle = refl
all-taken type.BlockBegin = refl
all-taken type.BlockEnd = refl
all-taken type.CompileBegin = refl
all-taken type.CompileEnd = refl

pub defaults-taken : (node_type : NodeType) → AreValues (parms_of node_type) (default_parms node_type)
defaults-taken node_type = taken (parms_of node_type) (default_parms node_type) (all-taken node_type)

pub wired-none : (n : ℕ) → wired (replicate n None) ≡ []
wired-none zero = refl
wired-none (suc n) = wired-none n
