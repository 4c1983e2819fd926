-- Each type's word finds that type.
use Rattle.std.proofs.Common.{◌≡◌, refl}
use Rattle.std.specs.Prelude.{Some}
use Rattle.sop_net.specs.declared.node_type.NodeType.{NodeType}
use Rattle.sop_net.specs.declared.node_type.NodeType.TheVariants as type
use Rattle.sop_net.specs.NodeTable.{row_of, type_of_word}

pub word-finds : (t : NodeType) → type_of_word (row_of t).word ≡ Some t
word-finds type.File = refl
word-finds type.Add = refl
word-finds type.Line = refl
word-finds type.Grid = refl
word-finds type.Box = refl
word-finds type.Null = refl
word-finds type.Switch = refl
word-finds type.Xform = refl
word-finds type.AttribCreate = refl
word-finds type.AttribDelete = refl
word-finds type.Enumerate = refl
word-finds type.Merge = refl
word-finds type.Blast = refl
word-finds type.GroupCreate = refl
word-finds type.CopyToPoints = refl
word-finds type.Sort = refl
word-finds type.Fuse = refl
word-finds type.Reverse = refl
word-finds type.AttribWrangle = refl
word-finds type.BlockBegin = refl
word-finds type.BlockEnd = refl
word-finds type.CompileBegin = refl
word-finds type.CompileEnd = refl
