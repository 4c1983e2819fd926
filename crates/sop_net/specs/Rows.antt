-- What the rows of the code's table say.
use Rattle.std.specs.Prelude.{map}
use Rattle.sop_net.specs.NodeTable.{Parm, ParmKind, TypeRow, Whole, Numeral, Vector, Vectors, Flag, Text, Snippet, Choice}
use Rattle.sop_net.specs.declared.table.ParmKind.TheVariants as code
use Rattle.sop_net.specs.declared.table.ParmKind as code_kind
use Rattle.sop_net.specs.declared.table.Parm as code_parm
use Rattle.sop_net.specs.declared.table.TypeRow as code_row

abbrev pub kind_meant : code_kind.ParmKind → ParmKind
kind_meant (code.Whole low high) = Whole low high
kind_meant code.Numeral = Numeral
kind_meant code.Vector = Vector
kind_meant code.Vectors = Vectors
kind_meant code.Flag = Flag
kind_meant code.Text = Text
kind_meant code.Snippet = Snippet
kind_meant (code.Choice words) = Choice (map (λ word. word.now) words.now)

abbrev pub parm_meant : code_parm.Parm → Parm
parm_meant p = record { name = p.name.now; kind = kind_meant p.kind; default = p.default.now }

abbrev pub row_meant : code_row.TypeRow → TypeRow
row_meant r = record { word = r.word.now; inputs = r.inputs; is_optional = r.is_optional; parms = map parm_meant r.parms.now }
