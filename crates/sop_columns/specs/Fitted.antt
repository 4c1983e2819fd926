-- Values under a head of another kind, and the cells that stand for values.
use Rattle.std.specs.Prelude.{◌≡◌, List, All, map, unwrap_or}
use Rattle.sop_pages.specs.declared.cell.Cell.{Cell}
use Rattle.sop_model.specs.declared.value.Kind.{Kind}
use Rattle.sop_model.specs.declared.value.Value.{Value}
use Rattle.sop_model.specs.Values.{put, default_of}
use Rattle.sop_columns.specs.Names.{NameTable, value_of, IsNumbered}

-- A value under a head of this kind: as it is put there, else the kind's default.
abbrev pub fitted_to : Kind → Value → Value
fitted_to kind v = unwrap_or (put kind v) (default_of kind)

-- The cell stands for the default of the kind.
pub record IsDefault (n : NameTable) (kind : Kind) (cell : Cell) : Type 0 where
  pub numbered : IsNumbered n cell
  pub value : value_of n cell ≡ default_of kind

-- The cells stand for these values.
pub record StandsFor (n : NameTable) (cells : List Cell) (vs : List Value) : Type 0 where
  pub numbered : All (IsNumbered n) cells
  pub values : map (value_of n) cells ≡ vs
