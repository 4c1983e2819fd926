-- The lists that have numbers, as values.
use Rattle.sop_columns.specs.declared.names.Listed.{Listed}
use Rattle.sop_columns.specs.declared.names.Listed.TheVariants as listed
use Rattle.sop_model.specs.declared.value.Value.{Value}
use Rattle.sop_model.specs.declared.value.Value.TheVariants as value

-- The value that is this list.
abbrev pub value_listed : Listed → Value
value_listed (listed.Ints list) = value.Ints list
value_listed (listed.Reals list) = value.Reals list
value_listed (listed.Vectors list) = value.Vectors list
value_listed (listed.Strs list) = value.Strs list
