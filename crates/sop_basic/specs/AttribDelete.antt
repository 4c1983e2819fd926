-- `attribdelete`: the attributes of the class `class` whose name a word of `names` matches are gone, but the points' `P` never is. In a word
-- `*` stands for any number of bytes, also none, and `?` for one. Without a word nothing goes.
use Rattle.std.specs.Prelude.{ℕ, Bool, ◌||◌, not, List, map, Ok}
use Rattle.std.specs.List.{list_any, items_where_true}
use Rattle.sop_outside.specs.Blanks.{words_of}
use Rattle.sop_model.specs.declared.class.Class.{Class}
use Rattle.sop_model.specs.declared.geo.Geo.{Geo}
use Rattle.sop_model.specs.declared.geo.HeadSet.{HeadSet}
use Rattle.sop_model.specs.declared.geo.Row.{Row}
use Rattle.sop_model.specs.Geometry.{heads_of, rows_of}
use Rattle.sop_model.specs.Rows.{with_class}
use Rattle.sop_pattern.specs.Wildcard.{matches}
use Rattle.sop_net.specs.Network.{parm_at}
use Rattle.sop_basic.specs.ParmTexts.{class_in}
use Rattle.sop_basic.specs.Outcomes.{Outcome}
use Rattle.sop_basic.specs.Heads.{is_position}

-- whether the attribute of a name stays
abbrev pub stays : Class → List (List ℕ) → List ℕ → Bool
stays class words name = is_position class name || not (list_any (λ word. matches word name) words)

-- for each attribute of the class whether it stays
abbrev pub staying : Geo → Class → List (List ℕ) → List Bool
staying g class words = map (λ head. stays class words head.name) (heads_of g class).heads

abbrev pub heads_left : List Bool → HeadSet → HeadSet
heads_left stay set = record set { heads = items_where_true stay set.heads }

abbrev pub values_left : List Bool → Row → Row
values_left stay row = record row { values = items_where_true stay row.values }

abbrev pub attrs_left : Geo → Class → List Bool → Geo
attrs_left g class stay = with_class g class (heads_left stay (heads_of g class)) (map (values_left stay) (rows_of g class))

-- `class`, `names`
abbrev pub attrib_delete_geo : List (List ℕ) → Geo → Outcome
attrib_delete_geo parms g = let class = class_in (parm_at parms 0) in Ok (attrs_left g class (staying g class (words_of (parm_at parms 1))))
