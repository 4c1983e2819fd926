-- Lines, grids and boxes as the code has them: from their parameters, and by which rules their points and primitives come. For private
-- contracts.
use Rattle.std.specs.Prelude.{ℕ, false, length, slice_index_or, ◌+◌, ◌-◌, ◌*◌, ◌/◌, ◌%◌, suc, List, [], ◌∷◌, if◌then◌else◌, ◌==◌, ◌<◌, ◌≤◌, map, Ok, ⊤}
use Rattle.std.specs.List.{range_with_len}
use Rattle.sop_net.specs.Network.{parm_at}
use Rattle.sop_basic.specs.declared.line.Line.{Line}
use Rattle.sop_basic.specs.declared.box_node.BoxShape.{BoxShape}
use Rattle.sop_basic.specs.declared.grid.Grid.{Grid}
use Rattle.sop_basic.specs.declared.xform.Move.{Move}
use Rattle.sop_basic.specs.Shapes.{shape}
use Rattle.sop_basic.specs.Box.{corner_place, sides}
use Rattle.sop_basic.specs.Grid.{grid_place}
use Rattle.sop_basic.specs.Xform.{moved}
use Rattle.sop_basic.specs.ParmTexts.{count_in, number_in, vector_in}
use Rattle.sop_basic.specs.Outcomes.{Outcome, then_with, all_in_range}
use Rattle.sop_basic.specs.Line.{way_to, place_along, line_places, line_through}
use Rattle.sop_basic.specs.Movements.{Rule}

abbrev pub line_in : List (List ℕ) → Line
line_in parms = record { origin = vector_in (parm_at parms 0); dir = vector_in (parm_at parms 1); dist = number_in (parm_at parms 2); points = count_in (parm_at parms 3) }

abbrev pub line_rule : Line → Rule
line_rule l i place = place_along l.origin l.dir (way_to l.dist l.points i)

abbrev pub tells_of_line : Line → ℕ → Type 0
tells_of_line l i = i < l.points

abbrev pub line_made : Line → Outcome
line_made l = then_with (line_places l.origin l.dir l.dist l.points) (λ places. Ok (line_through places))

abbrev pub box_in : List (List ℕ) → BoxShape
box_in parms = record { size = vector_in (parm_at parms 0); center = vector_in (parm_at parms 1) }

abbrev pub box_rule : BoxShape → Rule
box_rule b i place = corner_place b.size b.center i

-- the points of the sides, in the order of the primitives
abbrev pub side_corners : ℕ → List ℕ
side_corners i =
    if i == 0 then 0 ∷ 2 ∷ 3 ∷ 1 ∷ []
    else if i == 1 then 4 ∷ 5 ∷ 7 ∷ 6 ∷ []
    else if i == 2 then 0 ∷ 1 ∷ 5 ∷ 4 ∷ []
    else if i == 3 then 2 ∷ 6 ∷ 7 ∷ 3 ∷ []
    else if i == 4 then 0 ∷ 4 ∷ 6 ∷ 2 ∷ []
    else 1 ∷ 3 ∷ 7 ∷ 5 ∷ []

-- every number has its rule
abbrev pub tells_all : {S : Type 0} → S → ℕ → Type 0
tells_all s i = ⊤

abbrev pub box_made : BoxShape → Outcome
box_made b = then_with (all_in_range (map (corner_place b.size b.center) (range_with_len 0 8))) (λ places. Ok (shape places sides))

abbrev pub grid_in : List (List ℕ) → Grid
grid_in parms = record { rows = count_in (parm_at parms 0); cols = count_in (parm_at parms 1); sizex = number_in (parm_at parms 2); sizez = number_in (parm_at parms 3) }

abbrev pub grid_rule : Grid → Rule
grid_rule g i place = Ok (grid_place g.rows g.cols g.sizex g.sizez (i / g.cols) (i % g.cols))

-- the point of this number is one of a grid of at most 1,000 rows and columns
pub record TellsOfGrid (g : Grid) (i : ℕ) : Type 0 where
  pub some : 0 < g.cols
  pub row : i / g.cols < g.rows
  pub rows : g.rows ≤ 1000
  pub cols : g.cols ≤ 1000

abbrev pub quad_corners : Grid → ℕ → List ℕ
quad_corners g i =
    let r = i / (g.cols - 1) in
    let c = i % (g.cols - 1) in
    (r * g.cols + c) ∷ (r * g.cols + suc c) ∷ (suc r * g.cols + suc c) ∷ (suc r * g.cols + c) ∷ []

-- the primitive of this number is one of such a grid
pub record TellsOfQuad (g : Grid) (i : ℕ) : Type 0 where
  pub some : 1 < g.cols
  pub row : i / (g.cols - 1) < g.rows - 1
  pub rows : g.rows ≤ 1000
  pub cols : g.cols ≤ 1000

-- a point goes where it is selected
abbrev pub moving : Move → Rule
moving m i place = if slice_index_or m.selected.now i false then moved m.by m.scale place else Ok place

abbrev pub tells_of_move : Move → ℕ → Type 0
tells_of_move m i = i < length m.selected.now
