use Rattle.sop_model.specs.declared.class.Class.{Class}
use Rattle.sop_model.specs.declared.class.Class.TheVariants.{Detail, Prim, Point, Vertex}
use Rattle.sop_model.specs.declared.geo.Geo.{Geo}
use Rattle.sop_model.specs.Geometry.{heads_of, set_bounds, AreKept}
use Rattle.sop_vault.proofs.loading.are_sets_few.Goals as goal

abbrev Few : Geo → Class → Type 0
Few g class = AreKept (set_bounds (heads_of g class))

each : (g : Geo) → Few g Detail → Few g Prim → Few g Point → Few g Vertex → (class : Class) → Few g class
each g d p o v Detail = d
each g d p o v Prim = p
each g d p o v Point = o
each g d p o v Vertex = v

pub returns-then-are_two_few : goal.returns-then-are_two_few
returns-then-are_two_few c =
    let front = c.are_two_few.ensures.0 c.if-are_two_few.true in
    (λ t. let back = c.are_two_few-then-are_two_few.ensures.0 t in each c.args.rows.now front.0 front.1 back.0 back.1, λ all. c.are_two_few-then-are_two_few.ensures.1 (all Point, all Vertex))

pub returns-else-are_two_few : goal.returns-else-are_two_few
returns-else-are_two_few c = (λ t. let no = c.if-are_two_few.false in cc, λ all. c.are_two_few.ensures.1 (all Detail, all Prim))
