use Rattle.std.proofs.Common.{subst, Ok}
use Rattle.sop_model.specs.Geometry.{empty_geo}
use Rattle.sop_basic.specs.Making.{Gives}
use Rattle.sop_basic.specs.Outcomes.{limited}
use Rattle.sop_basic.specs.Grid.{grid_of}
use Rattle.sop_basic.specs.declared.grid.Grid.{Grid}
use Rattle.sop_basic.proofs.MakingLemmas.{prepares_of}
use Rattle.sop_basic.proofs.grid.cook_grid.Goals as goal

pub returns : goal.returns
returns c =
    let g = c.of-grid.result in
    subst (λ (g : Grid). Gives c.args.vault.now c.finish.new.vault (limited (Ok (grid_of g.rows g.cols g.sizex g.sizez))) c.finish.result) c.of-grid.ensures.value
    (c.finish.ensures.gives c.args.vault.now c.empty.new.self empty_geo (Ok (grid_of g.rows g.cols g.sizex g.sizez)) c.in_ok-key.ensures.ok (prepares_of c.empty.new.self c.make_grid-made.new.vault c.in_ok-key.key (Ok (grid_of g.rows g.cols g.sizex g.sizez)) c.make_grid-made.result c.make_grid-made.ensures))
