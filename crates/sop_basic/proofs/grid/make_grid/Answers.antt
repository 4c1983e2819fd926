use Rattle.std.proofs.Common.{arith, Ok, Err, ◌*◌, ◌-◌}
use Rattle.sop_basic.specs.Grid.{grid_of}
use Rattle.sop_basic.specs.Outcomes.{then_with, all_in_range}
use Rattle.sop_basic.specs.Rules.{grid_rule}
use Rattle.sop_basic.specs.Making.{Makes}
use Rattle.sop_basic.proofs.MakingLemmas.{ended_as, makes_as}
use Rattle.sop_basic.proofs.GridLemmas.{grid_next, grid_is, tells_point, tells_quad, quad_within, few_points}
use Rattle.sop_basic.proofs.MovementLemmas.{targets, made_points, made_many, made_then, unmade_then}
use Rattle.sop_basic.proofs.grid.make_grid.Goals as goal

pub make_points-requires-clause-few : goal.make_points-requires-clause-few
make_points-requires-clause-few c = few_points c.args.grid.now.rows c.args.grid.now.cols c.requires.rows c.requires.cols

pub make_points-requires-clause-told : goal.make_points-requires-clause-told
make_points-requires-clause-told c = tells_point c.args.grid.now c.requires.some_cols c.requires.rows c.requires.cols

pub returns-in_err-make_points : goal.returns-in_err-make_points
returns-in_err-make_points c =
    let g = c.args.grid.now in
    ended_as c.from_residual.result c.in_err-make_points.field-0.0 (Makes c.args.vault.now c.make_points.new.vault c.args.key (Ok (grid_of g.rows g.cols g.sizex g.sizez))) c.from_residual.ensures.1
    (makes_as c.args.vault.now c.make_points.new.vault c.args.key (then_with (all_in_range (targets (grid_rule g) 0 (g.rows * g.cols))) (grid_next g c.requires.some_cols)) (Ok (grid_of g.rows g.cols g.sizex g.sizez)) (Err c.in_err-make_points.field-0.0) (grid_is g c.requires.some_cols)
    (unmade_then (grid_rule g) (g.rows * g.cols) c.args.vault.now c.make_points.new.vault c.args.key c.in_err-make_points.field-0.0 (grid_next g c.requires.some_cols) c.in_err-make_points.ensures))

pub add_quads-requires-clause-points : goal.add_quads-requires-clause-points
add_quads-requires-clause-points c =
    let g = c.args.grid.now in
    made_points (grid_rule g) (g.rows * g.cols) c.args.vault.now c.make_points.new.vault c.args.key c.in_ok-make_points.ensures (few_points g.rows g.cols c.requires.rows c.requires.cols)

pub add_quads-requires-clause-few : goal.add_quads-requires-clause-few
add_quads-requires-clause-few c = few_points (c.args.grid.now.rows - 1) (c.args.grid.now.cols - 1) (let few = c.requires.rows in omega arith) (let few = c.requires.cols in omega arith)

pub add_quads-requires-clause-told : goal.add_quads-requires-clause-told
add_quads-requires-clause-told c = tells_quad c.args.grid.now c.requires.rows c.requires.cols

pub add_quads-requires-clause-within : goal.add_quads-requires-clause-within
add_quads-requires-clause-within c = λ places there.
    let g = c.args.grid.now in
    quad_within g _ (made_many (grid_rule g) (g.rows * g.cols) c.args.vault.now c.make_points.new.vault c.args.key c.in_ok-make_points.ensures places there)

pub returns : goal.returns
returns c =
    let g = c.args.grid.now in
    makes_as c.args.vault.now c.add_quads.new.vault c.args.key (then_with (all_in_range (targets (grid_rule g) 0 (g.rows * g.cols))) (grid_next g c.requires.some_cols)) (Ok (grid_of g.rows g.cols g.sizex g.sizez)) c.add_quads.result (grid_is g c.requires.some_cols)
    (made_then (grid_rule g) (g.rows * g.cols) c.args.vault.now c.make_points.new.vault c.args.key c.in_ok-make_points.ensures c.add_quads.new.vault (grid_next g c.requires.some_cols) c.add_quads.result c.add_quads.ensures)
