use Rattle.sopcook.proofs.LoadsLemmas.{keeps_added, has_it, missing_added, told_added}
use Rattle.std.proofs.Common.{◌∙◌, ap}
use Rattle.std.specs.Prelude.{Ok}
use Rattle.sop_outside.specs.Causes.{Rose}
use Rattle.sopcook.proofs.loads.load_file.Goals as goal

pub returns-clause-loads : goal.returns-clause-loads
returns-clause-loads g c = told_added (g.F.Files.told c.args.files.now) c.args.loaded.now c.add.new.self c.args.name.now c.in_ok-load.load c.in_ok-add.ensures.ok c.in_ok-load.ensures.load

pub returns-clause-kept : goal.returns-clause-kept
returns-clause-kept g c = keeps_added c.args.loaded.now c.add.new.self c.args.name.now c.in_ok-load.load c.in_ok-add.ensures.ok

pub returns-clause-here : goal.returns-clause-here
returns-clause-here g c = has_it c.args.loaded.now c.add.new.self c.args.name.now c.in_ok-load.load c.in_ok-add.ensures.ok

pub returns-clause-missing : goal.returns-clause-missing
returns-clause-missing g c =
    missing_added c.args.loaded.now c.add.new.self c.args.name.now c.in_ok-load.load (Rose (g.F.Files.misses c.args.files.now) (g.F.Files.misses c.load_one.new.files)) c.in_ok-add.ensures.ok
    (λ e. c.load_one.ensures.misses.rose (c.in_ok-load.was ∙ ap Ok e))
