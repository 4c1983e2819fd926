use Rattle.std.proofs.Common.{◌≡◌, ◌≤◌, take}
use Rattle.std.specs.Prelude.{IfSome}
use Rattle.sop_outside.specs.Causes.{Rose}
use Rattle.sopcook.specs.Loads.{HasFilesOf, HasMissing, HoldsLoads}
use Rattle.sopcook.proofs.loads.load_files.Given as goal

abbrev pub invariant-loop-node : goal.invariant-loop-node
invariant-loop-node g l = record {
  told : g.F.Files.told l.files ≡ g.F.Files.told l.initial.files;
  faults_later : g.F.Files.faults l.initial.files ≤ g.F.Files.faults l.files;
  misses_later : g.F.Files.misses l.initial.files ≤ g.F.Files.misses l.files;
  overs_later : g.F.Files.overs l.initial.files ≤ g.F.Files.overs l.files;
  loads : IfSome (g.F.Files.told l.initial.files) (λ names. HoldsLoads names l.loaded);
  all : HasFilesOf l.net.nodes (take l.node-index l.nodes) l.loaded;
  missing : HasMissing l.loaded → Rose (g.F.Files.misses l.initial.files) (g.F.Files.misses l.files);
}
