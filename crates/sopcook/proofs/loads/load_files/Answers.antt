use Rattle.std.proofs.Common.{◌≡◌, ◌∙◌, sym, ap, subst, arith, take, rules, inl, inr, ◌++◌, ◌∷◌, []}
use Rattle.std.proofs.lemmas.List.{take_more}
use Rattle.std.proofs.Math.Seq.{take-length}
use Rattle.sop_net.specs.Needs.{IsFileNode}
use Rattle.sopcook.specs.Loads.{HasFilesOf}
use Rattle.sopcook.proofs.LoadsLemmas.{holds_none, files_none, files_more, none_missing, told_more}
use Rattle.sopcook.proofs.Prefixes.{rose_before, rose_later}
use Rattle.sopcook.proofs.loads.load_files.Goals as goal

pub loop-node-init : goal.loop-node-init
loop-node-init g c = record {
  told = search rules;
  faults_later = omega arith;
  misses_later = omega arith;
  overs_later = omega arith;
  loads = holds_none (g.F.Files.told c.args.files.now) c.new-loaded.result c.new-loaded.ensures;
  all = files_none c.args.net.now.nodes c.new-loaded.result;
  missing = λ has. absurd (none_missing c.new-loaded.result c.new-loaded.ensures has);
}

pub file_name-requires : goal.file_name-requires
file_name-requires g c = subst (λ y. IsFileNode c.args.net.now.nodes y) (sym c.node-item.is) (c.requires c.loop-node.node-index c.node-item.result c.loop-node-test.true)

pub loop-node-preserved : goal.loop-node-preserved
loop-node-preserved g c =
    let nodes = c.args.net.now.nodes in
    let x = c.node-item.result in
    let i = c.loop-node.node-index in
    let more = take_more c.args.nodes.now i x c.loop-node-test.true ∙ ap (λ y. take i c.args.nodes.now ++ y ∷ []) (sym c.node-item.is) in
    let inv = c.loop-node.invariant in
    record {
      told = c.load_file.ensures.told ∙ inv.told;
      faults_later = omega (arith, inv.faults_later, c.load_file.ensures.faults.later);
      misses_later = omega (arith, inv.misses_later, c.load_file.ensures.misses_later);
      overs_later = omega (arith, inv.overs_later, c.load_file.ensures.overs_later);
      loads = told_more (g.F.Files.told c.args.files.now) (g.F.Files.told c.loop-node.files) c.loop-node.loaded c.load_file.new.loaded inv.told inv.loads c.in_ok-load_file.ensures.loads;
      all = subst (λ xs. HasFilesOf nodes xs c.load_file.new.loaded) (sym more)
          (files_more nodes (take i c.args.nodes.now) x c.loop-node.loaded c.load_file.new.loaded c.file_name.result.now inv.all c.in_ok-load_file.ensures.kept c.in_ok-load_file.ensures.here c.file_name.ensures);
      missing = λ has.
          elim (c.in_ok-load_file.ensures.missing has) [
            | inl before ↦ rose_later (g.F.Files.misses c.args.files.now) (g.F.Files.misses c.loop-node.files) (g.F.Files.misses c.load_file.new.files) (inv.missing before) c.load_file.ensures.misses_later
            | inr now ↦ rose_before (g.F.Files.misses c.args.files.now) (g.F.Files.misses c.loop-node.files) (g.F.Files.misses c.load_file.new.files) inv.misses_later now
          ];
    }

pub returns-clause-all : goal.returns-clause-all
returns-clause-all g c =
    let end = c.loop-node.auto.node-index-end in
    let test = c.loop-node-test.false in
    let whole : take c.loop-node.node-index c.args.nodes.now ≡ c.args.nodes.now = ap (λ n. take n c.args.nodes.now) (omega (arith, end, test)) ∙ take-length c.args.nodes.now in
    subst (λ xs. HasFilesOf c.args.net.now.nodes xs c.loop-node.loaded) whole c.loop-node.invariant.all
