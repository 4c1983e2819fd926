use Rattle.std.proofs.Common.{sym, ◌∙◌}
use Rattle.sop_net.specs.Network.{node_of}
use Rattle.sop_net.proofs.ReadLemmas.{node_fits}
use Rattle.sop_basic.specs.Loads.{file_in}
use Rattle.sop_basic.specs.Cook as basic
use Rattle.sop_cook.specs.Made.{node_geo}
use Rattle.sop_cook.proofs.MakeLemmas.{known_basic, known_given, known_combined, all_live, all_good, gives_passes, gives_owns, node_ready, node_tells, gives_combined, gives_basic}
use Rattle.sop_cook.proofs.make.make.Goals as goal

pub cook_combine-requires : goal.cook_combine-requires
cook_combine-requires c = record {
  built = sym c.is_combining.ensures ∙ c.if-is_combining.true;
  values = c.parms-parms.ensures.values c.node_type-node_type.result c.node_type-node_type.ensures;
  needed = known_combined (node_of c.args.net.now.nodes c.args.node) c.node_type-node_type.result c.args.inputs.now c.node_type-node_type.ensures (λ n found. node_fits c.args.net.now.nodes c.args.node n c.is_network.ensures.network.nodes found) c.requires.filled;
  live = all_live c.args.vault.now c.args.inputs.now c.requires.ready;
}

pub returns-then-is_combining : goal.returns-then-is_combining
returns-then-is_combining c =
    let u = c.args.vault.now in
    let v = c.cook_combine.new.vault in
    let files = file_in c.args.loaded.now in
    let t = c.node_type-node_type.result in
    let parms = c.parms-parms.result.now in
    let keys = c.args.inputs.now in
    let r = c.cook_combine.result in
    let outcome = node_geo files t parms (basic.inputs_seen u keys) in
    let gives = gives_combined u v files t parms (basic.inputs_seen u keys) r (sym c.is_combining.ensures ∙ c.if-is_combining.true) c.cook_combine.ensures.gives in
    record {
      tells = node_tells u v files t parms keys r gives (node_of c.args.net.now.nodes c.args.node) c.node_type-node_type.ensures c.parms-parms.ensures.texts c.requires.ready;
      ready = node_ready u v files t parms keys r gives (c.cook_combine.ensures.good (all_good u keys c.requires.ready));
      passes = gives_passes u v outcome r gives;
      owns = gives_owns u v outcome r gives;
    }

pub cook_basic-requires : goal.cook_basic-requires
cook_basic-requires c = record {
  built = known_basic (node_of c.args.net.now.nodes c.args.node) c.node_type-node_type.result c.node_type-node_type.ensures c.requires.live c.requires.built (sym c.is_combining.ensures ∙ c.if-is_combining.false);
  values = c.parms-parms.ensures.values c.node_type-node_type.result c.node_type-node_type.ensures;
  needed = known_given (node_of c.args.net.now.nodes c.args.node) c.node_type-node_type.result c.args.inputs.now c.node_type-node_type.ensures (λ n found. node_fits c.args.net.now.nodes c.args.node n c.is_network.ensures.network.nodes found) c.requires.filled;
  live = all_live c.args.vault.now c.args.inputs.now c.requires.ready;
}

pub returns-else-is_combining : goal.returns-else-is_combining
returns-else-is_combining c =
    let u = c.args.vault.now in
    let v = c.cook_basic.new.vault in
    let files = file_in c.args.loaded.now in
    let t = c.node_type-node_type.result in
    let parms = c.parms-parms.result.now in
    let keys = c.args.inputs.now in
    let r = c.cook_basic.result in
    let outcome = node_geo files t parms (basic.inputs_seen u keys) in
    let gives = gives_basic u v files t parms (basic.inputs_seen u keys) r (sym c.is_combining.ensures ∙ c.if-is_combining.false) c.cook_basic.ensures.gives in
    record {
      tells = node_tells u v files t parms keys r gives (node_of c.args.net.now.nodes c.args.node) c.node_type-node_type.ensures c.parms-parms.ensures.texts c.requires.ready;
      ready = node_ready u v files t parms keys r gives (c.cook_basic.ensures.good (all_good u keys c.requires.ready));
      passes = gives_passes u v outcome r gives;
      owns = gives_owns u v outcome r gives;
    }
