use Rattle.std.proofs.Common.{rules, ◌≡◌, ◌∙◌, sym, subst, ℕ, List, []}
use Rattle.std.specs.Prelude.{All, IsTrue, Some, option_map, unwrap_or}
use Rattle.std.proofs.lemmas.Result.{IfOk-weaker}
use Rattle.sop_model.specs.Names.{is_name}
use Rattle.sop_net.specs.declared.node.Node.{Node}
use Rattle.sop_net.specs.Network.{node_of, IsNodeOf}
use Rattle.sop_net.proofs.ReadLemmas.{node_fits, read_node}
use Rattle.sopcook.specs.Answer.{name_at}
use Rattle.sopcook.proofs.answer.Answer.of_fault.Goals as goal

-- a node that stands has a name
named : (nodes : List Node) (x : ℕ) (name : List ℕ) → All IsNodeOf nodes → option_map (λ n. n.name) (node_of nodes x) ≡ Some name → IsTrue (is_name (name_at nodes x))
named nodes x name all is =
    let r = read_node nodes x (λ n. n.name) name is in
    subst (λ found. IsTrue (is_name (unwrap_or (option_map (λ n. n.name) found) []))) (sym r.found) (node_fits nodes x r.node all r.found).name

pub returns-clause-line : goal.returns-clause-line
returns-clause-line c = λ has_name.
    let nodes = c.args.net.now.nodes in
    IfOk-weaker c.refused.result _ _
    (λ answer is. record {
      node = name_at nodes c.args.node;
      is = is ∙ search rules;
      is_name = named nodes c.args.node c.name.result.now c.is_network.ensures.network.nodes c.name.ensures;
      is_one_line = c.print.ensures.one_line has_name;
    })
    c.refused.ensures
