use Rattle.std.proofs.Common.{ap, subst, ◌∙◌}
use Rattle.node_store.specs.NodeList.{NodeList, IsNodeList}
use Rattle.node_store.specs.PathIn.{path_in}
use Rattle.node_store.proofs.Walking.{has_parents, next_path, on_ok}
use Rattle.node_store.proofs.nodes.AstNodes.push_below.Goals as goal

pub returns-clause-path : goal.returns-clause-path
returns-clause-path c =
    on_ok c.push.result c.push.ensures.ok
    (λ made.
    ap (λ (l : NodeList). path_in l c.args.n) made
    ∙ next_path c.args.self.now (has_parents c.args.self.now (subst IsNodeList c.self.view_is c.self.invariant)) c.args.kind.node.now c.args.n c.args.scope c.args.parent c.empty.result c.args.n c.requires.next c.requires.within)
