use Rattle.std.proofs.Common.{ap, subst, ◌∙◌}
use Rattle.node_store.specs.NodeList.{IsNodeList}
use Rattle.node_store.specs.PathIn.{path_in}
use Rattle.node_store.proofs.Walking.{has_parents, back_path}
use Rattle.node_store.proofs.nodes.AstNodes.back_from.Goals as goal

pub returns-clause-path : goal.returns-clause-path
returns-clause-path c = λ long.
    ap (path_in c.args.self.now) c.parent_or_root.ensures.parent ∙ back_path c.args.self.now (has_parents c.args.self.now (subst IsNodeList c.self.view_is c.self.invariant)) c.args.n c.requires long
