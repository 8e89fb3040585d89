use Rattle.semantic_tree.proofs.Preorder.{root_in_preorder, children_in_preorder}
use Rattle.semantic_tree.proofs.laws.numbers_go_down.Goals as goal

pub returns-clause-root : goal.returns-clause-root
returns-clause-root c = root_in_preorder

pub returns-clause-children : goal.returns-clause-children
returns-clause-children c = children_in_preorder
