use Rattle.std.proofs.Common.{IfOk, subst}
use Rattle.semantic_tree.specs.declared.node.Node.{Node}
use Rattle.semantic_model.specs.Entries.{Among}
use Rattle.semantic_model.specs.Namespace.{Item}
use Rattle.namespace_states.specs.Reaches.{IsGreatestReached}
use Rattle.namespace_states.specs.Statements.{items_from}
use Rattle.namespace_states.specs.StatesByMarks.{state_in}
use Rattle.namespace_states.proofs.FoundStates.{states_placed, states_searched}
use Rattle.namespace_states.proofs.states.NamespaceStates.of.Goals as goal

pub returns-clause-reached : goal.returns-clause-reached
returns-clause-reached c =
    states_placed c.search_back.result c.args.program.now
    (subst (λ (root : Node). IfOk c.search_back.result (λ made. (i : Item) → Among i (items_from root) → IsGreatestReached i (state_in made i.node.node_id))) c.root.ensures.root c.search_back.ensures)

pub returns-clause-searched : goal.returns-clause-searched
returns-clause-searched c =
    states_searched c.search_back.result c.args.program.now c.root.ensures.numbered
    (states_placed c.search_back.result c.args.program.now
    (subst (λ (root : Node). IfOk c.search_back.result (λ made. (i : Item) → Among i (items_from root) → IsGreatestReached i (state_in made i.node.node_id))) c.root.ensures.root c.search_back.ensures))
