use Rattle.std.proofs.Common.{◌≡◌, List, drop}
use Rattle.semantic_tree.specs.Forest.{count}
use Rattle.semantic_tree.specs.Children.{forest_of}
use Rattle.semantic_tree.specs.declared.node.Node.{Node}
use Rattle.semantic_model.specs.Namespace.{reach}
use Rattle.namespace_states.specs.Statements.{lists_inside}
use Rattle.namespace_states.specs.Led.{led_by, led_below}
use Rattle.namespace_states.proofs.program_pass.ProgramPass.+visit.Given as goal

-- to note what is left is to note all
abbrev pub invariant-loop-child : goal.invariant-loop-child
invariant-loop-child l =
    let node : Node = l.kind.node.now in
    let inside : List (List Node) = lists_inside node l.fn.self.lists in
    record {
      items : forest_of l.child-items ≡ node.children;
      lists : l.self.lists ≡ inside;
      rest : led_below inside (forest_of (drop l.child-index l.child-items)) l.self.led ≡ led_below inside node.children (led_by l.fn.self.led node.node_id (reach (record { node = node; lists = l.fn.self.lists })));
    }

-- how many nodes are below
abbrev pub decreases-visit : goal.decreases-visit
decreases-visit l = count l.kind.node.now.children
