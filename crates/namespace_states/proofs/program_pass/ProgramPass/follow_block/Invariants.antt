use Rattle.std.proofs.Common.{◌≡◌, ◌∷◌, List, map}
use Rattle.semantic_tree.specs.declared.node.Node.{Node}
use Rattle.semantic_tree.specs.ChildIter.{left_of}
use Rattle.semantic_model.specs.Namespace.{Item, statements, leads_to}
use Rattle.namespace_states.specs.Led.{led_by}
use Rattle.namespace_states.proofs.program_pass.ProgramPass.follow_block.Given as goal

abbrev items : List (List Node) → List Node → List Item
items lists nodes = map (λ (x : Node). record { node = x; lists = lists }) nodes

-- with those that are left, the statement leads to all
abbrev pub invariant-loop-statement : goal.invariant-loop-statement
invariant-loop-statement l =
    let inside : List (List Node) = statements l.fn.block.node.now ∷ l.initial.self.lists in
    record {
      lists : l.self.lists ≡ l.initial.self.lists;
      rest : led_by l.self.led l.fn.from (leads_to (items inside (left_of l.statement-iterator))) ≡ led_by l.initial.self.led l.fn.from (leads_to (items inside (statements l.fn.block.node.now)));
    }
