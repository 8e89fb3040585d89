use Rattle.std.proofs.Common.{◌≡◌, ◌≤◌, List, [], drop, length, option_map, subst, arith}
use Rattle.semantic_kinds.specs.declared.role.Role.{Role}
use Rattle.semantic_tree.specs.ChildIter.{shown}
use Rattle.semantic_tree.specs.Children.{forest_of}
use Rattle.semantic_tree.specs.declared.node.Node.{Node}
use Rattle.walk_model.specs.WrittenNames.{Openers, WrittenName, written_by, written_below}
use Rattle.walk_notes.specs.WrittenNames.{Adds, openers_of}
use Rattle.walk_notes.proofs.Adding.{Rests, adds-both, rests-end, written-end}
use Rattle.walk_notes.proofs.namesakes.Namesakes.+collect.Goals as goal

pub returns : goal.returns
returns t c =
    let node : Node = c.args.kind.node.now in
    let o : Openers = openers_of c.args.openers.now in
    let items : List (Role × Node) = c.as_slice-role-items.result.now in
    let past : length items ≤ c.loop-role.role-index = omega arith in
    let none : written_below node o (forest_of (drop c.loop-role.role-index items)) ≡ [] = written-end node o items c.loop-role.role-index past in
    let all : List WrittenName = written_below node o node.children in
    let below : Adds c.note_node.new.self c.loop-role.self all =
    rests-end c.loop-role.self c.note_node.new.self all (subst (λ (ws : List WrittenName). Rests c.loop-role.self ws c.note_node.new.self all) none c.loop-role.invariant.rest) in
    adds-both c.args.self.now c.note_node.new.self c.loop-role.self (written_by node (option_map shown c.args.parent) o) all c.in_ok-note_node.ensures below
