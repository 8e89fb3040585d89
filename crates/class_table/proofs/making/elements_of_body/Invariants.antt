use Rattle.std.proofs.Common.{◌≡◌, ◌++◌, map, filter_map}
use Rattle.semantic_tree.specs.ChildIter.{left_of}
use Rattle.semantic_model.specs.Element.{element_of, elements_of}
use Rattle.class_table.specs.Seen.{element_seen}
use Rattle.class_table.proofs.making.elements_of_body.Given as goal

-- the members that are left make the elements that are still to be made
abbrev pub invariant-loop-member : goal.invariant-loop-member
invariant-loop-member l = map element_seen l.elements.items ++ filter_map element_of (left_of l.member-iterator) ≡ elements_of l.body.node.now.children
