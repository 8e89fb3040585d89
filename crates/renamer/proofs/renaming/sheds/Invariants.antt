use Rattle.std.proofs.Common.{◌≡◌}
use Rattle.std.specs.List.{list_any}
use Rattle.semantic_kinds.specs.declared.role.Role.TheVariants as role
use Rattle.semantic_tree.specs.ChildIter.{left_of}
use Rattle.semantic_tree.specs.Views.{children_of}
use Rattle.mangle_model.specs.WithNames.{is_given}
use Rattle.rename_model.specs.WithName.{is_named_value}
use Rattle.renamer.proofs.renaming.sheds.Given as goal

-- no value so far is named
abbrev pub invariant-loop-value : goal.invariant-loop-value
invariant-loop-value g l =
    list_any (is_named_value (is_given (g.N.GivenNames.given l.names))) (left_of l.value-iterator)
    ≡ list_any (is_named_value (is_given (g.N.GivenNames.given l.names))) (children_of role.Value l.fn.node.node.now.children)
