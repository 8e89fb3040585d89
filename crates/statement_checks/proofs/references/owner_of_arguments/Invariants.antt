use Rattle.std.proofs.Common.{◌≡◌, ◌||◌, length}
use Rattle.std.specs.Prelude.{find}
use Rattle.semantic_kinds.specs.declared.kind.AstType.TheVariants as kinds
use Rattle.semantic_tree.specs.Views.{is}
use Rattle.check_model.specs.Names.{is_field_value, is_static_block}
use Rattle.check_context.specs.Shown.{links_left}
use Rattle.statement_checks.proofs.references.owner_of_arguments.Given as goal

abbrev pub invariant-loop-child : goal.invariant-loop-child
invariant-loop-child l = find (λ link. is kinds.Function link.1 || (is_field_value link || is_static_block link)) (links_left l.left) ≡ find (λ link. is kinds.Function link.1 || (is_field_value link || is_static_block link)) (links_left l.initial.left)

abbrev pub decreases-loop-child : goal.decreases-loop-child
decreases-loop-child l = length (links_left l.left)
