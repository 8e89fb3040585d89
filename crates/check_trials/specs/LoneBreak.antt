-- The program `break;`, and what is told of it.
use Rattle.std.specs.Prelude.{List, [], ◌∷◌, None, Some, codes}
use Rattle.semantic_syntax.specs.declared.source_type.Goal.TheVariants as goal
use Rattle.semantic_syntax.specs.declared.source_type.Lang.TheVariants as lang
use Rattle.semantic_kinds.specs.declared.kind.AstType.TheVariants as kind
use Rattle.semantic_kinds.specs.declared.role.Role.TheVariants as role
use Rattle.semantic_tree.specs.Forest.{nothing}
use Rattle.semantic_tree.specs.Tree.{Tree}
use Rattle.semantic_diagnostics.specs.declared.diagnostic.Diagnostic.{Diagnostic}
use Rattle.check_trials.specs.Write.{node, program, label_at, says}

abbrev pub lone_break : Tree
lone_break = program goal.Script lang.Js (codes "break;") 0 6 (node role.Body kind.BreakStatement 0 6 [] 0 1 nothing nothing)

abbrev pub illegal_break : List Diagnostic
illegal_break =
    says None (codes "Illegal break statement") (label_at 0 6 None ∷ []) (Some (codes "A `break` statement can only be used within an enclosing iteration or switch statement.")) None ∷ []
