-- Functions of a name that stand where no grammar has them (ECMA-262, 14.7, B.3.3).
use Rattle.std.specs.Prelude.{List, Bool, false, ◌&&◌, ◌||◌, not, bytes_eq}
use Rattle.std.specs.List.{list_any}
use Rattle.semantic_syntax.specs.Tables.{Name}
use Rattle.semantic_syntax.specs.declared.source_type.SourceType.{SourceType}
use Rattle.semantic_tree.specs.Tree.{Tree}
use Rattle.semantic_tree.specs.declared.node.Node.{Node}
use Rattle.semantic_model.specs.Step.{Step, entering, steps}
use Rattle.tangle_model.specs.Surroundings.{in_block_under}
use Rattle.language_ties.specs.AgreeingNames.{leaves_block}
use Rattle.language_ties.specs.Bound.{Bound, bound_by_node, is_bound_as}
use Rattle.language_ties.specs.Environments.{is_made_for}
use Rattle.language_ties.specs.declared.bound_as.BoundAs.TheVariants as bound
use Rattle.language_ties.specs.declared.environment_kind.EnvironmentKind.TheVariants as environment

-- it has a variable beside, but stands in no block, no case and no `if`, as the body of a loop does; or it is the body of an `if` without such a variable, in strict code, `async` or as a generator
abbrev pub is_misplaced : List Node → Bound → Bool
is_misplaced path b =
    is_bound_as bound.Function b
    && ((leaves_block b && not (in_block_under path)) || (not (leaves_block b) && is_made_for environment.IfBody b.environment))

abbrev pub misplaced_at : SourceType → Name → Step → Bool
misplaced_at s name (entering q) = list_any (λ b. bytes_eq b.name name && is_misplaced q.path b) (bound_by_node q.node.kind s q.node q.path)
misplaced_at s name _ = false

-- whether a function of the name stands so
abbrev pub has_misplaced : Tree → Name → Bool
has_misplaced p name = list_any (misplaced_at p.source_type name) (steps p)
