-- A search for what decides about a `super`, and what it finds.
use Rattle.std.specs.Prelude.{ℕ, ◌<◌, List, Option, IfSome, length}
use Rattle.semantic_tree.specs.declared.node.Node.{Node}
use Rattle.check_model.specs.Context.{classes_from}
use Rattle.check_model.specs.Sight.{SeenClass}
use Rattle.check_model.specs.Super.{Verdict}
use Rattle.check_model.specs.Surroundings.{nodes_outward}
use Rattle.check_context.specs.Handed.{sight}
use Rattle.check_context.specs.declared.context.CheckContext.{CheckContext}
use Rattle.expression_checks.specs.Verdicts.{verdict_shown}
use Rattle.expression_checks.specs.Ways.{GoesAlong}
use Rattle.expression_checks.specs.declared.super_search.Found.{Found}
use Rattle.expression_checks.specs.declared.super_search.Searching.{Searching}

-- the class that there may be is in the table
abbrev pub ClassIsKept : CheckContext → Option ℕ → Type 0
ClassIsKept ctx kept = IfSome kept (λ c. c < length ctx.classes.now.classes.nodes)

-- the kept class and those around it
abbrev pub classes_kept : CheckContext → Option ℕ → List SeenClass
classes_kept ctx kept = classes_from ctx.classes.now.classes kept

-- the search goes outward from the node, and its class is in the table
pub record IsSearching (node : Node) (ctx : CheckContext) (state : Searching) : Type 0 where
  pub along : GoesAlong (nodes_outward (sight node ctx)) state.way
  pub kept : ClassIsKept ctx state.kept

-- what is found, as the rows have it
abbrev pub found_shown : CheckContext → Found → Verdict × List SeenClass
found_shown ctx found = (verdict_shown found.verdict, classes_kept ctx found.kept)
