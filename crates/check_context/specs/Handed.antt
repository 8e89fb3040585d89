-- What is handed to a check beside the node, and what the check sees by it.
use Rattle.std.specs.Prelude.{◌≡◌, ◌<◌, ◌≤◌, ◌||◌, [], Bool, true, drop, length}
use Rattle.semantic_kinds.specs.MarkSets.{no_marks}
use Rattle.semantic_kinds.specs.declared.kind.AstType.TheVariants.{Program}
use Rattle.semantic_tree.specs.Forest.{nothing}
use Rattle.semantic_tree.specs.Limits.{source_limit}
use Rattle.semantic_tree.specs.Sound.{is_sound}
use Rattle.semantic_tree.specs.declared.node.Node.{Node}
use Rattle.node_store.specs.PathOf.{path_of, IsInStore}
use Rattle.class_table.specs.Building.{IsCurrent}
use Rattle.check_model.specs.Context.{Context, sight_shown}
use Rattle.check_model.specs.Sight.{Sight, SeenScope}
use Rattle.check_context.specs.declared.context.CheckContext.{CheckContext}

-- what is handed in, as values
abbrev pub handed : CheckContext → Context
handed ctx = record {
  source = ctx.source_text.now;
  source_type = ctx.source_type;
  tables = ctx.scoping.now;
  nodes = ctx.tables.now;
  classes = ctx.classes.now.classes;
  current_class = ctx.classes.now.current_class_id;
  path = drop 1 (path_of ctx.ancestry);
  current_scope = ctx.current_scope_id;
  is_ambient = ctx.in_ambient;
}

-- what a check sees at a node
abbrev pub sight : Node → CheckContext → Sight
sight node ctx = sight_shown node (handed ctx)

-- a node of which nothing is known
abbrev pub no_node : Node
no_node = record { kind = Program; span = record { start = 0; end = 0 }; text = []; marks = no_marks; children = nothing; node_id = 0 }

-- what a check sees around the node, whatever the node is
abbrev pub around : CheckContext → Sight
around ctx = sight no_node ctx

-- the scope is a static block's or a function's
abbrev pub is_block_or_function : SeenScope → Bool
is_block_or_function seen = seen.is_static_block || seen.is_function

-- the current node is in its store, scope and class are in their tables, and the source keeps its limit
pub record IsContext (ctx : CheckContext) : Type 0 where
  pub path : IsInStore ctx.ancestry
  pub scope : ctx.current_scope_id < length ctx.scoping.now.scopes
  pub class : IsCurrent ctx.classes.now
  pub source : length ctx.source_text.now ≤ source_limit

-- and the node stands in the source, on characters
pub record IsHanded (node : Node) (ctx : CheckContext) : Type 0 where
  pub context : IsContext ctx
  pub span : is_sound ctx.source_text.now node.span ≡ true
