-- Whether what is handed to a check fits together, as tests.
use Rattle.std.specs.Prelude.{ℕ, Bool, true, ◌&&◌, nat_le, nat_lt, length}
use Rattle.std.specs.Option.{option_map_or}
use Rattle.semantic_tree.specs.Limits.{source_limit}
use Rattle.semantic_tree.specs.Sound.{is_sound}
use Rattle.semantic_tree.specs.declared.node.Node.{Node}
use Rattle.node_store.specs.declared.ancestry.Ancestry.{Ancestry}
use Rattle.node_store.specs.declared.ancestry.Ancestry.TheVariants.{Nodes, Stack}
use Rattle.class_table.specs.declared.builder.ClassTableBuilder.{ClassTableBuilder}
use Rattle.check_context.specs.declared.context.CheckContext.{CheckContext}

-- where there is a store, it has the current node
abbrev pub is_in_store : Ancestry → Bool
is_in_store (Nodes nodes current) = nat_lt current (length nodes.now.nodes)
is_in_store (Stack stack) = true

-- the current class is there
abbrev pub is_current : ClassTableBuilder → Bool
is_current b = option_map_or (λ c. nat_lt c (length b.classes.nodes)) b.current_class_id true

-- the current node is in its store, class and scope are in their tables, and the source keeps its limit
abbrev pub context_fits : CheckContext → Bool
context_fits ctx = is_in_store ctx.ancestry && (is_current ctx.classes.now && (nat_lt ctx.current_scope_id (length ctx.scoping.now.scopes) && nat_le (length ctx.source_text.now) source_limit))

-- and the node stands in the source, on characters
abbrev pub fits_node : Node → CheckContext → Bool
fits_node node ctx = context_fits ctx && is_sound ctx.source_text.now node.span
