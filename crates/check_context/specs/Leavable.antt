-- What the check of a node that is left asks of what a walk hands to it.
use Rattle.std.specs.Prelude.{◌<◌, ◌≤◌, length, nat_eq}
use Rattle.std.specs.List.{IsDistinct}
use Rattle.std.specs.Map.{keys_of}
use Rattle.semantic_tree.specs.Limits.{source_limit}
use Rattle.semantic_tree.specs.Tree.{IsPreorder}
use Rattle.semantic_tree.specs.declared.node.Node.{Node}
use Rattle.node_store.specs.PathOf.{IsInStore}
use Rattle.class_table.specs.Building.{IsCurrent}
use Rattle.check_context.specs.declared.context.CheckContext.{CheckContext}
use Rattle.check_context.specs.Sound.{IsInSource, AreAllSound}

pub record IsLeavable (node : Node) (ctx : CheckContext) : Type 0 where
  -- the current node is in its store, scope and class are in their tables, and the source keeps its limit
  pub path : IsInStore ctx.ancestry
  pub scope : ctx.current_scope_id < length ctx.scoping.now.scopes
  pub class : IsCurrent ctx.classes.now
  pub limit : length ctx.source_text.now ≤ source_limit
  -- the node, all below it and the elements of classes stand in the source, and it is numbered in preorder
  pub in_source : IsInSource ctx.source_text.now node
  pub order : IsPreorder node
  pub elements : AreAllSound ctx.source_text.now ctx.classes.now.classes.elements
  -- no node has two references
  pub apart : IsDistinct nat_eq (keys_of ctx.tables.now.references)
