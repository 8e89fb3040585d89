-- What the checks of a node rest on.
use Rattle.std.specs.Prelude.{Bool, ◌&&◌}
use Rattle.std.specs.List.{AllByRecursion}
use Rattle.semantic_tree.specs.declared.node.Node.{Node}
use Rattle.check_context.specs.Fitting.{fits_node}
use Rattle.check_context.specs.Handed.{IsHanded}
use Rattle.check_context.specs.declared.context.CheckContext.{CheckContext}
use Rattle.expression_checks.specs.SoundElements.{are_all_sound, AreSound}
use Rattle.type_checks.specs.GoodTypes.{has_good_type, HasGoodType}

-- what is handed in fits together, and the node, what it annotates and the elements of classes stand in the source, on characters
pub record IsCheckable (node : Node) (ctx : CheckContext) : Type 0 where
  pub handed : IsHanded node ctx
  pub annotated : HasGoodType node ctx
  pub elements : AllByRecursion (AreSound ctx.source_text.now) ctx.classes.now.classes.elements

-- the same as a test
abbrev pub is_checkable : Node → CheckContext → Bool
is_checkable node ctx = fits_node node ctx && (has_good_type node ctx && are_all_sound ctx.source_text.now ctx.classes.now.classes.elements)
