-- What the checks of a node rest on holds exactly where the test says so.
use Rattle.std.proofs.Common.{◌≡◌, Bool, true, ◌&&◌, Option, Some, None, refl}
use Rattle.std.specs.Prelude.{IfSome}
use Rattle.std.specs.Option.{option_map_or}
use Rattle.semantic_kinds.specs.declared.role.Role.TheVariants as roles
use Rattle.semantic_tree.specs.Sound.{has_good_span}
use Rattle.semantic_tree.specs.Views.{child_of}
use Rattle.semantic_tree.specs.declared.node.Node.{Node}
use Rattle.check_context.specs.Fitting.{fits_node}
use Rattle.check_context.specs.declared.context.CheckContext.{CheckContext}
use Rattle.check_context.proofs.Fitting.{both_hold, holds_both, tested_handed, handed_told}
use Rattle.expression_checks.specs.SoundElements.{are_all_sound}
use Rattle.expression_checks.proofs.AllSound.{tested_sound, sound_told}
use Rattle.type_checks.specs.GoodTypes.{has_good_type, HasGoodSpan}
use Rattle.checker.specs.Checkable.{is_checkable, IsCheckable}

module _ (node : Node) (ctx : CheckContext) where
  tested_type : (child : Option Node) → option_map_or (has_good_span ctx.source_text.now) child true ≡ true → IfSome child (HasGoodSpan ctx)
  tested_type None h = tt
  tested_type (Some child) h = h

  type_told : (child : Option Node) → IfSome child (HasGoodSpan ctx) → option_map_or (has_good_span ctx.source_text.now) child true ≡ true
  type_told None h = refl
  type_told (Some child) h = h

  abbrev elements_hold : Bool
  elements_hold = are_all_sound ctx.source_text.now ctx.classes.now.classes.elements

  pub tested_checkable : is_checkable node ctx ≡ true → IsCheckable node ctx
  tested_checkable h =
      let fit = both_hold (fits_node node ctx) (has_good_type node ctx && elements_hold) h in
      let rest = both_hold (has_good_type node ctx) elements_hold fit.1 in
      record {
        handed = tested_handed ctx node fit.0;
        annotated = tested_type (child_of roles.Element node) rest.0;
        elements = tested_sound ctx.source_text.now ctx.classes.now.classes.elements rest.1;
      }

  pub checkable_told : IsCheckable node ctx → is_checkable node ctx ≡ true
  checkable_told h =
      holds_both (fits_node node ctx) (has_good_type node ctx && elements_hold) (handed_told ctx node h.handed)
      (holds_both (has_good_type node ctx) elements_hold (type_told (child_of roles.Element node) h.annotated)
      (sound_told ctx.source_text.now ctx.classes.now.classes.elements h.elements))
