use Rattle.std.proofs.Common.{drop, map, flat_map}
use Rattle.class_table.specs.Seen.{element_seen}
use Rattle.check_model.specs.Elements.{class_rows}
use Rattle.check_context.specs.Handed.{around}
use Rattle.check_context.specs.Tells.{IsTelling}
use Rattle.expression_checks.proofs.elements.tell_classes.Given as goal

abbrev pub invariant-loop-elements : goal.invariant-loop-elements
invariant-loop-elements l =
    IsTelling (flat_map (class_rows (around l.ctx)) (map (λ v. map element_seen v.items) l.classes)) (flat_map (class_rows (around l.ctx)) (map (λ v. map element_seen v.items) (drop l.elements-index l.classes))) l.fn.out l.out
