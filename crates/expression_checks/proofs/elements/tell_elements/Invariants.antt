use Rattle.std.proofs.Common.{◌≡◌, take, map}
use Rattle.class_table.specs.Seen.{element_seen}
use Rattle.check_model.specs.Elements.{class_rows}
use Rattle.check_context.specs.Handed.{around}
use Rattle.check_context.specs.Tells.{IsTelling}
use Rattle.expression_checks.specs.Predecessors.{earlier_of}
use Rattle.expression_checks.proofs.EachElement.{rows_left}
use Rattle.expression_checks.proofs.elements.tell_elements.Given as goal

abbrev pub invariant-loop-own : goal.invariant-loop-own
invariant-loop-own l = record {
  earlier : l.earlier ≡ earlier_of (map element_seen (take l.own-index l.elements));
  told : IsTelling (class_rows (around l.ctx) (map element_seen l.elements)) (rows_left (around l.ctx) l.elements l.own-index) l.fn.out l.out;
}
