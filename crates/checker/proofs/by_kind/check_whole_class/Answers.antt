use Rattle.check_context.proofs.Telling.{first_begun, then_begun, first_stops, then_tells}
use Rattle.checker.proofs.Both.{both_told}
use Rattle.checker.proofs.by_kind.check_whole_class.Goals as goal

pub returns-in_err-check_class : goal.returns-in_err-check_class
returns-in_err-check_class c = first_stops _ c.from_residual.result _ _ _ _ c.from_residual.ensures.1 (first_begun _ _ _ _ c.in_err-check_class.ensures)

pub returns-in_err-check_class_redeclaration : goal.returns-in_err-check_class_redeclaration
returns-in_err-check_class_redeclaration c = first_stops _ c.from_residual-in_err-check_class_redeclaration.result _ _ _ _ c.from_residual-in_err-check_class_redeclaration.ensures.1 (then_begun _ _ _ _ _ c.in_ok-check_class.ensures c.in_err-check_class_redeclaration.ensures)

pub returns : goal.returns
returns c = then_tells c.check_class-2.result _ _ _ _ _ (both_told _ _ _ _ _ c.in_ok-check_class.ensures c.in_ok-check_class_redeclaration.ensures) c.check_class-2.ensures
