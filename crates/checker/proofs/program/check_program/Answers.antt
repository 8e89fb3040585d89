use Rattle.check_context.proofs.Telling.{first_begun, then_begun, first_stops, then_tells}
use Rattle.checker.proofs.Both.{both_told}
use Rattle.checker.proofs.program.check_program.Goals as goal

pub returns-in_err-check_duplicate_class_elements : goal.returns-in_err-check_duplicate_class_elements
returns-in_err-check_duplicate_class_elements c = first_stops _ c.from_residual.result _ _ _ _ c.from_residual.ensures.1 (first_begun _ _ _ _ (first_begun _ _ _ _ c.in_err-check_duplicate_class_elements.ensures))

pub returns-in_err-check_unresolved_exports : goal.returns-in_err-check_unresolved_exports
returns-in_err-check_unresolved_exports c = first_stops _ c.from_residual-in_err-check_unresolved_exports.result _ _ _ _ c.from_residual-in_err-check_unresolved_exports.ensures.1 (first_begun _ _ _ _ (then_begun _ _ _ _ _ c.in_ok-check_duplicate_class_elements.ensures c.in_err-check_unresolved_exports.ensures))

pub returns-in_err-check_import_value_redeclarations : goal.returns-in_err-check_import_value_redeclarations
returns-in_err-check_import_value_redeclarations c = first_stops _ c.from_residual-in_err-check_import_value_redeclarations.result _ _ _ _ c.from_residual-in_err-check_import_value_redeclarations.ensures.1 (then_begun _ _ _ _ _ (both_told _ _ _ _ _ c.in_ok-check_duplicate_class_elements.ensures c.in_ok-check_unresolved_exports.ensures) c.in_err-check_import_value_redeclarations.ensures)

pub returns : goal.returns
returns c = then_tells c.check_ts_export_assignment_in_program.result _ _ _ _ _ (both_told _ _ _ _ _ (both_told _ _ _ _ _ c.in_ok-check_duplicate_class_elements.ensures c.in_ok-check_unresolved_exports.ensures) c.in_ok-check_import_value_redeclarations.ensures) c.check_ts_export_assignment_in_program.ensures
