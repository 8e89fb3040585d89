use Rattle.check_context.proofs.Telling.{first_stops, then_tells}
use Rattle.checker.proofs.by_kind.check_label.Goals as goal

pub returns-in_err-check_labeled_statement : goal.returns-in_err-check_labeled_statement
returns-in_err-check_labeled_statement c = first_stops _ c.from_residual.result _ _ _ _ c.from_residual.ensures.1 c.in_err-check_labeled_statement.ensures

pub returns : goal.returns
returns c = then_tells c.check_labelled_body.result _ _ _ _ _ c.in_ok-check_labeled_statement.ensures c.check_labelled_body.ensures
