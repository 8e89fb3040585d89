use Rattle.std.proofs.Common.{List, ap, subst}
use Rattle.semantic_diagnostics.specs.declared.diagnostic.Diagnostic.{Diagnostic}
use Rattle.check_model.specs.Assignments.{block_rows}
use Rattle.check_context.specs.Tells.{Tells}
use Rattle.check_context.proofs.Telling.{first_stops, then_tells}
use Rattle.type_checks.proofs.namespaces.check_ts_namespace_declaration.Goals as goal

pub returns-in_err-tell_place : goal.returns-in_err-tell_place
returns-in_err-tell_place c = first_stops _ c.from_residual.result _ _ _ _ c.from_residual.ensures.1 c.in_err-tell_place.ensures

pub returns : goal.returns
returns c =
    then_tells c.tell_block.result _ _ _ _ _ c.in_ok-tell_place.ensures
    (subst (λ (rows : List Diagnostic). Tells c.tell_block.result rows c.tell_place.new.out c.tell_block.new.out) (ap block_rows c.under_namespaces.ensures) c.tell_block.ensures)
