use Rattle.std.proofs.Common.{◌++◌, sym, ap, ◌∙◌}
use Rattle.std.proofs.lemmas.List.{append-nil}
use Rattle.statement_checks.specs.BadEscapes.{rows_of_kind}
use Rattle.statement_checks.proofs.FirstBad.{rows_are}
use Rattle.statement_checks.proofs.literals.tell_escapes.Goals as goal

pub returns-in-None : goal.returns-in-None
returns-in-None c =
    sym (ap (λ l. c.args.out.now ++ l) (rows_are c.args.span c.args.raw.now ∙ ap (rows_of_kind c.args.span) (sym c.first_bad.ensures ∙ c.in-None.is)) ∙ append-nil c.args.out.now)
