use Rattle.std.proofs.Common.{List, subst, sym}
use Rattle.std.specs.Str.{chars}
use Rattle.semantic_diagnostics.specs.declared.diagnostic.Diagnostic.{Diagnostic}
use Rattle.check_context.specs.Tells.{Tells}
use Rattle.check_context.proofs.Telling.{told_made}
use Rattle.statement_checks.proofs.Ends.{two_ends}
use Rattle.statement_checks.proofs.imports.tell_declarations.Goals as goal

pub returns : goal.returns
returns c =
    subst (λ (rows : List Diagnostic). Tells c.tell.result rows c.args.out.now c.tell.new.out)
    (sym (two_ends (chars c.args.name.now) c.args.entries.now c.index-entries-0.result c.index-entries-entries.result c.if-entries-lt2.false))
    (told_made c.redeclaration.result c.tell.result _ _ _ c.tell.ensures c.redeclaration.ensures)
