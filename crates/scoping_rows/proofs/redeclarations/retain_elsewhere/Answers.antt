use Rattle.std.proofs.Common.{rules}
use Rattle.std.proofs.lemmas.Fn.{filter_same}
use Rattle.scoping_rows.specs.Redeclared.{is_elsewhere}
use Rattle.scoping_rows.proofs.redeclarations.retain_elsewhere.Goals as goal

pub returns : goal.returns
returns c = filter_same _ (is_elsewhere c.args.span) _ (λ x b f called. (search rules, search rules)) _ _ c.retain.ensures.filtered
