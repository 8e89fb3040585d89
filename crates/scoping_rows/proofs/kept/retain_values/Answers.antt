use Rattle.std.proofs.Common.{rules}
use Rattle.std.proofs.lemmas.Fn.{filter_same}
use Rattle.scoping_rows.specs.Kept.{is_used_by_value}
use Rattle.scoping_rows.proofs.kept.retain_values.Goals as goal

pub returns : goal.returns
returns c = filter_same _ (is_used_by_value c.args.references.now) _ (λ x b f called. (search rules, search rules)) _ _ c.retain.ensures.filtered
