use Rattle.std.proofs.Common.{rules}
use Rattle.scoping_rows.specs.Kept.{is_used_by_value}
use Rattle.scoping_rows.proofs.Retained.{filter_retained}
use Rattle.scoping_rows.proofs.use_list.retain_value_uses.Goals as goal

pub returns : goal.returns
returns c = filter_retained _ (is_used_by_value c.args.references.now) _ (λ x b f' y called. (search rules, search rules, search rules)) _ _ c.retain.ensures.filtered
