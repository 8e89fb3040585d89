use Rattle.std.proofs.Common.{rules}
use Rattle.scoping_rows.specs.Kept.{is_unmarked}
use Rattle.scoping_rows.proofs.Retained.{filter_retained}
use Rattle.scoping_rows.proofs.use_list.retain_unmarked.Goals as goal

pub returns : goal.returns
returns c = filter_retained _ (is_unmarked c.args.excluded.now) _ (λ x b f' y called. (search rules, search rules, search rules)) _ _ c.retain.ensures.filtered
