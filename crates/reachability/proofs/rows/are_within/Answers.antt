use Rattle.std.proofs.Common.{length}
use Rattle.reachability.proofs.Within.{lists_within, vectors_within}
use Rattle.reachability.proofs.rows.are_within.Goals as goal

pub returns : goal.returns
returns c = (
  (λ t. lists_within (length c.args.rows.now) c.args.rows.now (c.all_within.ensures.0 t)),
  (λ w. c.all_within.ensures.1 (vectors_within (length c.args.rows.now) c.args.rows.now w)),
)
