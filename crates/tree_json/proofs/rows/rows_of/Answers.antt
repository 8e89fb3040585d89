use Rattle.std.proofs.Common.{map, alloc_error}
use Rattle.tree_json.specs.Listing.{line}
use Rattle.tree_json.proofs.Readings.{gives_memory}
use Rattle.tree_json.proofs.rows.rows_of.Goals as goal

pub returns-in_err-push-clause-read : goal.returns-in_err-push-clause-read
returns-in_err-push-clause-read c =
    gives_memory (λ rows. map line rows.items) c.from_residual-in_err-push.result _ alloc_error c.from_residual-in_err-push.ensures.1
