use Rattle.std.proofs.Common.{arith}
use Rattle.std.proofs.lemmas.Grind.{common_steps}
use Rattle.tree_json.proofs.Outcomes.{lines_from_values-IsListing}
use Rattle.tree_json.proofs.rows.tree_of_values.Goals as goal

pub tree_of_rows-requires-clause-listed : goal.tree_of_rows-requires-clause-listed
tree_of_rows-requires-clause-listed c = grind (arith, common_steps, lines_from_values-IsListing)
