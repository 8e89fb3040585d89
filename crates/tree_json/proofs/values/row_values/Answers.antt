use Rattle.std.proofs.Common.{arith}
use Rattle.std.proofs.lemmas.Grind.{common_steps}
use Rattle.tree_json.specs.Listing.{line}
use Rattle.tree_json.specs.Views.{places_view}
use Rattle.tree_json.specs.Written.{IsReadAgain}
use Rattle.tree_json.proofs.Again.{Each-left}
use Rattle.tree_json.proofs.values.row_values.Goals as goal

pub loop-row-preserved : goal.loop-row-preserved
loop-row-preserved c = record {
  values = grind (arith, common_steps);
  again = λ rest. c.loop-row.invariant.again (Each-left (IsReadAgain (places_view c.args.places)) line c.args.rows.now c.loop-row.row-index _ c.loop-row-test.true c.in_ok-row_value.ensures.again rest);
}
