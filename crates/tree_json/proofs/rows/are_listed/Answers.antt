use Rattle.std.proofs.Common.{rules, arith, sym, ◌∙◌}
use Rattle.tree_json.proofs.Listed.{goes_row, shallow_row}
use Rattle.tree_json.proofs.rows.are_listed.Goals as goal

pub loop-row-preserved : goal.loop-row-preserved
loop-row-preserved c = let rows = c.args.rows.now in let i = c.loop-row.row-index in record {
  listing = λ more. c.loop-row.invariant.listing (goes_row c.loop-row.opened rows i (search rules) (search rules) more);
  shallow = sym (shallow_row rows i (search rules) (search rules)) ∙ c.loop-row.invariant.shallow;
  some = λ h. omega arith;
}
