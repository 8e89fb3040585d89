use Rattle.std.proofs.Common.{rules}
use Rattle.tree_json.proofs.Pulling.{marks_pulled}
use Rattle.tree_json.proofs.pull_row.take_marks.Goals as goal

pub returns : goal.returns
returns c = marks_pulled c.args.reader.now c.open_array.new.reader c.rest_of_marks.result _ (search rules) c.rest_of_marks.ensures
