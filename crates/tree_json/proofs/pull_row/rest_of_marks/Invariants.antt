use Rattle.std.proofs.Common.{length}
use Rattle.tree_json.proofs.Pulling.{GoingMarks}
use Rattle.tree_json.proofs.pull_row.rest_of_marks.Given as goal

abbrev pub invariant-marks : goal.invariant-marks
invariant-marks l = GoingMarks l.initial.reader l.marks l.reader

abbrev pub decreases-marks : goal.decreases-marks
decreases-marks l = length l.reader
