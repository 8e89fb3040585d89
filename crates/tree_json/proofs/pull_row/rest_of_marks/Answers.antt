use Rattle.std.proofs.Common.{rules}
use Rattle.tree_json.proofs.Pulling.{marks_on, marks_end}
use Rattle.tree_json.proofs.pull_row.rest_of_marks.Goals as goal

pub marks-preserved : goal.marks-preserved
marks-preserved c =
    marks_on c.args.reader.now c.marks.reader c.take_end_array.new.self c.take_string.new.reader c.marks.marks c.in_ok-take_string.field-0.now c.in_ok-mark.mark c.with-marks.result
    c.marks.invariant (search rules) (search rules) (search rules) (search rules) c.with-marks.ensures.set

pub returns : goal.returns
returns c = marks_end c.args.reader.now c.marks.reader c.marks.marks c.take_end_array.new.self c.marks.invariant (search rules)
