use Rattle.tree_json.proofs.Pulling.{row_pulled}
use Rattle.tree_json.proofs.pull_row.take_row.Goals as goal

pub returns : goal.returns
returns c = let head = c.in_ok-head.head in
    row_pulled c.args.reader.now c.open_array.new.reader c.take_head.new.reader c.close_array.new.reader c.take_marks.new.reader
    (record { depth = head.depth; role = head.role; kind = head.kind; span = head.span; text = head.text; marks = c.in_ok-marks.marks })
    c.in_ok-open_array.ensures c.in_ok-head.ensures c.in_ok-marks.ensures c.in_ok-close_array.ensures
