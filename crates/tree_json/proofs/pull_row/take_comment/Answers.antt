use Rattle.std.proofs.Common.{rules}
use Rattle.tree_json.proofs.Pulling.{comment_pulled}
use Rattle.tree_json.proofs.pull_row.take_comment.Goals as goal

pub returns : goal.returns
returns c =
    comment_pulled c.args.reader.now c.open_array.new.reader c.take_span.new.reader c.take_string.new.reader c.close_array.new.reader c.in_ok-take_string.field-0.now
    (record { span = c.in_ok-span.span; kind = c.in_ok-kind.kind }) c.in_ok-open_array.ensures c.in_ok-span.ensures c.in_ok-take_string.ensures (search rules) c.in_ok-close_array.ensures
