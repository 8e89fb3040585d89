use Rattle.std.proofs.Common.{rules}
use Rattle.tree_json.proofs.PulledTop.{at_some, top_pulled}
use Rattle.tree_json.proofs.pull_top.take_top.Goals as goal

pub returns : goal.returns
returns c =
    top_pulled c.args.reader.now c.open_member.new.reader c.take_comments.new.reader c.take_type.new.reader c.take_rows.new.reader
    (record { source = c.in-Some-take_source.source; source_type = c.in-Some-take_type.source_type; comments = c.in-Some.comments; rows = c.in-Some-2.rows })
    (search rules) (at_some _ c.in_ok-comments.field-0 c.in-Some.comments c.in-Some.is c.in_ok-comments.ensures) c.in-Some-take_type.ensures
    (at_some _ c.in_ok-rows.field-0 c.in-Some-2.rows c.in-Some-2.is c.in_ok-rows.ensures) c.in-Some-take_source.ensures
