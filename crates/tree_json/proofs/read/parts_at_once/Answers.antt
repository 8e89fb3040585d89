use Rattle.tree_json.proofs.PulledTop.{at_some, parts_read}
use Rattle.tree_json.proofs.read.parts_at_once.Goals as goal

pub returns-in-Some : goal.returns-in-Some
returns-in-Some c =
    parts_read c.args.bytes.now c.in-Ok.text.now c.in_ok-reader.reader c.in-Some.top c.parts_of_pulled.result c.in-Ok.ensures.cases.1 c.in-Ok.ensures.cases.0 c.in_ok-reader.ensures.ok
    (at_some _ c.in_ok-top.field-0 c.in-Some.top c.in-Some.is c.in_ok-top.ensures) c.parts_of_pulled.ensures
