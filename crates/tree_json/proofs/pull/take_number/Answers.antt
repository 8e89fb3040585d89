use Rattle.std.proofs.Common.{rules}
use Rattle.tree_json.proofs.Pulling.{number_pulled}
use Rattle.tree_json.proofs.pull.take_number.Goals as goal

pub returns-in-Number : goal.returns-in-Number
returns-in-Number c = number_pulled c.args.reader.now c.next.new.self c.in-Number.text.now c.as_bytes.result.now c.number_of.result (search rules) (search rules) c.number_of.ensures
