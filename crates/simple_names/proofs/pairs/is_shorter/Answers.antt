use Rattle.std.proofs.Common.{nat_lt}
use Rattle.simple_names.proofs.AmongNames.{sizes}
use Rattle.simple_names.proofs.pairs.is_shorter.Goals as goal

pub returns : goal.returns
returns c = λ i. nat_lt (sizes c.args.new_name.now c.utf8.new_name i) (sizes c.args.name.now c.utf8.name i)
