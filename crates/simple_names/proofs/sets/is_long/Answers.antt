use Rattle.std.proofs.Common.{nat_lt, ap}
use Rattle.simple_names.proofs.AmongNames.{sizes}
use Rattle.simple_names.proofs.sets.is_long.Goals as goal

pub returns : goal.returns
returns c = ap (λ n. nat_lt 1 n) (sizes c.args.name.now c.utf8.name)
