use Rattle.simple_names.specs.Telling.{may_by, told_by}
use Rattle.simple_names.proofs.AmongNames.{if_ok}
use Rattle.simple_names.proofs.Gathered.{names_are}
use Rattle.simple_names.proofs.naming.each_named.Goals as goal

pub returns : goal.returns
returns c =
    if_ok c.names_by.result (λ names named.
    names_are (may_by c.args.known.now) (told_by c.args.known.now) c.args.program.now c.in_ok-taken.taken c.in_ok-changing.changing c.in_ok-pairs.pairs names
    c.in_ok-taken.ensures c.in_ok-changing.ensures c.in_ok-pairs.ensures named) c.names_by.ensures
