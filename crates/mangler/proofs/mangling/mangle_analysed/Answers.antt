use Rattle.mangler.specs.Changing.{options_of}
use Rattle.mangler.proofs.mangling.mangle_analysed.Goals as goal

pub returns-in-Ok : goal.returns-in-Ok
returns-in-Ok c = c.found_or_simple.ensures (options_of c.args.options) c.args.program.now c.in_ok-found.ensures c.in-Ok.ensures
