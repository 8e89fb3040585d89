use Rattle.mangle_model.specs.Mangling.{may_change}
use Rattle.mangler.specs.Changing.{options_of}
use Rattle.mangler.proofs.Changes.{Marked}
use Rattle.mangler.proofs.changing.changing_symbols.Given as goal

abbrev pub invariant-loop-number : goal.invariant-loop-number
invariant-loop-number l = Marked (may_change (options_of l.options) l.program) l.may.items l.number
