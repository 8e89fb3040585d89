use Rattle.std.proofs.Common.{sym, ◌∙◌}
use Rattle.table_building.proofs.Marked.{unmarked}
use Rattle.table_building.proofs.hoisting_variables.HoistingVariables.remembers.Goals as goal

pub returns : goal.returns
returns c = λ name none.
    rw (← c.self.view_is) (unmarked c.self.inside.names c.self.inside.remembering c.args.scope (sym c.has.ensures ∙ none) c.self.inside.symbols.entries c.self.invariant.marked name)
