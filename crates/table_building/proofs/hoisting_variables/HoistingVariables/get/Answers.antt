use Rattle.std.proofs.Common.{sym, ◌∙◌}
use Rattle.table_building.proofs.Numbered.{get_unknown, get_numbered}
use Rattle.table_building.proofs.Marked.{unmarked}
use Rattle.table_building.proofs.hoisting_variables.HoistingVariables.get.Goals as goal

pub returns-in_err-number : goal.returns-in_err-number
returns-in_err-number c =
    rw (← c.self.view_is) (c.from_residual.ensures ∙ sym (get_unknown _ _ _ c.in_err-number.ensures c.self.inside.symbols.entries c.self.invariant.numbered))

pub returns-in_err-symbol : goal.returns-in_err-symbol
returns-in_err-symbol c =
    rw (← c.self.view_is)
    (c.from_residual-in_err-symbol.ensures ∙ c.in_err-symbol.ensures.value ∙ sym (get_numbered _ _ c.args.scope _ c.in_ok-number.ensures c.self.inside.symbols.entries c.self.invariant.numbered))

pub returns : goal.returns
returns c =
    rw (← c.self.view_is)
    (c.in_ok-symbol.ensures.value ∙ sym (get_numbered _ _ c.args.scope _ c.in_ok-number.ensures c.self.inside.symbols.entries c.self.invariant.numbered))

pub returns-then-not-has : goal.returns-then-not-has
returns-then-not-has c = rw (← c.self.view_is) (sym (unmarked c.self.inside.names c.self.inside.remembering c.args.scope (sym c.if-not-has.ensures) c.self.inside.symbols.entries c.self.invariant.marked _))
