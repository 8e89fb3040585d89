use Rattle.std.proofs.Common.{None, refl, ap}
use Rattle.std.proofs.lemmas.List.{length-set}
use Rattle.scoping_rows.specs.Row.{symbol_of_row}
use Rattle.scoping.proofs.Shown.{tables_eq, symbol_changed, symbol_within, sound_rows, named_set, read_named}
use Rattle.scoping.proofs.scoping.Scoping.clear_symbol_redeclarations.Goals as goal

pub invariant_of-self : goal.invariant_of-self
invariant_of-self c =
    let rows = c.self.inside.symbols.items in
    let within = symbol_within c.self.inside c.self.invariant c.args.symbol (rw (← c.self.view_is) at c.requires) in
    let known = read_named _ c.index.result c.args.symbol c.index_mut.result.now rows c.self.invariant.named c.index.ensures within c.index_mut.ensures.value in
    sound_rows c.self.inside c.self.invariant _ (length-set rows c.index.result c.clear_redeclarations.new.self)
    (named_set _ c.index.result c.clear_redeclarations.new.self rows c.self.invariant.named (rw c.clear_redeclarations.ensures known))

pub returns : goal.returns
returns c =
    let within = symbol_within c.self.inside c.self.invariant c.args.symbol (rw (← c.self.view_is) at c.requires) in
    rw (← c.self.view_is)
    (tables_eq _ _ refl refl
    (symbol_changed c.self.inside.names c.self.inside.symbols.items c.args.symbol c.index.result c.index_mut.result.now c.clear_redeclarations.new.self c.index.ensures within c.index_mut.ensures.value
    (λ y. record y { redeclarations = None }) (ap (symbol_of_row c.self.inside.names) c.clear_redeclarations.ensures))
    refl refl refl refl)
