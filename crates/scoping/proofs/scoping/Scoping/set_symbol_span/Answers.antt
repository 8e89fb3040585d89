use Rattle.std.proofs.Common.{refl, ap}
use Rattle.std.proofs.lemmas.List.{length-set}
use Rattle.scoping_rows.specs.Row.{symbol_of_row}
use Rattle.scoping.proofs.Shown.{symbol_index, tables_eq, symbol_changed, symbol_within, sound_rows, named_set, read_named}
use Rattle.scoping.proofs.scoping.Scoping.set_symbol_span.Goals as goal

pub invariant_of-self : goal.invariant_of-self
invariant_of-self c =
    let rows = c.self.inside.symbols.items in
    let within = symbol_within c.self.inside c.self.invariant c.args.symbol (rw (← c.self.view_is) at c.requires) in
    let known = read_named _ c.index.result c.args.symbol c.index_mut.result.now rows c.self.invariant.named c.index.ensures within c.index_mut.ensures.value in
    sound_rows c.self.inside c.self.invariant _ (length-set rows c.index.result c.set_span.new.self)
    (named_set _ c.index.result c.set_span.new.self rows c.self.invariant.named (rw c.set_span.ensures known))

pub returns : goal.returns
returns c =
    let within = symbol_within c.self.inside c.self.invariant c.args.symbol (rw (← c.self.view_is) at c.requires) in
    rw (← c.self.view_is)
    (tables_eq _ _ refl refl
    (symbol_changed c.self.inside.names c.self.inside.symbols.items c.args.symbol c.index.result c.index_mut.result.now c.set_span.new.self c.index.ensures within c.index_mut.ensures.value
    (λ y. record y { span = c.args.span }) (ap (symbol_of_row c.self.inside.names) c.set_span.ensures))
    refl refl refl refl)

pub index_mut-requires : goal.index_mut-requires
index_mut-requires c = symbol_index c.self.inside c.self.invariant c.args.symbol c.index.result c.index.ensures (rw (← c.self.view_is) at c.requires)
