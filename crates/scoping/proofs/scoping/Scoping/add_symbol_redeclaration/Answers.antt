use Rattle.std.proofs.Common.{refl, ap, ◌∙◌, map, ◌++◌, ◌∷◌, [], Some, unwrap_or}
use Rattle.std.proofs.lemmas.List.{length-set, set-get_or}
use Rattle.semantic_syntax.specs.Reading.{own_entry, no_symbol}
use Rattle.semantic_syntax.proofs.Results.{on_ok_then, on_err_then}
use Rattle.scoping_rows.specs.Row.{symbol_of_row}
use Rattle.scoping.proofs.Cases.{either}
use Rattle.scoping.proofs.Shown.{tables_eq, symbol_changed, symbol_within, sound_rows, named_set, read_named}
use Rattle.scoping.proofs.scoping.Scoping.add_symbol_redeclaration.Goals as goal

pub invariant_of-self : goal.invariant_of-self
invariant_of-self c =
    let rows = c.self.inside.symbols.items in
    let now = c.add_redeclaration.new.self in
    let within = symbol_within c.self.inside c.self.invariant c.args.symbol (rw (← c.self.view_is) at c.requires) in
    let known = read_named _ c.index.result c.args.symbol c.index_mut.result.now rows c.self.invariant.named c.index.ensures within c.index_mut.ensures.value in
    sound_rows c.self.inside c.self.invariant _ (length-set rows c.index.result now)
    (named_set _ c.index.result now rows c.self.invariant.named
    (either c.add_redeclaration.result (λ is. rw is known) (λ is. rw is known) c.add_redeclaration.ensures.ok c.add_redeclaration.ensures.err))

pub returns-clause-ok : goal.returns-clause-ok
returns-clause-ok c =
    let within = symbol_within c.self.inside c.self.invariant c.args.symbol (rw (← c.self.view_is) at c.requires) in
    rw (← c.self.view_is)
    (on_ok_then c.add_redeclaration.result
    (λ is. tables_eq _ _ refl refl
    (symbol_changed c.self.inside.names c.self.inside.symbols.items c.args.symbol c.index.result c.index_mut.result.now c.add_redeclaration.new.self c.index.ensures within c.index_mut.ensures.value
    (λ y. record y { redeclarations = Some (unwrap_or y.redeclarations (own_entry y ∷ []) ++ record { span = c.args.span; declaration = c.args.node; flags = c.args.flags } ∷ []) }) (ap (symbol_of_row c.self.inside.names) is))
    refl refl refl refl)
    c.add_redeclaration.ensures.ok)

pub returns-clause-err : goal.returns-clause-err
returns-clause-err c =
    let within = symbol_within c.self.inside c.self.invariant c.args.symbol (rw (← c.self.view_is) at c.requires) in
    rw (← c.self.view_is)
    (on_err_then c.add_redeclaration.result
    (λ is. tables_eq _ _ refl refl
    (symbol_changed c.self.inside.names c.self.inside.symbols.items c.args.symbol c.index.result c.index_mut.result.now c.add_redeclaration.new.self c.index.ensures within c.index_mut.ensures.value (λ y. y) (ap (symbol_of_row c.self.inside.names) is)
    ∙ set-get_or (map (symbol_of_row c.self.inside.names) c.self.inside.symbols.items) c.args.symbol no_symbol)
    refl refl refl refl)
    c.add_redeclaration.ensures.err)
