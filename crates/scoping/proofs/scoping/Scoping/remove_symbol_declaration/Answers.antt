use Rattle.std.proofs.Common.{refl, ap, ◌∙◌}
use Rattle.std.proofs.lemmas.List.{length-set}
use Rattle.scoping_rows.specs.Row.{symbol_of_row}
use Rattle.semantic_syntax.specs.Reading.{symbol_of}
use Rattle.scoping.specs.View.{tables}
use Rattle.semantic_syntax.specs.Writing.{with_symbol}
use Rattle.scoping.specs.Redeclared.{without_declaration}
use Rattle.scoping.proofs.Redeclared.{shown_without, name_kept}
use Rattle.scoping.proofs.Shown.{tables_eq, symbol_changed, symbol_within, sound_rows, named_set, read_named}
use Rattle.scoping.proofs.scoping.Scoping.remove_symbol_declaration.Goals as goal

pub invariant_of-self : goal.invariant_of-self
invariant_of-self c =
    let sound = c.self.invariant in
    let a = c.self.inside in
    let within = symbol_within a sound c.args.symbol (rw (← c.self.view_is) at c.requires) in
    sound_rows a sound _ (length-set a.symbols.items c.index.result c.remove_declaration.new.self)
    (named_set _ c.index.result c.remove_declaration.new.self a.symbols.items sound.named
    (rw (c.remove_declaration.ensures, name_kept c.index_mut.result.now c.args.span) (read_named _ c.index.result c.args.symbol c.index_mut.result.now a.symbols.items sound.named c.index.ensures within c.index_mut.ensures.value)))

pub returns : goal.returns
returns c =
    let a = c.self.inside in
    let within = symbol_within a c.self.invariant c.args.symbol (rw (← c.self.view_is) at c.requires) in
    tables_eq _ (with_symbol (tables a) c.args.symbol (without_declaration (symbol_of (tables a) c.args.symbol) c.args.span)) refl refl
    (symbol_changed a.names a.symbols.items c.args.symbol c.index.result c.index_mut.result.now c.remove_declaration.new.self c.index.ensures within c.index_mut.ensures.value
    (λ y. without_declaration y c.args.span) (ap (symbol_of_row a.names) c.remove_declaration.ensures ∙ shown_without a.names c.index_mut.result.now c.args.span))
    refl refl refl refl
    ∙ ap (λ t. with_symbol t c.args.symbol (without_declaration (symbol_of t c.args.symbol) c.args.span)) c.self.view_is
