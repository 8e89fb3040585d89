use Rattle.std.proofs.Common.{refl, ap, ◌∙◌, [], ◌∷◌, length}
use Rattle.semantic_syntax.specs.Reading.{symbol_of}
use Rattle.scoping.specs.View.{tables}
use Rattle.semantic_syntax.specs.Writing.{with_symbol}
use Rattle.semantic_syntax.proofs.Results.{on_err}
use Rattle.scoping.proofs.Clones.{sound_same}
use Rattle.scoping.proofs.Folds.{length_homes, named_homes, shown_homes}
use Rattle.scoping.proofs.Moves.{bound_moved, length_moved, moved_is}
use Rattle.scoping.proofs.Shown.{tables_eq, scope_within, symbol_within, sound_bindings, sound_rows, shown_number}
use Rattle.scoping.proofs.scoping.Scoping.move_binding_by_symbol_id.Goals as goal

pub own_number-number-requires-clause-id : goal.own_number-number-requires-clause-id
own_number-number-requires-clause-id c = symbol_within c.self.inside c.self.invariant c.args.symbol (rw (← c.self.view_is) at c.requires.symbol)

pub own_number-number-requires-clause-named : goal.own_number-number-requires-clause-named
own_number-number-requires-clause-named c = c.self.invariant.named

pub move_number-requires-clause-from : goal.move_number-requires-clause-from
move_number-requires-clause-from c = scope_within c.self.inside c.self.invariant c.args.from (rw (← c.self.view_is) at c.requires.from)

pub move_number-requires-clause-to : goal.move_number-requires-clause-to
move_number-requires-clause-to c = scope_within c.self.inside c.self.invariant c.args.to (rw (← c.self.view_is) at c.requires.to)

pub invariant_of-self-2 : goal.invariant_of-self-2
invariant_of-self-2 c =
    let sound = c.self.invariant in
    let a = c.self.inside in
    let ids = c.args.symbol ∷ [] in
    let within = symbol_within a sound c.args.symbol (rw (← c.self.view_is) at c.requires.symbol) in
    rw c.in_ok-move_number.ensures.ok
    (sound_rows _
    (sound_bindings a sound _ (length_moved _ _ a.bindings sound.bound c.args.from c.args.to c.own_number-number.result)
    (bound_moved _ _ a.bindings sound.bound c.args.from c.args.to c.own_number-number.result c.own_number-number.ensures.within))
    c.set_home.new.rows (ap length c.set_home.ensures ∙ length_homes a.names c.args.to ids a.symbols.items)
    (rw c.set_home.ensures (named_homes a.names _ c.args.to ids a.symbols.items (within, tt) sound.named)))

pub returns-clause-ok : goal.returns-clause-ok
returns-clause-ok c =
    let sound = c.self.invariant in
    let a = c.self.inside in
    let within = symbol_within a sound c.args.symbol (rw (← c.self.view_is) at c.requires.symbol) in
    let first = scope_within a sound c.args.from (rw (← c.self.view_is) at c.requires.from) in
    let second = scope_within a sound c.args.to (rw (← c.self.view_is) at c.requires.to) in
    let number = shown_number a.names a.symbols.items c.args.symbol _ within c.own_number-number.ensures in
    rw (← c.self.view_is, c.in_ok-move_number.ensures.ok, c.set_home.ensures)
    (tables_eq _ _ refl refl (shown_homes a.names c.args.to (c.args.symbol ∷ []) a.symbols.items (within, tt)) refl refl refl refl
    ∙ ap (λ t. with_symbol t c.args.symbol (record (symbol_of (tables a) c.args.symbol) { scope = c.args.to }))
    (moved_is _ _ a.bindings sound.bound (tables a) c.args.from c.args.to first second _ c.own_number-number.result number))

pub invariant_of-self : goal.invariant_of-self
invariant_of-self c = sound_same c.self.inside _ c.self.invariant refl refl c.in_err-move_number.ensures.err refl refl refl refl

pub returns-in_err-move_number-clause-err : goal.returns-in_err-move_number-clause-err
returns-in_err-move_number-clause-err c = rw c.in_err-move_number.ensures.err (on_err c.from_residual.result c.self.view_is)

pub set_home-requires : goal.set_home-requires
set_home-requires c = symbol_within c.self.inside c.self.invariant c.args.symbol (rw (← c.self.view_is) at c.requires.symbol)
