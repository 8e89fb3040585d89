use Rattle.std.proofs.Common.{refl, ap, ◌∙◌, length, fold}
use Rattle.std.proofs.lemmas.List.{length-map}
use Rattle.scoping_rows.specs.Names.{name_of}
use Rattle.semantic_syntax.specs.Writing.{with_symbol_name}
use Rattle.semantic_syntax.proofs.Results.{on_err}
use Rattle.scoping.proofs.Clones.{sound_same}
use Rattle.scoping.proofs.Folds.{length_named, named_named, shown_named}
use Rattle.scoping.proofs.Shown.{tables_eq, sound_interned, sound_rows, bindings_interned, symbols_interned, free_interned}
use Rattle.scoping.proofs.scoping.Scoping.set_symbol_names.Goals as goal

pub invariant_of-self-2 : goal.invariant_of-self-2
invariant_of-self-2 c =
    let interned = c.in_ok-number.ensures.ok in
    let sound = sound_interned c.self.inside c.self.invariant _ _ _ interned in
    let rows = c.self.inside.symbols.items in
    sound_rows _ sound c.set_names.new.rows
    (ap length c.set_names.ensures ∙ length_named c.intern.new.self c.in_ok-number.number c.args.ids.now rows)
    (rw c.set_names.ensures (named_named c.intern.new.self _ c.in_ok-number.number interned.number.within c.args.ids.now rows sound.named))

pub returns-clause-ok : goal.returns-clause-ok
returns-clause-ok c =
    let interned = c.in_ok-number.ensures.ok in
    rw (← c.self.view_is, c.set_names.ensures)
    (tables_eq _ _ refl (bindings_interned c.self.inside c.self.invariant _ _ _ interned)
    (shown_named c.intern.new.self c.in_ok-number.number (name_of c.args.name) interned.number.named c.args.ids.now c.self.inside.symbols.items (rw (← c.self.view_is, length-map) at c.requires)
    ∙ ap (λ ys. fold (with_symbol_name (name_of c.args.name)) ys c.args.ids.now) (symbols_interned c.self.inside c.self.invariant _ _ _ interned))
    refl refl (free_interned c.self.inside c.self.invariant _ _ _ interned) refl)

pub invariant_of-self : goal.invariant_of-self
invariant_of-self c = sound_same c.self.inside _ c.self.invariant c.in_err-number.ensures.err refl refl refl refl refl refl

pub returns-in_err-number-clause-err : goal.returns-in_err-number-clause-err
returns-in_err-number-clause-err c = rw c.in_err-number.ensures.err (on_err c.from_residual.result c.self.view_is)

pub set_names-requires : goal.set_names-requires
set_names-requires c = rw (← c.self.view_is, length-map) at c.requires
