use Rattle.std.proofs.Common.{refl, ap, ◌∙◌, [], ◌∷◌, length}
use Rattle.scoping_rows.specs.Names.{name_of}
use Rattle.semantic_syntax.proofs.Results.{on_err}
use Rattle.scoping.proofs.Clones.{sound_same}
use Rattle.scoping.proofs.Folds.{length_named, named_named, shown_named}
use Rattle.scoping.proofs.Renamed.{sound_renamed, symbol_renamed}
use Rattle.scoping.proofs.Shown.{scope_within, symbol_within, sound_rows, sound_interned, err_interned}
use Rattle.scoping.proofs.scoping.Scoping.rename_symbol.Goals as goal

pub own_number-old_number-requires-clause-named : goal.own_number-old_number-requires-clause-named
own_number-old_number-requires-clause-named c = (sound_interned c.self.inside c.self.invariant _ _ _ c.in_ok-new_number.ensures.ok).named

pub own_number-old_number-requires-clause-id : goal.own_number-old_number-requires-clause-id
own_number-old_number-requires-clause-id c = symbol_within c.self.inside c.self.invariant c.args.symbol (rw (← c.self.view_is) at c.requires.symbol)

pub rename-requires : goal.rename-requires
rename-requires c = record { scope = scope_within c.self.inside c.self.invariant c.args.scope (rw (← c.self.view_is) at c.requires.scope) }

pub invariant_of-self-in_err-rename : goal.invariant_of-self-in_err-rename
invariant_of-self-in_err-rename c = rw c.in_err-rename.ensures.err (sound_interned c.self.inside c.self.invariant _ _ _ c.in_ok-new_number.ensures.ok)

pub returns-in_err-rename-clause-err : goal.returns-in_err-rename-clause-err
returns-in_err-rename-clause-err c = rw c.in_err-rename.ensures.err (err_interned c.self.inside c.self.invariant _ _ _ c.in_ok-new_number.ensures.ok c.from_residual-in_err-rename.result _ c.self.view_is)

pub invariant_of-self-2 : goal.invariant_of-self-2
invariant_of-self-2 c =
    let interned = c.in_ok-new_number.ensures.ok in
    let names = c.intern.new.self in
    let ids = c.args.symbol ∷ [] in
    let rows = c.self.inside.symbols.items in
    let sound = sound_renamed c.self.inside c.self.invariant _ _ _ interned c.args.scope c.args.symbol c.own_number-old_number.result (rw (← c.self.view_is) at c.requires.symbol) in
    rw c.in_ok-rename.ensures.ok
    (sound_rows _ sound c.set_name.new.rows
    (ap length c.set_name.ensures ∙ length_named names c.in_ok-new_number.new_number ids rows)
    (rw c.set_name.ensures (named_named names _ c.in_ok-new_number.new_number interned.number.within ids rows sound.named)))

pub returns-clause-ok : goal.returns-clause-ok
returns-clause-ok c =
    let interned = c.in_ok-new_number.ensures.ok in
    let symbol = rw (← c.self.view_is) at c.requires.symbol in
    let row = symbol_within c.self.inside c.self.invariant c.args.symbol symbol in
    rw (← c.self.view_is, c.in_ok-rename.ensures.ok, c.set_name.ensures)
    (symbol_renamed c.self.inside c.self.invariant _ _ _ interned c.args.scope c.args.symbol (rw (← c.self.view_is) at c.requires.scope) _ symbol c.own_number-old_number.ensures _
    (shown_named c.intern.new.self c.in_ok-new_number.new_number (name_of c.args.new) interned.number.named (c.args.symbol ∷ []) c.self.inside.symbols.items (row, tt)))

pub invariant_of-self : goal.invariant_of-self
invariant_of-self c = sound_same c.self.inside _ c.self.invariant c.in_err-new_number.ensures.err refl refl refl refl refl refl

pub returns-in_err-new_number-clause-err : goal.returns-in_err-new_number-clause-err
returns-in_err-new_number-clause-err c = rw c.in_err-new_number.ensures.err (on_err c.from_residual.result c.self.view_is)

pub set_name-requires : goal.set_name-requires
set_name-requires c = symbol_within c.self.inside c.self.invariant c.args.symbol (rw (← c.self.view_is) at c.requires.symbol)
