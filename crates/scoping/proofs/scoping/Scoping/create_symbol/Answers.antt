use Rattle.std.proofs.Common.{refl, ap, arith}
use Rattle.std.proofs.lemmas.List.{length-map}
use Rattle.scoping_rows.specs.Row.{symbol_of_row}
use Rattle.semantic_syntax.proofs.Results.{on_err}
use Rattle.scoping.proofs.Clones.{sound_same, tables_same}
use Rattle.scoping.proofs.Pushed.{tables_pushed, sound_pushed}
use Rattle.scoping_rows.proofs.Rows.{rows}
use Rattle.scoping.proofs.scoping.Scoping.create_symbol.Goals as goal

pub invariant_of-self : goal.invariant_of-self
invariant_of-self c =
    let room = c.reserve_symbol.ensures in
    sound_same c.self.inside _ c.self.invariant refl refl refl room.symbols refl (ap rows room.uses) refl

pub returns-in_err-reserve_symbol-clause-err : goal.returns-in_err-reserve_symbol-clause-err
returns-in_err-reserve_symbol-clause-err c =
    let room = c.reserve_symbol.ensures in
    rw (← c.self.view_is) (on_err c.from_residual.result (tables_same c.self.inside _ _ _ _ _ _ _ _ refl refl refl room.symbols refl (ap rows room.uses) refl refl))

pub invariant_of-self-in_err-number : goal.invariant_of-self-in_err-number
invariant_of-self-in_err-number c =
    let room = c.reserve_symbol.ensures in
    sound_same c.self.inside _ c.self.invariant c.in_err-number.ensures.err refl refl room.symbols refl (ap rows room.uses) refl

pub returns-in_err-number-clause-err : goal.returns-in_err-number-clause-err
returns-in_err-number-clause-err c =
    let room = c.reserve_symbol.ensures in
    rw (← c.self.view_is) (on_err c.from_residual-in_err-number.result (tables_same c.self.inside _ _ _ _ _ _ _ _ c.in_err-number.ensures.err refl refl room.symbols refl (ap rows room.uses) refl refl))

pub invariant_of-self-2 : goal.invariant_of-self-2
invariant_of-self-2 c =
    sound_pushed c.self.inside c.self.invariant _ _ _ c.in_ok-number.ensures.ok c.push_symbol.new.symbols _ _ c.push_symbol.ensures.symbols c.reserve_symbol.ensures.symbols c.new-row.ensures
    c.push_symbol.new.uses _ c.push_symbol.ensures.uses c.reserve_symbol.ensures.uses (rw (← c.self.view_is) at c.requires.room)

pub returns-clause-ok : goal.returns-clause-ok
returns-clause-ok c =
    rw (← c.self.view_is)
    (tables_pushed c.self.inside c.self.invariant _ _ _ c.in_ok-number.ensures.ok c.push_symbol.new.symbols _ _ c.push_symbol.ensures.symbols c.reserve_symbol.ensures.symbols c.new-row.ensures
    c.push_symbol.new.uses _ c.push_symbol.ensures.uses c.reserve_symbol.ensures.uses)

pub overflow_cast-len : goal.overflow_cast-len
overflow_cast-len c = omega (arith, c.len.ensures, c.self.inside.symbols.ok.0, c.self.invariant.symbols_fit)

pub push_symbol-requires-clause-room : goal.push_symbol-requires-clause-room
push_symbol-requires-clause-room c = c.in_ok-reserve_symbol.ensures.room

pub push_symbol-requires-clause-uses_room : goal.push_symbol-requires-clause-uses_room
push_symbol-requires-clause-uses_room c = c.in_ok-reserve_symbol.ensures.uses_room

pub returns-clause-made : goal.returns-clause-made
returns-clause-made c = rw (← c.self.view_is) (omega (arith, c.new-id.ensures, c.len.ensures, c.self.inside.symbols.ok.0, length-map c.self.inside.symbols.items (symbol_of_row c.self.inside.names)))
