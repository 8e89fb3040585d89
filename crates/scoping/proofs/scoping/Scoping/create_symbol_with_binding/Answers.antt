use Rattle.std.proofs.Common.{refl, ap}
use Rattle.std.proofs.lemmas.List.{length-map}
use Rattle.semantic_syntax.proofs.Results.{on_err}
use Rattle.scoping.proofs.Clones.{sound_same, tables_same}
use Rattle.scoping_rows.proofs.Rows.{rows}
use Rattle.scoping.proofs.BoundRows.{tables_bound, sound_bound}
use Rattle.scoping.proofs.Shown.{scope_within, err_interned, sound_interned}
use Rattle.scoping.proofs.scoping.Scoping.create_symbol_with_binding.Goals as goal

pub bind_row-requires-clause-room : goal.bind_row-requires-clause-room
bind_row-requires-clause-room c = rw length-map at (rw (← c.self.view_is) at c.requires.room)

pub bind_row-requires-clause-bind_in : goal.bind_row-requires-clause-bind_in
bind_row-requires-clause-bind_in c = scope_within c.self.inside c.self.invariant c.args.bind_in (rw (← c.self.view_is) at c.requires.bind_in)

pub invariant_of-self : goal.invariant_of-self
invariant_of-self c = sound_same c.self.inside _ c.self.invariant c.in_err-number.ensures.err refl refl refl refl refl refl

pub returns-in_err-number-clause-err : goal.returns-in_err-number-clause-err
returns-in_err-number-clause-err c =
    rw (← c.self.view_is) (on_err c.from_residual.result (tables_same c.self.inside _ _ _ _ _ _ _ _ c.in_err-number.ensures.err refl refl refl refl refl refl refl))

pub invariant_of-self-in_err-id : goal.invariant_of-self-in_err-id
invariant_of-self-in_err-id c =
    let kept = c.in_err-id.ensures in
    sound_same (record c.self.inside { names = c.intern.new.self }) _ (sound_interned c.self.inside c.self.invariant _ _ _ c.in_ok-number.ensures.ok) refl refl kept.kept_bindings kept.kept_symbols refl (ap rows kept.kept_uses) refl

pub returns-in_err-id-clause-err : goal.returns-in_err-id-clause-err
returns-in_err-id-clause-err c =
    let kept = c.in_err-id.ensures in
    rw (kept.kept_bindings, kept.kept_symbols, kept.kept_uses)
    (err_interned c.self.inside c.self.invariant _ _ _ c.in_ok-number.ensures.ok c.from_residual-in_err-id.result _ c.self.view_is)

pub invariant_of-self-2 : goal.invariant_of-self-2
invariant_of-self-2 c =
    let within = scope_within c.self.inside c.self.invariant c.args.bind_in (rw (← c.self.view_is) at c.requires.bind_in) in
    let told = c.in_ok-id.ensures in
    sound_bound c.self.inside c.self.invariant _ _ _ c.in_ok-number.ensures.ok c.args.bind_in within _ c.new-row.ensures _ told.bindings _ told.symbols _ told.uses (rw (← c.self.view_is) at c.requires.room)

pub returns-clause-ok : goal.returns-clause-ok
returns-clause-ok c =
    let within = scope_within c.self.inside c.self.invariant c.args.bind_in (rw (← c.self.view_is) at c.requires.bind_in) in
    let told = c.in_ok-id.ensures in
    rw (← c.self.view_is) (tables_bound c.self.inside c.self.invariant _ _ _ c.in_ok-number.ensures.ok c.args.bind_in within _ c.new-row.ensures _ told.bindings c.bind_row.new.symbols told.symbols c.bind_row.new.uses told.uses)

pub returns-clause-made : goal.returns-clause-made
returns-clause-made c = rw (← c.self.view_is, length-map) c.in_ok-id.ensures.made
