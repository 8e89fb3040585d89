use Rattle.std.proofs.Common.{refl, ap, ◌∙◌, get_or, []}
use Rattle.std.specs.Str.{bytes_eq}
use Rattle.std.proofs.Math.ListN.{set}
use Rattle.std.proofs.lemmas.List.{length-set}
use Rattle.indexmap.specs.IndexMap.{insert_entry}
use Rattle.semantic_syntax.proofs.Results.{on_err, on_ok_then, on_err_then}
use Rattle.scoping_rows.specs.Names.{name_of}
use Rattle.scoping.proofs.Clones.{sound_same}
use Rattle.scoping.proofs.Cases.{either}
use Rattle.scoping.proofs.Shown.{tables_eq, bound_insert, shown_insert, scope_within, symbol_within, sound_bindings, sound_interned, tables_interned, bindings_interned, symbols_interned, free_interned}
use Rattle.scoping.proofs.scoping.Scoping.add_binding.Goals as goal

pub insert-requires : goal.insert-requires
insert-requires c = scope_within c.self.inside c.self.invariant c.args.scope (rw (← c.self.view_is) at c.requires.scope)

pub invariant_of-self-2 : goal.invariant_of-self-2
invariant_of-self-2 c =
    let interned = c.in_ok-number.ensures.ok in
    let sound = sound_interned c.self.inside c.self.invariant _ _ _ interned in
    let symbol = symbol_within c.self.inside c.self.invariant c.args.symbol (rw (← c.self.view_is) at c.requires.symbol) in
    either c.insert.result
    (λ is. rw is
    (sound_bindings _ sound _ (length-set c.self.inside.bindings c.args.scope _)
    (bound_insert _ _ c.args.scope c.in_ok-number.number c.args.symbol c.self.inside.bindings interned.number.within symbol sound.bound)))
    (λ is. rw is sound)
    c.insert.ensures.ok c.insert.ensures.err

pub returns-clause-ok : goal.returns-clause-ok
returns-clause-ok c =
    let interned = c.in_ok-number.ensures.ok in
    let sound = sound_interned c.self.inside c.self.invariant _ _ _ interned in
    let within = scope_within c.self.inside c.self.invariant c.args.scope (rw (← c.self.view_is) at c.requires.scope) in
    rw (← c.self.view_is)
    (on_ok_then c.insert.result
    (λ is. rw is
    (tables_eq _ _ refl
    (shown_insert _ _ c.self.inside.bindings sound.bound c.args.scope within _ _ interned.number c.args.symbol
    ∙ ap (λ bs. set bs c.args.scope (insert_entry bytes_eq (get_or bs c.args.scope []) (name_of c.args.name) c.args.symbol)) (bindings_interned c.self.inside c.self.invariant _ _ _ interned))
    (symbols_interned c.self.inside c.self.invariant _ _ _ interned)
    refl refl
    (free_interned c.self.inside c.self.invariant _ _ _ interned)
    refl))
    c.insert.ensures.ok)

pub returns-clause-err : goal.returns-clause-err
returns-clause-err c =
    on_err_then c.insert.result (λ is. rw is (tables_interned c.self.inside c.self.invariant _ _ _ c.in_ok-number.ensures.ok ∙ c.self.view_is)) c.insert.ensures.err

pub invariant_of-self : goal.invariant_of-self
invariant_of-self c = sound_same c.self.inside _ c.self.invariant c.in_err-number.ensures.err refl refl refl refl refl refl

pub returns-in_err-number-clause-err : goal.returns-in_err-number-clause-err
returns-in_err-number-clause-err c = rw c.in_err-number.ensures.err (on_err c.from_residual.result c.self.view_is)
