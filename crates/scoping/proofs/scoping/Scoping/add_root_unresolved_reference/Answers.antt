use Rattle.std.proofs.Common.{refl, ap, sym, ◌∙◌, ◌++◌, ◌∷◌, [], unwrap_or}
use Rattle.std.specs.Map.{lookup}
use Rattle.std.specs.Str.{bytes_eq}
use Rattle.indexmap.specs.IndexMap.{insert_entry}
use Rattle.scoping_rows.specs.Names.{named, name_of}
use Rattle.semantic_syntax.proofs.Results.{on_err, on_ok_then, on_err_then}
use Rattle.scoping.proofs.Cases.{either}
use Rattle.scoping.proofs.Clones.{sound_same}
use Rattle.scoping.proofs.Named.{insert-named, lookup-named}
use Rattle.scoping.proofs.Shown.{tables_eq, known_listed, listed_push, sound_free, sound_interned, tables_interned, bindings_interned, symbols_interned, free_interned}
use Rattle.scoping.proofs.scoping.Scoping.add_root_unresolved_reference.Goals as goal

pub invariant_of-self-2 : goal.invariant_of-self-2
invariant_of-self-2 c =
    let interned = c.in_ok-number.ensures.ok in
    let sound = sound_interned c.self.inside c.self.invariant _ _ _ interned in
    either c.push.result
    (λ is. rw is (sound_free _ sound _ (listed_push _ _ c.in_ok-number.number c.args.reference c.self.inside.free interned.number.within (rw (← c.self.view_is) at c.requires) sound.free)))
    (λ is. rw is sound)
    c.push.ensures.ok c.push.ensures.err

pub returns-clause-ok : goal.returns-clause-ok
returns-clause-ok c =
    let interned = c.in_ok-number.ensures.ok in
    let sound = sound_interned c.self.inside c.self.invariant _ _ _ interned in
    let known = known_listed _ _ c.self.inside.free sound.free in
    let free = free_interned c.self.inside c.self.invariant _ _ _ interned in
    rw (← c.self.view_is)
    (on_ok_then c.push.result
    (λ is. rw is
    (tables_eq _ _ refl (bindings_interned c.self.inside c.self.invariant _ _ _ interned) (symbols_interned c.self.inside c.self.invariant _ _ _ interned) refl refl
    (insert-named _ _ _ interned.number _ c.self.inside.free known
    ∙ ap (λ v. insert_entry bytes_eq (named c.intern.new.self c.self.inside.free) (name_of c.args.name) (unwrap_or v [] ++ c.args.reference ∷ [])) (sym (lookup-named _ _ _ interned.number c.self.inside.free known))
    ∙ ap (λ es. insert_entry bytes_eq es (name_of c.args.name) (unwrap_or (lookup (bytes_eq (name_of c.args.name)) es) [] ++ c.args.reference ∷ [])) free)
    refl))
    c.push.ensures.ok)

pub returns-clause-err : goal.returns-clause-err
returns-clause-err c =
    on_err_then c.push.result (λ is. rw is (tables_interned c.self.inside c.self.invariant _ _ _ c.in_ok-number.ensures.ok ∙ c.self.view_is)) c.push.ensures.err

pub invariant_of-self : goal.invariant_of-self
invariant_of-self c = sound_same c.self.inside _ c.self.invariant c.in_err-number.ensures.err refl refl refl refl refl refl

pub returns-in_err-number-clause-err : goal.returns-in_err-number-clause-err
returns-in_err-number-clause-err c = rw c.in_err-number.ensures.err (on_err c.from_residual.result c.self.view_is)
