use Rattle.std.proofs.Common.{◌≡◌, refl, None, sym, ap, ◌∙◌, map, get_or, []}
use Rattle.std.specs.Map.{lookup}
use Rattle.std.specs.Str.{bytes_eq}
use Rattle.semantic_syntax.proofs.Results.{on_err, on_ok_then, on_err_then}
use Rattle.scoping_rows.specs.Names.{named, name_of}
use Rattle.scoping.proofs.Clones.{sound_same}
use Rattle.scoping.proofs.Cases.{either}
use Rattle.scoping.proofs.Renamed.{sound_renamed, is_renamed}
use Rattle.scoping.proofs.Shown.{scope_within, sound_interned, tables_interned, shown_lookup_unknown, bindings_interned}
use Rattle.scoping.proofs.scoping.Scoping.rename_binding.Goals as goal

pub rename-requires : goal.rename-requires
rename-requires c = record { scope = scope_within c.self.inside c.self.invariant c.args.scope (rw (← c.self.view_is) at c.requires.scope) }

pub invariant_of-self-in-Some : goal.invariant_of-self-in-Some
invariant_of-self-in-Some c =
    let interned = c.in_ok-new_number.ensures.ok in
    either c.rename.result
    (λ is. rw is (sound_renamed c.self.inside c.self.invariant _ _ _ interned c.args.scope c.args.symbol _ (rw (← c.self.view_is) at c.requires.symbol)))
    (λ is. rw is (sound_interned c.self.inside c.self.invariant _ _ _ interned))
    c.rename.ensures.ok c.rename.ensures.err

pub returns-in-Some-clause-ok : goal.returns-in-Some-clause-ok
returns-in-Some-clause-ok c =
    rw (← c.self.view_is)
    (on_ok_then c.rename.result
    (λ is. rw is (is_renamed c.self.inside c.self.invariant _ _ _ c.in_ok-new_number.ensures.ok c.args.scope c.args.symbol (rw (← c.self.view_is) at c.requires.scope) _ _ c.in-Some.ensures))
    c.rename.ensures.ok)

pub returns-in-Some-clause-err : goal.returns-in-Some-clause-err
returns-in-Some-clause-err c =
    on_err_then c.rename.result (λ is. rw is (tables_interned c.self.inside c.self.invariant _ _ _ c.in_ok-new_number.ensures.ok ∙ c.self.view_is)) c.rename.ensures.err

pub returns-in-None-clause-ok : goal.returns-in-None-clause-ok
returns-in-None-clause-ok c =
    let a = c.self.inside in
    let names = c.intern.new.self in
    let interned = c.in_ok-new_number.ensures.ok in
    let sound = sound_interned a c.self.invariant _ _ _ interned in
    let within = scope_within a c.self.invariant c.args.scope (rw (← c.self.view_is) at c.requires.scope) in
    let found = shown_lookup_unknown names _ a.bindings sound.bound c.args.scope within (name_of c.args.old) c.in-None.ensures in
    let none : lookup (bytes_eq (name_of c.args.old)) (get_or (map (named a.names) a.bindings) c.args.scope []) ≡ None =
    ap (λ bs. lookup (bytes_eq (name_of c.args.old)) (get_or bs c.args.scope [])) (sym (bindings_interned a c.self.invariant _ _ _ interned)) ∙ found in
    let bound = rw (← c.self.view_is) at c.requires.bound in
    absurd (cc)

pub invariant_of-self : goal.invariant_of-self
invariant_of-self c = sound_same c.self.inside _ c.self.invariant c.in_err-new_number.ensures.err refl refl refl refl refl refl

pub returns-in_err-new_number-clause-err : goal.returns-in_err-new_number-clause-err
returns-in_err-new_number-clause-err c = rw c.in_err-new_number.ensures.err (on_err c.from_residual.result c.self.view_is)

pub invariant_of-self-in-None : goal.invariant_of-self-in-None
invariant_of-self-in-None c = sound_interned c.self.inside c.self.invariant _ _ _ c.in_ok-new_number.ensures.ok
