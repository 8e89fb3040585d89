use Rattle.std.proofs.Common.{refl, sym, ap, ◌∙◌, []}
use Rattle.std.proofs.Math.ListN.{set}
use Rattle.std.proofs.lemmas.List.{length-set, set-get_or}
use Rattle.std.specs.Str.{bytes_eq}
use Rattle.indexmap.specs.IndexMap.{shift_remove_entry}
use Rattle.scoping_rows.specs.Names.{name_of}
use Rattle.scoping.proofs.Named.{remove-unknown}
use Rattle.scoping.proofs.Shown.{tables_eq, bound_remove, known_at, shown_at, shown_remove, scope_within, sound_bindings}
use Rattle.scoping.proofs.scoping.Scoping.remove_binding.Goals as goal

pub remove-requires : goal.remove-requires
remove-requires c = scope_within c.self.inside c.self.invariant c.args.scope (rw (← c.self.view_is) at c.requires)

pub invariant_of-self : goal.invariant_of-self
invariant_of-self c =
    rw c.remove.ensures
    (sound_bindings c.self.inside c.self.invariant _ (length-set c.self.inside.bindings c.args.scope _)
    (bound_remove _ _ c.args.scope c.in-Some.number c.self.inside.bindings c.self.invariant.bound))

pub returns-in-Some : goal.returns-in-Some
returns-in-Some c =
    let within = scope_within c.self.inside c.self.invariant c.args.scope (rw (← c.self.view_is) at c.requires) in
    rw (← c.self.view_is, c.remove.ensures)
    (tables_eq _ _ refl (shown_remove _ _ c.self.inside.bindings c.self.invariant.bound c.args.scope within _ _ c.in-Some.ensures) refl refl refl refl refl)

pub returns-in_default : goal.returns-in_default
returns-in_default c =
    let within = scope_within c.self.inside c.self.invariant c.args.scope (rw (← c.self.view_is) at c.requires) in
    let shown = shown_at _ _ c.self.inside.bindings c.self.invariant.bound c.args.scope within in
    rw (← c.self.view_is)
    (tables_eq _ _ refl
    (sym (ap (set _ c.args.scope) (ap (shift_remove_entry (bytes_eq (name_of c.args.name))) shown ∙ remove-unknown _ _ c.in_default.ensures _ (known_at _ _ c.self.inside.bindings c.args.scope c.self.invariant.bound) ∙ sym shown) ∙ set-get_or _ c.args.scope []))
    refl refl refl refl refl)
