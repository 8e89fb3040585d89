use Rattle.std.proofs.Common.{refl, sym, length, nat_eq}
use Rattle.scoping_rows.specs.Names.{name_of}
use Rattle.scoping.proofs.Keeping.{delisted_unknown, delisted-named, delisted_within}
use Rattle.scoping.proofs.Shown.{tables_eq, known_listed, sound_free}
use Rattle.scoping.proofs.scoping.Scoping.delete_root_unresolved_reference.Goals as goal

pub invariant_of-self : goal.invariant_of-self
invariant_of-self c =
    let a = c.self.inside in
    rw c.remove.ensures
    (sound_free a c.self.invariant _ (delisted_within (length a.names) (length a.references.items) (nat_eq c.in-Some.number) c.args.reference a.free c.self.invariant.free))

pub returns-in-Some : goal.returns-in-Some
returns-in-Some c =
    let a = c.self.inside in
    let known = known_listed _ _ a.free c.self.invariant.free in
    rw (← c.self.view_is, c.remove.ensures)
    (tables_eq _ _ refl refl refl refl refl (delisted-named a.names (name_of c.args.name) c.args.reference c.in-Some.number c.in-Some.ensures a.free known) refl)

pub returns-in_default : goal.returns-in_default
returns-in_default c =
    let a = c.self.inside in
    let known = known_listed _ _ a.free c.self.invariant.free in
    rw (← c.self.view_is)
    (tables_eq _ _ refl refl refl refl refl (sym (delisted_unknown a.names (name_of c.args.name) c.args.reference c.in_default.ensures a.free known)) refl)
