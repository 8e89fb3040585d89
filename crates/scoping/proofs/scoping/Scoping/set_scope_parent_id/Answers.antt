use Rattle.std.proofs.Common.{refl}
use Rattle.std.proofs.lemmas.List.{length-set}
use Rattle.scoping.proofs.Reparent.{IsForest-reparent}
use Rattle.scoping.proofs.Shown.{tables_eq, scope_changed, row_within, sound_scopes}
use Rattle.scoping.proofs.scoping.Scoping.set_scope_parent_id.Goals as goal

pub invariant_of-self : goal.invariant_of-self
invariant_of-self c =
    let before = c.self.invariant in
    let requires = rw (← c.self.view_is) at c.requires.scope in
    let within = row_within c.self.inside before c.args.scope requires in
    let row = record c.index_mut-row.result.now { parent = c.args.parent } in
    sound_scopes _ before _ (length-set c.self.inside.scopes.items c.index.result row)
    (rw (scope_changed c.self.inside.scopes.items c.args.scope c.index.result c.index_mut-row.result.now row c.index.ensures within c.index_mut-row.ensures.value (λ x. record x { parent = c.args.parent }) refl)
    (IsForest-reparent _ c.args.scope c.args.parent before.forest requires (rw (← c.self.view_is) at c.requires.parent) (rw (← c.self.view_is) at c.requires.acyclic)))

pub returns : goal.returns
returns c =
    let within = row_within c.self.inside c.self.invariant c.args.scope (rw (← c.self.view_is) at c.requires.scope) in
    rw (← c.self.view_is)
    (tables_eq _ _
    (scope_changed c.self.inside.scopes.items c.args.scope c.index.result c.index_mut-row.result.now (record c.index_mut-row.result.now { parent = c.args.parent }) c.index.ensures within c.index_mut-row.ensures.value (λ x. record x { parent = c.args.parent }) refl)
    refl refl refl refl refl refl)
