use Rattle.std.proofs.Common.{refl, ap, sym}
use Rattle.std.proofs.lemmas.List.{length-set}
use Rattle.semantic_syntax.specs.Tables.{Scope}
use Rattle.scoping.proofs.Forests.{IsForest-same}
use Rattle.scoping.proofs.Shown.{scope_index, tables_eq, scope_at, scope_changed, parents_kept, row_within, sound_scopes}
use Rattle.scoping.proofs.scoping.Scoping.scope_flags_mut.Goals as goal

pub invariant_of-self-lent : goal.invariant_of-self-lent
invariant_of-self-lent c = λ w.
    let before = c.self.invariant in
    let within = row_within c.self.inside before c.args.scope (rw (← c.self.view_is) at c.requires) in
    let row = record c.index_mut-row.result.now { flags = w } in
    sound_scopes _ before _ (length-set c.self.inside.scopes.items c.index.result row)
    (IsForest-same _ _ (parents_kept c.self.inside.scopes.items c.args.scope c.index.result c.index_mut-row.result.now row c.index.ensures within c.index_mut-row.ensures.value refl) before.forest)

pub returns : goal.returns
returns c =
    let within = row_within c.self.inside c.self.invariant c.args.scope (rw (← c.self.view_is) at c.requires) in (
      (
        refl,
        λ w. rw (← c.self.view_is)
            (tables_eq _ _
            (scope_changed c.self.inside.scopes.items c.args.scope c.index.result c.index_mut-row.result.now (record c.index_mut-row.result.now { flags = w }) c.index.ensures within c.index_mut-row.ensures.value (λ x. record x { flags = w }) refl)
            refl refl refl refl refl refl),
      ),
      record {
        writes_back = tt;
        value = rw (← c.self.view_is) (sym (ap (λ (x : Scope). x.flags) (scope_at c.self.inside.scopes.items c.args.scope c.index.result c.index_mut-row.result.now c.index_mut-row.result.now c.index.ensures within c.index_mut-row.ensures.value)));
      },
    )

pub index_mut-row-requires : goal.index_mut-row-requires
index_mut-row-requires c = scope_index c.self.inside c.self.invariant c.args.scope c.index.result c.index.ensures (rw (← c.self.view_is) at c.requires)
