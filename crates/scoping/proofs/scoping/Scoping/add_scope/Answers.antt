use Rattle.std.proofs.Common.{◌++◌, ◌∷◌, [], refl, ap, ◌∙◌, arith, length-append}
use Rattle.std.proofs.lemmas.List.{length-map, map-append}
use Rattle.semantic_syntax.proofs.Every.{every-push}
use Rattle.semantic_syntax.proofs.Results.{on_err}
use Rattle.scoping_rows.specs.Names.{named}
use Rattle.scoping.specs.View.{scope_of_row}
use Rattle.scoping.proofs.Clones.{sound_same, tables_same}
use Rattle.scoping.proofs.Parents.{IsForest-push}
use Rattle.scoping.proofs.Shown.{tables_eq}
use Rattle.scoping.proofs.scoping.Scoping.add_scope.Goals as goal

pub overflow_cast-len : goal.overflow_cast-len
overflow_cast-len c = omega (arith, c.len.ensures, c.self.inside.scopes.ok.0, c.self.invariant.scopes_fit)

pub invariant_of-self : goal.invariant_of-self
invariant_of-self c = sound_same c.self.inside _ c.self.invariant refl c.reserve.ensures.items refl refl refl refl refl

pub returns-in_err-reserve-clause-err : goal.returns-in_err-reserve-clause-err
returns-in_err-reserve-clause-err c =
    rw (← c.self.view_is) (on_err c.from_residual.result (tables_same c.self.inside _ _ _ _ _ _ _ _ refl c.reserve.ensures.items refl refl refl refl refl refl))

pub invariant_of-self-in_err-add_scope : goal.invariant_of-self-in_err-add_scope
invariant_of-self-in_err-add_scope c = sound_same c.self.inside _ c.self.invariant refl c.reserve.ensures.items c.in_err-add_scope.ensures.err refl refl refl refl

pub returns-in_err-add_scope-clause-err : goal.returns-in_err-add_scope-clause-err
returns-in_err-add_scope-clause-err c =
    rw (← c.self.view_is) (on_err c.from_residual-in_err-add_scope.result (tables_same c.self.inside _ _ _ _ _ _ _ _ refl c.reserve.ensures.items c.in_err-add_scope.ensures.err refl refl refl refl refl))

pub invariant_of-self-2 : goal.invariant_of-self-2
invariant_of-self-2 c =
    let before = c.self.invariant in
    let pushed = c.push_in_room.ensures ∙ ap (λ xs. xs ++ record { parent = c.args.parent; node = c.args.node; flags = c.args.flags } ∷ []) c.reserve.ensures.items in
    let scopes = c.in_ok-add_scope.ensures.ok in
    record {
      counted = rw (pushed, scopes) (omega (arith, length-append c.self.inside.bindings ([] ∷ []), length-append c.self.inside.scopes.items (record { parent = c.args.parent; node = c.args.node; flags = c.args.flags } ∷ []), before.counted));
      bound = rw scopes (every-push _ [] c.self.inside.bindings before.bound tt);
      named = before.named;
      used = before.used;
      uses = before.uses;
      free = before.free;
      forest = rw (pushed, map-append) (IsForest-push _ (record { parent = c.args.parent; node = c.args.node; flags = c.args.flags }) before.forest (rw (← c.self.view_is) at c.requires.parent));
      symbols_fit = before.symbols_fit;
      scopes_fit = rw pushed (omega (arith, c.requires.room, rw length-map at (rw (← c.self.view_is) at c.requires.room), length-append c.self.inside.scopes.items (record { parent = c.args.parent; node = c.args.node; flags = c.args.flags } ∷ [])));
      references_fit = before.references_fit;
    }

pub returns-clause-added : goal.returns-clause-added
returns-clause-added c = rw (← c.self.view_is) (omega (arith, c.new-id.ensures, c.len.ensures, c.self.inside.scopes.ok.0, length-map c.self.inside.scopes.items scope_of_row))

pub returns-clause-ok : goal.returns-clause-ok
returns-clause-ok c =
    let a = c.self.inside in
    let pushed = c.push_in_room.ensures ∙ ap (λ xs. xs ++ record { parent = c.args.parent; node = c.args.node; flags = c.args.flags } ∷ []) c.reserve.ensures.items in
    rw (← c.self.view_is, pushed, c.in_ok-add_scope.ensures.ok)
    (tables_eq _ _ (map-append scope_of_row a.scopes.items _) (map-append (named a.names) a.bindings ([] ∷ [])) refl refl refl refl refl)
