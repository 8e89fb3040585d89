-- What is declared in the scope of the program is bound there in the end.
use Rattle.std.proofs.Common.{◌≡◌, ℕ, Option, Some, None, true, false, inl, refl, sym, ap, subst, ◌∙◌}
use Rattle.semantic_syntax.specs.Tables.{Name}
use Rattle.semantic_tree.specs.Faults.{first_fault}
use Rattle.semantic_tree.specs.Tree.{Tree}
use Rattle.semantic_model.specs.Binder.{is_var}
use Rattle.semantic_model.specs.Binding.{get}
use Rattle.semantic_model.specs.Declaration.{How, plain, hoisted, moved, caught, Declaration}
use Rattle.semantic_model.specs.Entries.{Among}
use Rattle.semantic_model.specs.Event.{events, declarations}
use Rattle.semantic_model.specs.Fold.{State, Made, start, or_else}
use Rattle.semantic_model.specs.Hoist.{run}
use Rattle.semantic_model.specs.Step.{steps}
use Rattle.semantic_model.proofs.fold.Actions.{unless_some}
use Rattle.semantic_model.proofs.fold.Orders.{root_body}
use Rattle.semantic_model.proofs.form.Shape.{has_form}
use Rattle.semantic_model.specs.TablesOf.{made_of}
use Rattle.binding_laws.specs.SeenDeclarations.{is_own_name}
use Rattle.binding_laws.specs.OneSymbol.{takes_by, first_scope}
use Rattle.binding_laws.proofs.KeptSteps.{end_keeps}
use Rattle.binding_laws.proofs.KeptSymbols.{Keeps, IsFreeBy}
use Rattle.binding_laws.proofs.VarScopes.{var_scopes_keep_names, none_begins}

module _ (p : Tree) (h : first_fault p ≡ None) (m : Made) (a : Among m (made_of p)) (flat : m.declaration.how ≡ plain) (top : m.declaration.route.target.number ≡ 0) (var : is_var m.declaration.route.target ≡ true) (other : is_own_name m.declaration ≡ false) where
  abbrev x : Name
  x = m.declaration.naming.name

  abbrev final : State
  final = run start (events (steps p))

  not_true : {A : Type 0} → false ≡ true → A
  not_true e = absurd cc

  free_by : (how : How) (d : Declaration) → d.how ≡ how → Among d (declarations (events (steps p))) → takes_by how 0 d ≡ false → IsFreeBy false 0 x how d
  free_by plain d e b n = tt
  free_by hoisted d e b n = (n, λ z. not_true z)
  free_by moved d e b n = (λ z q. none_begins p h m a var d b e (q ∙ sym top), λ z. not_true z)
  free_by caught d e b n = n

  keeps : Keeps false 0 x final
  keeps = end_keeps p h false 0 x (root_body p (has_form p h)) (λ d b n. free_by d.how d refl b (subst (λ c. takes_by d.how c d ≡ false) top (var_scopes_keep_names p h x m a var d b n)))

  pub bound_at_top : get final.bindings 0 x ≡ Some m.symbol
  bound_at_top =
      go (get final.bindings 0 x)
      (ap (or_else (get final.bindings 0 x)) (sym (keeps.bare refl))
      ∙ unless_some final (or_else (get final.bindings 0 x) (get final.remembered 0 x)) m.symbol
      (keeps.bound_to m a (record { stays = inl flat; scope = ap (λ how. first_scope how m.declaration) flat ∙ top; named = refl; other = other })).bound)
    where
      go : (o : Option ℕ) → or_else o None ≡ Some m.symbol → o ≡ Some m.symbol
      go None e = absurd cc
      go (Some s) e = e
