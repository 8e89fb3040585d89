-- What is known of all that binds a plain name, own names of expressions among it: its declaration, and by which node the environment is made.
use Rattle.std.proofs.Common.{◌≡◌, Some, None, true, false, inl, inr, ◌⊎◌, refl, sym, ap, subst, ◌∙◌}
use Rattle.std.proofs.lemmas.Bool.{cases_Bool}
use Rattle.semantic_syntax.specs.Tables.{Name}
use Rattle.semantic_tree.specs.Faults.{first_fault}
use Rattle.semantic_tree.specs.Tree.{Tree, IsNumbered}
use Rattle.semantic_tree.specs.declared.node.Node.{Node}
use Rattle.semantic_model.specs.Declaration.{Declaration}
use Rattle.semantic_model.specs.Entries.{Among}
use Rattle.semantic_model.specs.Event.{declarations, events}
use Rattle.semantic_model.specs.Step.{entering, steps}
use Rattle.binding_laws.proofs.ListLaws.{each_at}
use Rattle.binding_laws.proofs.ScopeOpeners.{openers, IsOpened}
use Rattle.binding_laws.proofs.SmallLaws.{never}
use Rattle.language_ties.specs.AgreeingNames.{IsPlainName}
use Rattle.language_ties.specs.Bound.{Bound, is_bound_as}
use Rattle.language_ties.specs.EcmaScript.{is_ecmascript}
use Rattle.language_ties.specs.Environments.{Environment, is_made_for, has_parameter_expressions}
use Rattle.language_ties.specs.declared.bound_as.BoundAs.TheVariants as bound
use Rattle.language_ties.specs.declared.environment_kind.EnvironmentKind.TheVariants as environment
use Rattle.language_ties.proofs.agree.FamiliarPlaces.{IsFamiliar, FamiliarAt, familiar_program}
use Rattle.language_ties.proofs.agree.KnownBounds.{KnownBound, known_bound, bodiless}
use Rattle.language_ties.proofs.agree.KnownNodes.{node_at}
use Rattle.language_ties.proofs.agree.MadeEnvironments.{may_make}
use Rattle.language_ties.proofs.moved.Settled.{settled_bounds, no_function, unsettled}
use Rattle.language_ties.proofs.own_names.OwnBounds.{IsOfExpression, OwnBound, own_bound, own_maker}

module _ (p : Tree) (h : first_fault p ≡ None) (e : is_ecmascript p ≡ true) (numbered : IsNumbered p.root) (x : Name) (plain : IsPlainName p x) where
  -- declared, or the own name of an expression
  abbrev pub AnyBound : Bound → Type 0
  AnyBound b = KnownBound p h e numbered x plain b ⊎ OwnBound p h x b

  pub any_bound : (b : Bound) → Among b (settled_bounds p) → b.name ≡ x → AnyBound b
  any_bound b a n = elim (cases_Bool (is_bound_as bound.OwnName b)) [
    | inl o ↦ inr (own_bound p h x b (unsettled p b a (no_function b bound.OwnName o refl)) n o)
    | inr o ↦ inl (known_bound p h e numbered x plain b a n o)
  ]

  -- ---- the declaration

  pub record IsDeclared (b : Bound) : Type 0 where
    pub declaration : Declaration
    pub among : Among declaration (declarations (events (steps p)))
    pub identifier : declaration.naming.identifier ≡ b.identifier
    pub opened : IsOpened (openers (steps p)) declaration.route.target
    pub maker : declaration.route.target.opener ≡ b.environment.maker
    pub bodiless : is_made_for environment.Catch b.environment ≡ false → declaration.route.target.body ≡ None

  pub is_declared : (b : Bound) → AnyBound b → IsDeclared b
  is_declared b (inl k) = record { declaration = k.declares.declaration; among = k.declares.among; identifier = k.declares.identifier; opened = k.declares.opened; maker = k.declares.maker; bodiless = bodiless p h e numbered x plain b k }
  is_declared b (inr o) = record {
    declaration = o.declaration;
    among = o.among;
    identifier = o.identifier;
    opened = subst (IsOpened (openers (steps p))) (sym o.target) o.opened;
    maker = ap (λ s. s.opener) o.target ∙ o.opener ∙ sym (own_maker p h x b o);
    bodiless = λ w. ap (λ s. s.body) o.target ∙ o.bodiless;
  }

  pub declared_known : (b : Bound) (k : KnownBound p h e numbered x plain b) → (is_declared b (inl k)).declaration ≡ k.declares.declaration
  unfolding is_declared
  declared_known b k = refl

  pub declared_own : (b : Bound) (o : OwnBound p h x b) → (is_declared b (inr o)).declaration ≡ o.declaration
  unfolding is_declared
  declared_own b o = refl

  -- ---- the environment

  pub record IsMade (b : Bound) : Type 0 where
    pub maker : Node
    pub found : node_at p b.environment.maker ≡ Some maker
    pub makes : may_make maker.kind b.environment.kind ≡ true
    pub body : is_made_for environment.Body b.environment ≡ true → has_parameter_expressions maker ≡ true

  of_expression : (y : Node) (d : Environment) → IsOfExpression y d → (may_make y.kind d.kind ≡ true) × (is_made_for environment.Body d ≡ false)
  of_expression y d (inl w) = (subst (λ c. may_make y.kind c.kind ≡ true) (sym w.1) (subst (λ i. may_make i environment.OwnName ≡ true) (sym w.0) refl), ap (is_made_for environment.Body) w.1)
  of_expression y d (inr w) = (subst (λ c. may_make y.kind c.kind ≡ true) (sym w.1) (subst (λ i. may_make i environment.Class ≡ true) (sym w.0) refl), ap (is_made_for environment.Body) w.1)

  pub is_made : (b : Bound) → AnyBound b → IsMade b
  is_made b (inl k) = record { maker = k.placed.maker; found = k.placed.found; makes = k.placed.makes; body = k.placed.body }
  is_made b (inr o) =
      let familiar : IsFamiliar (node_at p) o.place = each_at (FamiliarAt (node_at p)) (steps p) (entering o.place) (familiar_program p h e numbered) o.entered in
      let two : (may_make o.place.node.kind b.environment.kind ≡ true) × (is_made_for environment.Body b.environment ≡ false) = of_expression o.place.node b.environment o.named_by.sort in
      record { maker = o.place.node; found = ap (node_at p) (own_maker p h x b o) ∙ familiar.node; makes = two.0; body = λ w. absurd (never (sym w ∙ two.1)) }

  -- an own name is bound by the environment of a name or of a class alone
  pub own_kind : (b : Bound) → OwnBound p h x b → is_made_for environment.OwnName b.environment ≡ false → is_made_for environment.Class b.environment ≡ false → ⊥
  own_kind b o i j = go o.named_by.sort
    where
      go : IsOfExpression o.place.node b.environment → ⊥
      go (inl w) = never (sym (ap (is_made_for environment.OwnName) w.1) ∙ i)
      go (inr w) = never (sym (ap (is_made_for environment.Class) w.1) ∙ j)
