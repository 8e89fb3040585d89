-- What holds of the chain round a place holds of those of its children, and round the parameters among them.
use Rattle.std.proofs.Common.{◌≡◌, ℕ, List, ◌∷◌, Option, Some, None, Bool, true, false, cond, ◌&&◌, ◌||◌, not, inl, inr, refl, sym, subst}
use Rattle.std.proofs.lemmas.Bool.{cases_Bool, not-true, or_left}
use Rattle.semantic_syntax.proofs.Truth.{and_first, and_second}
use Rattle.semantic_kinds.specs.Kinds.{same_kind}
use Rattle.semantic_kinds.specs.declared.kind.AstType.{AstType}
use Rattle.semantic_kinds.specs.declared.kind.AstType.TheVariants as kind
use Rattle.semantic_kinds.specs.declared.role.Role.{Role}
use Rattle.semantic_tree.specs.declared.node.Node.{Node}
use Rattle.semantic_tree.specs.Views.{is}
use Rattle.semantic_model.specs.Place.{Place, OpenScope, outside}
use Rattle.semantic_model.specs.Inside.{is_inside, is_in_header, is_parameter_decorator}
use Rattle.semantic_model.specs.ScopeKind.{opened_scope}
use Rattle.semantic_model.specs.Step.{scope_at, child_place, child_scopes}
use Rattle.semantic_model.proofs.form.Clauses.{kind_is}
use Rattle.semantic_model.proofs.form.ParameterShape.{holds_inside, is_parameter, stands_under}

-- a list of parameters, or a parameter
abbrev pub holds_parameters : AstType → Bool
holds_parameters k = same_kind k kind.FormalParameters || is_parameter k

decorated : (k : AstType) (r : Role) → is_parameter_decorator k r ≡ true → holds_parameters k ≡ true
decorated kind.FormalParameter r h = refl
decorated kind.FormalParameterRest r h = refl
decorated _ r h = absurd cc

-- once a child inside is reached, the scope is open
pub is_open_inside : (p : Place) (r : Role) (own : Option OpenScope) (n : ℕ) → is_inside p.node.kind r ≡ true → scope_at p r own n ≡ None → ⊥
is_open_inside p r (Some s) n i e = absurd cc
is_open_inside p r None n i e = let q : Some (opened_scope p n) ≡ None = rw i at e in absurd cc

or_same : (a b : Bool) → a ≡ false → (a || b) ≡ true → b ≡ true
or_same a b e h = rw e at h

module _ (P : List OpenScope → Type 0) (p : Place) (scope : Option OpenScope) (cursor : ℕ) (r : Role) (node : Node) where
  -- a child stands within, or, if it decorates a parameter, round it
  pub child_within : (holds_parameters p.node.kind ≡ true → P (outside p.chain)) → P (child_scopes p r scope) → P (child_place p scope cursor r node).chain
  child_within outer within = go (is_parameter_decorator p.node.kind r) refl
    where
      go : (b : Bool) → is_parameter_decorator p.node.kind r ≡ b → P (cond b (outside p.chain) (child_scopes p r scope))
      go true e = outer (decorated p.node.kind r e)
      go false e = within

  -- a list of parameters stands in a function's own scope
  list_outer : (is_inside p.node.kind r ≡ true → scope ≡ None → ⊥) → (is kind.BlockStatement p.node ≡ false → P p.chain) → holds_inside p.node.kind r ≡ true → P (outside (child_place p scope cursor r node).chain)
  list_outer is_open chain h =
      let three : (is_inside p.node.kind r && not (is_parameter_decorator p.node.kind r) && not (same_kind p.node.kind kind.BlockStatement)) ≡ true = and_first (is_inside p.node.kind r && not (is_parameter_decorator p.node.kind r) && not (same_kind p.node.kind kind.BlockStatement)) (not (same_kind p.node.kind kind.CatchClause)) h in
      let block : is kind.BlockStatement p.node ≡ false = not-true (same_kind p.node.kind kind.BlockStatement) (and_second (is_inside p.node.kind r && not (is_parameter_decorator p.node.kind r)) (not (same_kind p.node.kind kind.BlockStatement)) three) in
      let two : (is_inside p.node.kind r && not (is_parameter_decorator p.node.kind r)) ≡ true = and_first (is_inside p.node.kind r && not (is_parameter_decorator p.node.kind r)) (not (same_kind p.node.kind kind.BlockStatement)) three in
      let inside : is_inside p.node.kind r ≡ true = and_first (is_inside p.node.kind r) (not (is_parameter_decorator p.node.kind r)) two in
      let plain : is_parameter_decorator p.node.kind r ≡ false = not-true (is_parameter_decorator p.node.kind r) (and_second (is_inside p.node.kind r) (not (is_parameter_decorator p.node.kind r)) two) in
      rw plain (go scope is_open inside (chain block))
    where
      go : (o : Option OpenScope) → (is_inside p.node.kind r ≡ true → o ≡ None → ⊥) → is_inside p.node.kind r ≡ true → P p.chain → P (outside (child_scopes p r o))
      go None f i c = absurd (f i refl)
      go (Some s) f i c = rw i c

  -- a parameter stands where its list does
  parameter_outer : same_kind p.node.kind kind.FormalParameters ≡ true → P (outside p.chain) → P (outside (child_place p scope cursor r node).chain)
  parameter_outer h c = subst (λ k. P (outside (cond (is_parameter_decorator k r) (outside p.chain) (chain_by k scope)))) (sym (kind_is p.node.kind kind.FormalParameters h)) (go scope)
    where
      chain_by : AstType → Option OpenScope → List OpenScope
      chain_by k None = p.chain
      chain_by k (Some s) = cond (is_inside k r) (record s { in_header = is_in_header k r } ∷ p.chain) p.chain

      go : (o : Option OpenScope) → P (outside (chain_by kind.FormalParameters o))
      go None = c
      go (Some s) = c

  -- a list or a parameter among the children
  pub child_outer : (is_inside p.node.kind r ≡ true → scope ≡ None → ⊥) → (same_kind node.kind kind.FormalParameters ≡ true → is kind.BlockStatement p.node ≡ false → P p.chain) → (holds_parameters p.node.kind ≡ true → P (outside p.chain))
      → stands_under p.node.kind r node.kind ≡ true → holds_parameters node.kind ≡ true → P (outside (child_place p scope cursor r node).chain)
  child_outer is_open chain outer s h = elim (cases_Bool (same_kind node.kind kind.FormalParameters)) [
    | inl e ↦ list_outer is_open (chain e) (rw e at s)
    | inr e ↦ (let parameter : is_parameter node.kind ≡ true = or_same (same_kind node.kind kind.FormalParameters) (is_parameter node.kind) e h in
        let under : same_kind p.node.kind kind.FormalParameters ≡ true = rw (e, parameter) at s in
        parameter_outer under (outer (or_left (same_kind p.node.kind kind.FormalParameters) (is_parameter p.node.kind) under)))
  ]
