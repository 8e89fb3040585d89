-- The openers that go along with a place are those of its innermost scope and of the scope around it.
use Rattle.std.proofs.Common.{◌≡◌, ℕ, ◌∷◌, Option, Some, None, Bool, true, false, cond, ◌&&◌, ◌||◌, not, refl, sym, ap, ◌∙◌, inl, inr}
use Rattle.std.proofs.lemmas.Bool.{cases_Bool}
use Rattle.semantic_syntax.proofs.Truth.{and_first, and_second}
use Rattle.semantic_kinds.specs.Kinds.{same_kind}
use Rattle.semantic_kinds.specs.declared.kind.AstType.{AstType}
use Rattle.semantic_kinds.specs.declared.kind.AstType.TheVariants as kind
use Rattle.semantic_kinds.specs.declared.role.Role.{Role}
use Rattle.semantic_tree.specs.declared.node.Node.{Node}
use Rattle.semantic_model.specs.Place.{Place, OpenScope, innermost, outside}
use Rattle.semantic_model.specs.Inside.{is_inside, is_in_header, is_parameter_decorator}
use Rattle.semantic_model.specs.ScopeKind.{opened_scope}
use Rattle.semantic_model.specs.Step.{scope_at, child_place, child_scopes}
use Rattle.semantic_model.proofs.form.Clauses.{kind_is}
use Rattle.semantic_model.proofs.form.ParameterShape.{holds_inside, is_parameter, stands_under}
use Rattle.walk_model.specs.WrittenNames.{Openers, openers_at}

-- a parameter or a list of parameters: where decorators of parameters may come
abbrev pub may_be_decorated : AstType → Bool
may_be_decorated k = same_kind k kind.FormalParameters || is_parameter k

pub record FitOpeners (p : Place) (o : Openers) : Type 0 where
  pub within : o.innermost ≡ (innermost p.chain).opener
  pub beyond : may_be_decorated p.node.kind ≡ true → o.around ≡ (innermost (outside p.chain)).opener

-- the node's own scope, once it is open, is opened by the node
abbrev pub IsOwn : Place → Option OpenScope → Type 0
IsOwn p None = Unit {0}
IsOwn p (Some s) = s.opener ≡ p.node.node_id

pub own_at : (p : Place) (r : Role) (own : Option OpenScope) (n : ℕ) → IsOwn p own → IsOwn p (scope_at p r own n)
own_at p r (Some s) n h = h
own_at p r None n h = by (is_inside p.node.kind r)
  where
    by : (b : Bool) → IsOwn p (cond b (Some (opened_scope p n)) None)
    by true = refl
    by false = tt

decorated_outside : (k : AstType) (r : Role) → is_parameter_decorator k r ≡ true → is_inside k r ≡ false
decorated_outside kind.FormalParameter r h = refl
decorated_outside kind.FormalParameterRest r h = refl
decorated_outside _ r h = absurd cc

decorated_so : (k : AstType) (r : Role) → is_parameter_decorator k r ≡ true → may_be_decorated k ≡ true
decorated_so kind.FormalParameter r h = refl
decorated_so kind.FormalParameterRest r h = refl
decorated_so _ r h = absurd cc

-- a child inside stands in the own scope, within the scopes of its parent
within_own : (p : Place) (r : Role) (own : Option OpenScope) → IsOwn p own → (is_inside p.node.kind r ≡ true → own ≡ None → ⊥) → is_inside p.node.kind r ≡ true
    → ((innermost (child_scopes p r own)).opener ≡ p.node.node_id) × (outside (child_scopes p r own) ≡ p.chain)
within_own p r None h opened i = absurd (opened i refl)
within_own p r (Some s) h opened i = by (is_inside p.node.kind r) i
  where
    by : (b : Bool) → b ≡ true → ((innermost (cond b (record s { in_header = is_in_header p.node.kind r } ∷ p.chain) p.chain)).opener ≡ p.node.node_id) × (outside (cond b (record s { in_header = is_in_header p.node.kind r } ∷ p.chain) p.chain) ≡ p.chain)
    by true e = (h, refl)
    by false e = absurd cc

-- a child that isn't inside stands where its parent does
without_own : (p : Place) (r : Role) (own : Option OpenScope) → is_inside p.node.kind r ≡ false → child_scopes p r own ≡ p.chain
without_own p r None i = refl
without_own p r (Some s) i = ap (λ b. cond b (record s { in_header = is_in_header p.node.kind r } ∷ p.chain) p.chain) i

-- the openers of a child's place
abbrev chosen : Bool → Bool → ℕ → Openers → Openers
chosen inside decorator id o = cond inside (record { innermost = id; around = o.innermost }) (cond decorator (record { innermost = o.around; around = o.around }) o)

child_within : (p : Place) (own : Option OpenScope) (cursor : ℕ) (r : Role) (node : Node) (o : Openers) → IsOwn p own → (is_inside p.node.kind r ≡ true → own ≡ None → ⊥) → FitOpeners p o
    → (openers_at p.node r o).innermost ≡ (innermost (child_place p own cursor r node).chain).opener
child_within p own cursor r node o own_is opened f = by (is_inside p.node.kind r) (is_parameter_decorator p.node.kind r) refl refl
  where
    by : (i d : Bool) → is_inside p.node.kind r ≡ i → is_parameter_decorator p.node.kind r ≡ d
        → (chosen i d p.node.node_id o).innermost ≡ (innermost (cond d (outside p.chain) (child_scopes p r own))).opener
    by true true e g = let w : true ≡ false = sym e ∙ decorated_outside p.node.kind r g in absurd cc
    by true false e g = sym (within_own p r own own_is opened e).0
    by false true e g = f.beyond (decorated_so p.node.kind r g)
    by false false e g = f.within ∙ ap (λ c. (innermost c).opener) (sym (without_own p r own e))

-- a list of parameters stands in a function's own scope
list_beyond : (p : Place) (own : Option OpenScope) (cursor : ℕ) (r : Role) (node : Node) (o : Openers) → IsOwn p own → (is_inside p.node.kind r ≡ true → own ≡ None → ⊥) → FitOpeners p o → holds_inside p.node.kind r ≡ true
    → (openers_at p.node r o).around ≡ (innermost (outside (child_place p own cursor r node).chain)).opener
list_beyond p own cursor r node o own_is opened f h =
    let three : (is_inside p.node.kind r && not (is_parameter_decorator p.node.kind r) && not (same_kind p.node.kind kind.BlockStatement)) ≡ true = and_first (is_inside p.node.kind r && not (is_parameter_decorator p.node.kind r) && not (same_kind p.node.kind kind.BlockStatement)) (not (same_kind p.node.kind kind.CatchClause)) h in
    let two : (is_inside p.node.kind r && not (is_parameter_decorator p.node.kind r)) ≡ true = and_first (is_inside p.node.kind r && not (is_parameter_decorator p.node.kind r)) (not (same_kind p.node.kind kind.BlockStatement)) three in
    by (is_inside p.node.kind r) (is_parameter_decorator p.node.kind r) refl (and_first (is_inside p.node.kind r) (not (is_parameter_decorator p.node.kind r)) two) (and_second (is_inside p.node.kind r) (not (is_parameter_decorator p.node.kind r)) two)
  where
    by : (i d : Bool) → is_inside p.node.kind r ≡ i → i ≡ true → not d ≡ true → (chosen i d p.node.node_id o).around ≡ (innermost (outside (cond d (outside p.chain) (child_scopes p r own)))).opener
    by true false e g k = f.within ∙ ap (λ c. (innermost c).opener) (sym (within_own p r own own_is opened e).1)
    by true true e g k = absurd cc
    by false d e g k = absurd cc

-- a parameter stands where its list does
parameter_beyond : (p : Place) (own : Option OpenScope) (cursor : ℕ) (r : Role) (node : Node) (o : Openers) → same_kind p.node.kind kind.FormalParameters ≡ true → FitOpeners p o
    → (openers_at p.node r o).around ≡ (innermost (outside (child_place p own cursor r node).chain)).opener
parameter_beyond p own cursor r node o h f = by (is_inside p.node.kind r) (is_parameter_decorator p.node.kind r) refl (λ j. is_inside (k j) r) (λ j. is_parameter_decorator (k j) r)
  where
    k : p.node.kind ≡ kind.FormalParameters
    k = kind_is p.node.kind kind.FormalParameters h

    by : (i d : Bool) → is_inside p.node.kind r ≡ i → i ≡ false → d ≡ false → (chosen i d p.node.node_id o).around ≡ (innermost (outside (cond d (outside p.chain) (child_scopes p r own)))).opener
    by true d e g m = absurd cc
    by false true e g m = absurd cc
    by false false e g m = f.beyond (ap (λ b. b || is_parameter p.node.kind) h) ∙ ap (λ c. (innermost (outside c)).opener) (sym (without_own p r own e))

pub child_fits : (p : Place) (own : Option OpenScope) (cursor : ℕ) (r : Role) (node : Node) (o : Openers) → IsOwn p own → (is_inside p.node.kind r ≡ true → own ≡ None → ⊥) → FitOpeners p o → stands_under p.node.kind r node.kind ≡ true
    → FitOpeners (child_place p own cursor r node) (openers_at p.node r o)
child_fits p own cursor r node o own_is opened f s = record {
  within = child_within p own cursor r node o own_is opened f;
  beyond = λ h. elim (cases_Bool (same_kind node.kind kind.FormalParameters)) [
    | inl e ↦ list_beyond p own cursor r node o own_is opened f (rw e at s)
    | inr e ↦ (let parameter : is_parameter node.kind ≡ true = rw e at h in
        let under : same_kind p.node.kind kind.FormalParameters ≡ true = rw (e, parameter) at s in
        parameter_beyond p own cursor r node o under f)
  ];
}
