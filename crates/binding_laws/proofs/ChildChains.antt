-- The scopes round a child: its parent's, or these and the parent's own.
use Rattle.std.proofs.Common.{◌≡◌, ℕ, List, ◌∷◌, Option, Some, None, Bool, true, false, cond, refl, sym, subst}
use Rattle.semantic_syntax.proofs.Truth.{and_false}
use Rattle.semantic_kinds.specs.Kinds.{same_kind}
use Rattle.semantic_kinds.specs.Roles.{same_role}
use Rattle.semantic_kinds.specs.declared.kind.AstType.{AstType}
use Rattle.semantic_kinds.specs.declared.kind.AstType.TheVariants as kind
use Rattle.semantic_kinds.specs.declared.role.Role.{Role}
use Rattle.semantic_kinds.specs.declared.role.Role.TheVariants as role
use Rattle.semantic_tree.specs.declared.node.Node.{Node}
use Rattle.semantic_model.specs.Inside.{is_inside, is_in_header, is_parameter_decorator}
use Rattle.semantic_model.specs.Place.{Place, OpenScope, outside}
use Rattle.semantic_model.specs.ScopeKind.{opened_scope}
use Rattle.semantic_model.specs.Step.{scope_at, child_place, child_scopes}

-- the child's chain is its parent's, or has the parent's own scope before, of which only a clause's has a body
pub data ChainOf (k : AstType) (r : Role) (q : Node) (outer : List OpenScope) : List OpenScope → Type 0 where
  outer_chain : is_inside k r ≡ false → ChainOf k r q outer outer
  inner_chain : (s : OpenScope) → is_inside k r ≡ true → s.opener ≡ q.node_id → s.in_header ≡ is_in_header k r → (same_kind k kind.CatchClause ≡ false → s.body ≡ None) → ChainOf k r q outer (s ∷ outer)

abbrev pub OwnOf : Place → Option OpenScope → Type 0
OwnOf q None = Unit {0}
OwnOf q (Some s) = (s.opener ≡ q.node.node_id) × (same_kind q.node.kind kind.CatchClause ≡ false → s.body ≡ None)

pub own_of : (q : Place) (r : Role) (own : Option OpenScope) (n : ℕ) → OwnOf q own → OwnOf q (scope_at q r own n)
own_of q r (Some s) n k = k
own_of q r None n k = go (is_inside q.node.kind r)
  where
    go : (b : Bool) → OwnOf q (cond b (Some (opened_scope q n)) None)
    go true = (refl, λ e. rw e refl)
    go false = tt

within_of : (q : Place) (r : Role) (own : Option OpenScope) → (is_inside q.node.kind r ≡ true → own ≡ None → ⊥) → OwnOf q own → ChainOf q.node.kind r q.node q.chain (child_scopes q r own)
within_of q r None reached o = go (is_inside q.node.kind r) refl
  where
    go : (b : Bool) → is_inside q.node.kind r ≡ b → ChainOf q.node.kind r q.node q.chain q.chain
    go true w = absurd (reached w refl)
    go false w = outer_chain w
within_of q r (Some s) reached o = go (is_inside q.node.kind r) refl
  where
    go : (b : Bool) → is_inside q.node.kind r ≡ b → ChainOf q.node.kind r q.node q.chain (cond b (record s { in_header = is_in_header q.node.kind r } ∷ q.chain) q.chain)
    go true w = inner_chain (record s { in_header = is_in_header q.node.kind r }) w o.0 refl o.1
    go false w = outer_chain w

-- what is no decorator is none of a parameter
pub no_decorator : (k : AstType) (r : Role) → same_role r role.Decorators ≡ false → is_parameter_decorator k r ≡ false
no_decorator k r u = rw u (and_false _)

pub chain_of : (q : Place) (r : Role) (own : Option OpenScope) (cursor : ℕ) (node : Node) → is_parameter_decorator q.node.kind r ≡ false → (is_inside q.node.kind r ≡ true → own ≡ None → ⊥) → OwnOf q own → ChainOf q.node.kind r q.node q.chain (child_place q own cursor r node).chain
chain_of q r own cursor node u reached o = subst (λ b. ChainOf q.node.kind r q.node q.chain (cond b (outside q.chain) (child_scopes q r own))) (sym u) (within_of q r own reached o)
