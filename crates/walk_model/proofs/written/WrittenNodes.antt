-- What a node writes is what it writes on entering it and in its own scope.
use Rattle.std.proofs.Common.{◌≡◌, ℕ, List, [], ◌∷◌, Option, Bool, true, false, cond, ◌&&◌, ◌||◌, not, refl, sym, ap, ◌∙◌}
use Rattle.semantic_kinds.specs.Classes.{holds_kind}
use Rattle.semantic_kinds.specs.Parts.{parts}
use Rattle.semantic_kinds.specs.declared.kind.AstType.{AstType}
use Rattle.semantic_kinds.specs.declared.kind.AstType.TheVariants as kind
use Rattle.semantic_kinds.specs.declared.role.Role.TheVariants as role
use Rattle.semantic_syntax.specs.Tables.{Name}
use Rattle.semantic_syntax.proofs.Truth.{or_false}
use Rattle.semantic_tree.specs.Nodes.{trees}
use Rattle.semantic_tree.specs.Fit.{fit}
use Rattle.semantic_tree.specs.declared.node.Node.{Node}
use Rattle.semantic_tree.specs.Views.{is, child_of, children_of, holds}
use Rattle.semantic_model.specs.Names.{bound_names}
use Rattle.semantic_model.specs.Place.{Place, OpenScope, innermost}
use Rattle.semantic_model.specs.Binder.{ids, is_statement, declared_on_entering, declared_on_opening}
use Rattle.walk_model.specs.WrittenNames.{WrittenName, Openers, is_known_inside, declares_lexically, names_in, written_by}
use Rattle.walk_model.proofs.once.NamesInRole.{AtMostOne, bound_is, one_pattern}
use Rattle.walk_model.proofs.written.WrittenRows.{parent_of, written_outside, written_inside, is_in, any_in, entering_written, opening_written}

-- by its kind, and by whether its name is known in its own scope alone
written_is : (node : Node) (parent : Option Node) (o : Openers) (k : AstType) (inside : Bool) → node.kind ≡ k → is_known_inside node ≡ inside
    → written_by node parent o ≡ cond (declares_lexically k node parent) (names_in (cond inside node.node_id o.innermost) (bound_names node)) []
written_is node parent o k inside e f = λ i. cond (declares_lexically (e i) node parent) (names_in (cond (f i) node.node_id o.innermost) (bound_names node)) []

known_is : (node : Node) (k : AstType) (b : Bool) → node.kind ≡ k → is_statement node ≡ b → is_known_inside node ≡ (holds_kind (kind.Function ∷ kind.Class ∷ []) k && not b)
known_is node k b e f = λ i. holds_kind (kind.Function ∷ kind.Class ∷ []) (e i) && not (f i)

module _ (x : ℕ) (name : Name) where
  abbrev on : List WrittenName → Bool
  on ws = is_in x name ws

  -- a function or a class
  statement_written : (k : AstType) (p : Place) (o : Openers) → p.node.kind ≡ k → o.innermost ≡ (innermost p.chain).opener → holds_kind (kind.Function ∷ kind.Class ∷ []) k ≡ true → declares_lexically k p.node (parent_of p.path) ≡ true → bound_names p.node ≡ ids p.node
      → (on (cond (is_statement p.node) (names_in (innermost p.chain).opener (ids p.node)) []) || on (cond (is_statement p.node) [] (names_in p.node.node_id (ids p.node)))) ≡ on (written_by p.node (parent_of p.path) o)
  statement_written k p o e s h c n = by (is_statement p.node) refl
    where
      is_so : (b : Bool) → is_statement p.node ≡ b → written_by p.node (parent_of p.path) o ≡ names_in (cond (not b) p.node.node_id o.innermost) (bound_names p.node)
      is_so b f =
          written_is p.node (parent_of p.path) o k (not b) e (known_is p.node k b e f ∙ ap (λ t. t && not b) h)
          ∙ ap (λ t. cond t (names_in (cond (not b) p.node.node_id o.innermost) (bound_names p.node)) []) c

      by : (b : Bool) → is_statement p.node ≡ b
          → (on (cond b (names_in (innermost p.chain).opener (ids p.node)) []) || on (cond b [] (names_in p.node.node_id (ids p.node)))) ≡ on (written_by p.node (parent_of p.path) o)
      by true f = or_false (on (names_in (innermost p.chain).opener (ids p.node))) ∙ sym (ap on (is_so true f ∙ (λ i. names_in (s i) (n i))))
      by false f = sym (ap on (is_so false f ∙ ap (names_in p.node.node_id) n))

  -- what else is written stands in the innermost scope
  plain_written : (k : AstType) (p : Place) (o : Openers) → p.node.kind ≡ k → o.innermost ≡ (innermost p.chain).opener → holds_kind (kind.Function ∷ kind.Class ∷ []) k ≡ false
      → on (written_by p.node (parent_of p.path) o) ≡ on (cond (declares_lexically k p.node (parent_of p.path)) (names_in (innermost p.chain).opener (bound_names p.node)) [])
  plain_written k p o e s h =
      ap on (
      written_is p.node (parent_of p.path) o k false e (known_is p.node k (is_statement p.node) e refl ∙ ap (λ t. t && not (is_statement p.node)) h)
      ∙ ap (λ n. cond (declares_lexically k p.node (parent_of p.path)) (names_in n (bound_names p.node)) []) s
      )

  parted : (k : AstType) (p : Place) (o : Openers) → p.node.kind ≡ k → o.innermost ≡ (innermost p.chain).opener
      → (on (written_outside k p) || on (written_inside k p.node)) ≡ on (written_by p.node (parent_of p.path) o)
  parted kind.VariableDeclarator p o e s = or_false (on (written_outside kind.VariableDeclarator p)) ∙ sym (plain_written kind.VariableDeclarator p o e s refl)
  parted kind.Function p o e s = statement_written kind.Function p o e s refl refl (bound_is p.node kind.Function role.Id e refl refl)
  parted kind.Class p o e s = statement_written kind.Class p o e s refl refl (bound_is p.node kind.Class role.Id e refl refl)
  parted kind.CatchParameter p o e s =
      or_false (on (written_outside kind.CatchParameter p))
      ∙ sym (plain_written kind.CatchParameter p o e s refl ∙ ap (λ ns. on (cond (holds (λ q. not (is kind.BindingIdentifier q)) (child_of role.Pattern p.node)) (names_in (innermost p.chain).opener ns) [])) (bound_is p.node kind.CatchParameter role.Pattern e refl refl))
  parted k p o e s = sym (plain_written k p o e s refl)

  one_of : (node : Node) → fit (parts node.kind) (trees node.children) ≡ true → node.kind ≡ kind.CatchParameter → AtMostOne (children_of role.Pattern node.children)
  one_of node f e = one_pattern (trees node.children) (ap (λ k. fit (parts k) (trees node.children)) (sym e) ∙ f)

  -- what a node declares on entering it, and in its own scope
  pub node_written : (p : Place) (o : Openers) → o.innermost ≡ (innermost p.chain).opener → fit (parts p.node.kind) (trees p.node.children) ≡ true
      → (any_in x name (declared_on_entering p) || on (written_inside p.node.kind p.node)) ≡ on (written_by p.node (parent_of p.path) o)
  node_written p o s f =
      ap (λ b. b || on (written_inside p.node.kind p.node)) (entering_written x name p.node.kind p (one_of p.node f))
      ∙ parted p.node.kind p o refl s

  pub own_written : (p : Place) (own : OpenScope) → own.opener ≡ p.node.node_id → any_in x name (declared_on_opening p own) ≡ on (written_inside p.node.kind p.node)
  own_written p own e = opening_written x name p.node.kind p own e
