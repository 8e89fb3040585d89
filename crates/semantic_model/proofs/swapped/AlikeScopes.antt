-- Places that differ in names alone open the same scopes.
use Rattle.std.proofs.Common.{◌≡◌, ℕ, suc, ◌+◌, List, [], ◌∷◌, Some, None, cond, Bool, true, false, ◌&&◌, ◌||◌, inl, inr, ◌⊎◌, refl, sym, ap, subst, ◌∙◌, codes, bytes_eq}
use Rattle.std.specs.List.{list_any}
use Rattle.std.proofs.lemmas.Bool.{cases_Bool}
use Rattle.semantic_syntax.specs.Tables.{Name}
use Rattle.semantic_syntax.specs.Sets.{union}
use Rattle.semantic_syntax.specs.SourceTypes.{is_module}
use Rattle.semantic_syntax.specs.declared.scope_flags.TheConstants.ScopeFlags as scope
use Rattle.semantic_tree.specs.Forest.{Forest, nothing}
use Rattle.semantic_tree.specs.Nodes.{first_of}
use Rattle.semantic_tree.specs.declared.node.Node.{Node}
use Rattle.semantic_kinds.specs.Kinds.{same_kind}
use Rattle.semantic_kinds.specs.Roles.{same_role}
use Rattle.semantic_kinds.specs.declared.kind.AstType.{AstType}
use Rattle.semantic_kinds.specs.declared.kind.AstType.TheVariants as kind
use Rattle.semantic_kinds.specs.declared.role.Role.{Role}
use Rattle.semantic_kinds.specs.declared.role.Role.TheVariants as role
use Rattle.semantic_tree.specs.Views.{is, is_with_text, has_use_strict, has_role, is_role_of, children_of, holds}
use Rattle.semantic_model.specs.Place.{Place, is_strict}
use Rattle.semantic_model.specs.Inside.{opens, is_inside, any_inside, scopes_in, body_number}
use Rattle.semantic_model.specs.ScopeKind.{strict_if, strict_by_body, accessor, value_of, method_flags, flags_of_kind, opened_scope}
use Rattle.semantic_model.proofs.form.Clauses.{kind_is}
use Rattle.semantic_model.proofs.swapped.Alike.{Alike, no_trees, trees_alike, is_name, may_name}
use Rattle.semantic_model.proofs.swapped.AlikeCursor.{with_text, SameNode}

-- the place with another text, other children and other nodes above
abbrev pub re : Place → Name → Forest → List Node → Place
re p u g path = record p { node = with_text p.node u g; path = path }

module _ (f : Name → Name) where
  pub roles_same : (rs : List Role) (a b : Forest) → Alike f a b → has_role rs b ≡ has_role rs a
  roles_same rs nothing nothing no_trees = refl
  roles_same rs _ _ (trees_alike r k span t v marks below below' id after after' text members b a) = ap (λ x. is_role_of r rs || x) (roles_same rs after after' a)

  pub insides_same : (k : AstType) (a b : Forest) → Alike f a b → any_inside k b ≡ any_inside k a
  insides_same k nothing nothing no_trees = refl
  insides_same k _ _ (trees_alike r k2 span t v marks below below' id after after' text members b a) = ap (λ x. cond (is_inside k r) true x) (insides_same k after after' a)

  pub scopes_same : (a b : Forest) → Alike f a b → scopes_in b ≡ scopes_in a
  scopes_same nothing nothing no_trees = refl
  scopes_same _ _ (trees_alike r k span t v marks below below' id after after' text members b a) = λ i. cond (opens k) 1 0 + scopes_same below below' b i + scopes_same after after' a i

  pub body_same : (n : ℕ) (a b : Forest) → Alike f a b → body_number n b ≡ body_number n a
  body_same n nothing nothing no_trees = refl
  body_same n _ _ (trees_alike r k span t v marks below below' id after after' text members b a) =
      ap (λ m. cond (same_role r role.Body) (Some n) (body_number (n + cond (opens k) 1 0 + m) after')) (scopes_same below below' b)
      ∙ ap (λ x. cond (same_role r role.Body) (Some n) x) (body_same (n + cond (opens k) 1 0 + scopes_in below) after after' a)

  -- a test of the first child in a role
  pub first_same : (r : Role) (test : Node → Bool) → ((node : Node) (u : Name) (g : Forest) → SameNode f node u g → test (with_text node u g) ≡ test node) → (a b : Forest) → Alike f a b → holds test (first_of (children_of r b)) ≡ holds test (first_of (children_of r a))
  first_same r test same nothing nothing no_trees = refl
  first_same r test same _ _ (trees_alike q k span t v marks below below' id after after' text members b a) =
      go (same_role q r) (same (record { kind = k; span = span; text = t; marks = marks; children = below; node_id = id }) v below' (record { text = text; children = b })) (first_same r test same after after' a)
    where
      old : Node
      old = record { kind = k; span = span; text = t; marks = marks; children = below; node_id = id }

      go : (x : Bool) → test (with_text old v below') ≡ test old → holds test (first_of (children_of r after')) ≡ holds test (first_of (children_of r after)) → holds test (first_of (cond x (with_text old v below' ∷ children_of r after') (children_of r after'))) ≡ holds test (first_of (cond x (old ∷ children_of r after) (children_of r after)))
      go true h i = h
      go false h i = i

  -- a text under the test of a kind that names nothing
  pub word_same : (k : AstType) (word : Name) (node : Node) (u : Name) (g : Forest) → is_name k ≡ false → may_name k ≡ false → SameNode f node u g → is_with_text k word (with_text node u g) ≡ is_with_text k word node
  word_same k word node u g h i s = go (cases_Bool (same_kind node.kind k))
    where
      go : (same_kind node.kind k ≡ true) ⊎ (same_kind node.kind k ≡ false) → (same_kind node.kind k && bytes_eq u word) ≡ (same_kind node.kind k && bytes_eq node.text word)
      go (inl e) =
          let q : node.kind ≡ k = kind_is node.kind k e in
          ap (λ t. same_kind node.kind k && bytes_eq t word) (s.text.plain (subst (λ j. is_name j ≡ false) (sym q) h) (subst (λ j. may_name j ≡ false) (sym q) i))
      go (inr e) = rw e refl

  directives_same : (a b : Forest) → Alike f a b → list_any (is_with_text kind.Directive (codes "use strict")) (children_of role.Directives b) ≡ list_any (is_with_text kind.Directive (codes "use strict")) (children_of role.Directives a)
  directives_same nothing nothing no_trees = refl
  directives_same _ _ (trees_alike q k span t v marks below below' id after after' text members b a) =
      go (same_role q role.Directives) (word_same kind.Directive (codes "use strict") (record { kind = k; span = span; text = t; marks = marks; children = below; node_id = id }) v below' refl refl (record { text = text; children = b })) (directives_same after after' a)
    where
      old : Node
      old = record { kind = k; span = span; text = t; marks = marks; children = below; node_id = id }

      strict : Node → Bool
      strict node = is_with_text kind.Directive (codes "use strict") node

      go : (x : Bool) → is_with_text kind.Directive (codes "use strict") (with_text old v below') ≡ is_with_text kind.Directive (codes "use strict") old → list_any (is_with_text kind.Directive (codes "use strict")) (children_of role.Directives after') ≡ list_any (is_with_text kind.Directive (codes "use strict")) (children_of role.Directives after) → list_any (is_with_text kind.Directive (codes "use strict")) (cond x (with_text old v below' ∷ children_of role.Directives after') (children_of role.Directives after')) ≡ list_any (is_with_text kind.Directive (codes "use strict")) (cond x (old ∷ children_of role.Directives after) (children_of role.Directives after))
      go true h i = λ j. h j || i j
      go false h i = i

  strict_same : (node : Node) (u : Name) (g : Forest) → SameNode f node u g → has_use_strict (with_text node u g) ≡ has_use_strict node
  strict_same node u g s = directives_same node.children g s.children

  body_strict_same : (node : Node) (u : Name) (g : Forest) → SameNode f node u g → strict_by_body (with_text node u g) ≡ strict_by_body node
  body_strict_same node u g s = ap strict_if (first_same role.Body has_use_strict strict_same node.children g s.children)

  -- the nodes above, each differing in names alone
  abbrev pub AlikePath : List Node → List Node → Type 0
  AlikePath [] [] = Unit {0}
  AlikePath [] (y ∷ ys) = ⊥
  AlikePath (x ∷ xs) [] = ⊥
  AlikePath (x ∷ xs) (y ∷ ys) = ((u : Name) × (g : Forest) × (y ≡ with_text x u g) × SameNode f x u g) × AlikePath xs ys

  value_same : (k : AstType) (parent : Node) (pu : Name) (pg : Forest) (node : Node) (u : Name) (g : Forest) → parent.kind ≡ k → SameNode f parent pu pg → u ≡ node.text → value_of k pu (with_text node u g) ≡ value_of k parent.text node
  value_same kind.MethodDefinition parent pu pg node u g e s h = ap (λ t. cond (bytes_eq t (codes "constructor")) scope.Constructor.bits (accessor t)) (s.text.plain (rw e refl) (rw e refl))
  value_same kind.ObjectProperty parent pu pg node u g e s h = λ i. cond (bytes_eq (h i) (codes "expression")) (accessor (s.text.plain (rw e refl) (rw e refl) i)) 0
  value_same _ parent pu pg node u g e s h = refl

  methods_same : (path path' : List Node) (node : Node) (u : Name) (g : Forest) → AlikePath path path' → u ≡ node.text → method_flags path' (with_text node u g) ≡ method_flags path node
  methods_same [] [] node u g a h = refl
  methods_same [] (y ∷ ys) node u g a h = absurd a
  methods_same (x ∷ xs) [] node u g a h = absurd a
  methods_same (x ∷ xs) (y ∷ ys) node u g a h = let (pu, pg, e, s) = a.0 in
      ap (λ y'. value_of y'.kind y'.text (with_text node u g)) e ∙ value_same x.kind x pu pg node u g refl s h

  flags_same : (k : AstType) (p : Place) (u : Name) (g : Forest) (path : List Node) → p.node.kind ≡ k → SameNode f p.node u g → AlikePath p.path path → flags_of_kind k (re p u g path) ≡ flags_of_kind k p
  flags_same kind.Program p u g path e s a = ap (λ b. union scope.Top.bits (strict_if (is_module p.source_type || b))) (strict_same p.node u g s)
  flags_same kind.Function p u g path e s a = λ i. union scope.Function.bits (union (body_strict_same p.node u g s i) (cond (same_role p.role role.Value) (methods_same p.path path p.node u g a (s.text.plain (rw e refl) (rw e refl)) i) 0))
  flags_same kind.ArrowFunctionExpression p u g path e s a = ap (λ b. union scope.Function.bits (union scope.Arrow.bits b)) (body_strict_same p.node u g s)
  flags_same kind.TSNamespaceDeclaration p u g path e s a = ap (λ b. union scope.TsModuleBlock.bits b) (body_strict_same p.node u g s)
  flags_same kind.TSExternalModuleDeclaration p u g path e s a = ap (λ b. union scope.TsModuleBlock.bits b) (body_strict_same p.node u g s)
  flags_same _ p u g path e s a = refl

  -- the scope that a place opens
  pub opened_same : (p : Place) (u : Name) (g : Forest) (path : List Node) (n : ℕ) → SameNode f p.node u g → AlikePath p.path path → opened_scope (re p u g path) n ≡ opened_scope p n
  opened_same p u g path n s a = λ i. record {
    number = n;
    opener = p.node.node_id;
    flags = union (flags_same p.node.kind p u g path refl s a i) (strict_if (is_strict p.chain));
    body = cond (is kind.CatchClause p.node) (body_same (suc n) p.node.children g s.children i) None;
    in_header = false;
  }
