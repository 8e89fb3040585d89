-- What alike nodes bind: the same names, changed.
use Rattle.std.proofs.Common.{◌≡◌, List, [], ◌∷◌, ◌++◌, cond, Bool, true, false, ◌&&◌, refl, sym, ap, subst, ◌∙◌, flat_map, not}
use Rattle.semantic_syntax.specs.Tables.{Name}
use Rattle.semantic_tree.specs.Forest.{Forest, nothing}
use Rattle.semantic_tree.specs.Nodes.{first_of}
use Rattle.semantic_tree.specs.declared.node.Node.{Node}
use Rattle.semantic_kinds.specs.Roles.{same_role}
use Rattle.semantic_kinds.specs.declared.kind.AstType.{AstType}
use Rattle.semantic_kinds.specs.declared.kind.AstType.TheVariants as kind
use Rattle.semantic_kinds.specs.declared.role.Role.{Role}
use Rattle.semantic_kinds.specs.declared.role.Role.TheVariants as role
use Rattle.std.specs.List.{list_all}
use Rattle.semantic_tree.specs.Views.{is, is_there, is_role_of, children_of}
use Rattle.semantic_model.specs.Names.{binding_roles, bound_below, bound_names, names_at}
use Rattle.semantic_tree.specs.BoundNames.{is_plain_parameter, is_simple_parameter_list}
use Rattle.semantic_model.proofs.form.Clauses.{kind_is}
use Rattle.semantic_model.proofs.swapped.Alike.{Alike, no_trees, trees_alike, is_name}
use Rattle.semantic_model.proofs.swapped.AlikeCursor.{with_text, SameNode}
use Rattle.semantic_model.proofs.swapped.AlikeScopes.{AlikePath, first_same}

module _ (f : Name → Name) where
  -- names, each changed
  abbrev pub Changed : List Node → List Node → Type 0
  Changed [] [] = Unit {0}
  Changed [] (y ∷ ys) = ⊥
  Changed (x ∷ xs) [] = ⊥
  Changed (x ∷ xs) (y ∷ ys) = ((g : Forest) × (y ≡ with_text x (f x.text) g)) × Changed xs ys

  changed_append : (xs ys us vs : List Node) → Changed xs ys → Changed us vs → Changed (xs ++ us) (ys ++ vs)
  changed_append [] [] us vs h i = i
  changed_append [] (y ∷ ys) us vs h i = absurd h
  changed_append (x ∷ xs) [] us vs h i = absurd h
  changed_append (x ∷ xs) (y ∷ ys) us vs h i = (h.0, changed_append xs ys us vs h.1 i)

  -- an identifier that binds
  identifier_changed : (node : Node) (u : Name) (g : Forest) → SameNode f node u g → is kind.BindingIdentifier node ≡ true → Changed (node ∷ []) (with_text node u g ∷ [])
  identifier_changed node u g s e = ((g, ap (λ t. with_text node t g) (s.text.named (subst (λ j. is_name j ≡ true) (sym (kind_is node.kind kind.BindingIdentifier e)) refl))), tt)

  below_changed : (parent : AstType) (a b : Forest) → Alike f a b → Changed (bound_below parent a) (bound_below parent b)
  below_changed parent nothing nothing no_trees = tt
  below_changed parent _ _ (trees_alike r k span t v marks below below' id after after' text members b a) =
      changed_append
      (cond (is_role_of r (binding_roles parent)) (cond (is kind.BindingIdentifier old) (old ∷ []) (bound_below k below)) [])
      (cond (is_role_of r (binding_roles parent)) (cond (is kind.BindingIdentifier old) (with_text old v below' ∷ []) (bound_below k below')) [])
      (bound_below parent after) (bound_below parent after')
      (go (is_role_of r (binding_roles parent)) (is kind.BindingIdentifier old) refl (below_changed k below below' b)) (below_changed parent after after' a)
    where
      old : Node
      old = record { kind = k; span = span; text = t; marks = marks; children = below; node_id = id }

      go : (x y : Bool) → is kind.BindingIdentifier old ≡ y → Changed (bound_below k below) (bound_below k below') → Changed (cond x (cond y (old ∷ []) (bound_below k below)) []) (cond x (cond y (with_text old v below' ∷ []) (bound_below k below')) [])
      go true true e h = identifier_changed old v below' (record { text = text; children = b }) e
      go true false e h = h
      go false y e h = tt

  pub bound_changed : (node : Node) (u : Name) (g : Forest) → SameNode f node u g → Changed (bound_names node) (bound_names (with_text node u g))
  bound_changed node u g s = go (is kind.BindingIdentifier node) refl
    where
      go : (y : Bool) → is kind.BindingIdentifier node ≡ y → Changed (cond y (node ∷ []) (bound_below node.kind node.children)) (cond y (with_text node u g ∷ []) (bound_below node.kind g))
      go true e = identifier_changed node u g s e
      go false e = below_changed node.kind node.children g s.children

  -- children in a role, each alike
  pub children_same : (r : Role) (a b : Forest) → Alike f a b → AlikePath f (children_of r a) (children_of r b)
  children_same r nothing nothing no_trees = tt
  children_same r _ _ (trees_alike q k span t v marks below below' id after after' text members b a) = go (same_role q r) (children_same r after after' a)
    where
      old : Node
      old = record { kind = k; span = span; text = t; marks = marks; children = below; node_id = id }

      go : (x : Bool) → AlikePath f (children_of r after) (children_of r after') → AlikePath f (cond x (old ∷ children_of r after) (children_of r after)) (cond x (with_text old v below' ∷ children_of r after') (children_of r after'))
      go true h = ((v, below', refl, record { text = text; children = b }), h)
      go false h = h

  all_changed : (xs ys : List Node) → AlikePath f xs ys → Changed (flat_map bound_names xs) (flat_map bound_names ys)
  all_changed [] [] h = tt
  all_changed [] (y ∷ ys) h = absurd h
  all_changed (x ∷ xs) [] h = absurd h
  all_changed (x ∷ xs) (y ∷ ys) h = let (u, g, e, s) = h.0 in
      subst (λ z. Changed (bound_names x ++ flat_map bound_names xs) (bound_names z ++ flat_map bound_names ys)) (sym e)
      (changed_append (bound_names x) (bound_names (with_text x u g)) (flat_map bound_names xs) (flat_map bound_names ys) (bound_changed x u g s) (all_changed xs ys h.1))

  pub names_changed : (r : Role) (a b : Node) → Alike f a.children b.children → Changed (names_at r a) (names_at r b)
  names_changed r a b h = all_changed (children_of r a.children) (children_of r b.children) (children_same r a.children b.children h)

  -- whether there is a child
  there_same : (r : Role) (a b : Forest) → Alike f a b → is_there (first_of (children_of r b)) ≡ is_there (first_of (children_of r a))
  there_same r nothing nothing no_trees = refl
  there_same r _ _ (trees_alike q k span t v marks below below' id after after' text members b a) = go (same_role q r) (there_same r after after' a)
    where
      go : (x : Bool) → is_there (first_of (children_of r after')) ≡ is_there (first_of (children_of r after)) → is_there (first_of (cond x (record { kind = k; span = span; text = v; marks = marks; children = below'; node_id = id } ∷ children_of r after') (children_of r after'))) ≡ is_there (first_of (cond x (record { kind = k; span = span; text = t; marks = marks; children = below; node_id = id } ∷ children_of r after) (children_of r after)))
      go true h = refl
      go false h = h

  plain_same : (node : Node) (u : Name) (g : Forest) → SameNode f node u g → is_plain_parameter (with_text node u g) ≡ is_plain_parameter node
  plain_same node u g s = λ i. first_same f role.Pattern (is kind.BindingIdentifier) (λ n v h w. refl) node.children g s.children i && not (there_same role.Initializer node.children g s.children i)

  all_plain_same : (xs ys : List Node) → AlikePath f xs ys → list_all is_plain_parameter ys ≡ list_all is_plain_parameter xs
  all_plain_same [] [] h = refl
  all_plain_same [] (y ∷ ys) h = absurd h
  all_plain_same (x ∷ xs) [] h = absurd h
  all_plain_same (x ∷ xs) (y ∷ ys) h = let (u, g, e, s) = h.0 in λ i. (ap is_plain_parameter e ∙ plain_same x u g s) i && all_plain_same xs ys h.1 i

  pub simple_same : (node : Node) (u : Name) (g : Forest) → SameNode f node u g → is_simple_parameter_list (with_text node u g) ≡ is_simple_parameter_list node
  simple_same node u g s = λ i. not (there_same role.Rest node.children g s.children i) && all_plain_same (children_of role.Items node.children) (children_of role.Items g) (children_same role.Items node.children g s.children) i
