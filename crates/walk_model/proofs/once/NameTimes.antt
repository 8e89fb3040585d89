-- How often a node stands among names and declarations, and the names that stand in roles of a kind.
use Rattle.std.proofs.Common.{◌≡◌, ℕ, ◌+◌, ◌==◌, List, [], ◌∷◌, ◌++◌, Bool, true, false, cond, ◌||◌, if◌then◌else◌, map, flat_map, refl, ap, ◌∙◌, arith}
use Rattle.semantic_kinds.specs.Kinds.{same_kind}
use Rattle.semantic_kinds.specs.Roles.{same_role}
use Rattle.semantic_kinds.specs.declared.kind.AstType.{AstType}
use Rattle.semantic_kinds.specs.declared.kind.AstType.TheVariants as kind
use Rattle.semantic_kinds.specs.declared.role.Role.{Role}
use Rattle.semantic_kinds.specs.declared.role.Role.TheVariants as role
use Rattle.semantic_tree.specs.Forest.{Forest, nothing, tree}
use Rattle.semantic_tree.specs.declared.node.Node.{Node}
use Rattle.semantic_tree.specs.Views.{is_role_of, children_of}
use Rattle.semantic_model.specs.Names.{binding_roles, bound_below, bound_names, names_at}
use Rattle.semantic_model.specs.Place.{Place}
use Rattle.semantic_model.specs.Declaration.{Declaration, plain, here}
use Rattle.semantic_model.specs.Binder.{BinderRow, declaration_at, declare_here}

-- the roles under which the names stand that a node of the kind declares, or hands on to the node around it
abbrev pub name_roles : AstType → List Role
name_roles kind.VariableDeclaration = []
name_roles kind.FormalParameters = []
name_roles kind.TSEnumMember = []
name_roles kind.ImportSpecifier = role.Local ∷ []
name_roles kind.ImportDefaultSpecifier = role.Local ∷ []
name_roles kind.ImportNamespaceSpecifier = role.Local ∷ []
name_roles kind.TSTypeParameter = role.Name ∷ []
name_roles kind.TSMappedType = role.Key ∷ []
name_roles k = binding_roles k

module _ (x : ℕ) where
  abbrev pub name_times : List Node → ℕ
  name_times [] = 0
  name_times (n ∷ ns) = cond (n.node_id == x) 1 0 + name_times ns

  abbrev pub declared_times : List Declaration → ℕ
  declared_times [] = 0
  declared_times (d ∷ ds) = cond (d.naming.identifier == x) 1 0 + declared_times ds

  -- among the names under the roles
  abbrev pub reached : List Role → Forest → ℕ
  reached rs nothing = 0
  reached rs (tree r k span text marks below id after) =
      cond (is_role_of r rs) (name_times (bound_names (record { kind = k; span = span; text = text; marks = marks; children = below; node_id = id }))) 0 + reached rs after

  -- among all nodes
  abbrev pub node_times : Forest → ℕ
  node_times nothing = 0
  node_times (tree r k span text marks below id after) = cond (id == x) 1 0 + node_times below + node_times after

  pub names_append : (xs ys : List Node) → name_times (xs ++ ys) ≡ name_times xs + name_times ys
  names_append [] ys = omega arith
  names_append (n ∷ ns) ys = omega (arith, names_append ns ys)

  pub declared_append : (ds es : List Declaration) → declared_times (ds ++ es) ≡ declared_times ds + declared_times es
  declared_append [] es = omega arith
  declared_append (d ∷ ds) es = omega (arith, declared_append ds es)

  -- what a row declares
  pub row_times : (node : Node) (row : BinderRow) (is_pure : Bool) (names : List Node) → declared_times (map (declaration_at node row is_pure) names) ≡ name_times names
  row_times node row is_pure [] = refl
  row_times node row is_pure (n ∷ ns) = ap (λ m. cond (n.node_id == x) 1 0 + m) (row_times node row is_pure ns)

  pub here_times : (p : Place) (flags excluded : ℕ) (names : List Node) → declared_times (declare_here p flags excluded names) ≡ name_times names
  here_times p flags excluded names = row_times p.node (record { flags = flags; excluded = excluded; how = plain; route = here p.chain }) false names

  names_if : (b : Bool) (ns : List Node) → name_times (cond b ns []) ≡ cond b (name_times ns) 0
  names_if true ns = refl
  names_if false ns = refl

  -- below a node that binds
  pub below_reached : (k : AstType) (f : Forest) → name_times (bound_below k f) ≡ reached (binding_roles k) f
  below_reached k nothing = refl
  below_reached k (tree r inner span text marks below id after) =
      let node : Node = record { kind = inner; span = span; text = text; marks = marks; children = below; node_id = id } in
      names_append (cond (is_role_of r (binding_roles k)) (bound_names node) []) (bound_below k after)
      ∙ (λ i. names_if (is_role_of r (binding_roles k)) (bound_names node) i + below_reached k after i)

  -- of a node that is no identifier
  pub bound_reached : (node : Node) → same_kind node.kind kind.BindingIdentifier ≡ false → name_times (bound_names node) ≡ reached (binding_roles node.kind) node.children
  bound_reached node e = (λ i. name_times (cond (e i) (node ∷ []) (bound_below node.kind node.children))) ∙ below_reached node.kind node.children

  -- under one role
  role_reached : (r : Role) (f : Forest) → name_times (flat_map bound_names (children_of r f)) ≡ reached (r ∷ []) f
  role_reached r nothing = refl
  role_reached r (tree q k span text marks below id after) = by (record { kind = k; span = span; text = text; marks = marks; children = below; node_id = id }) (same_role q r) (role_reached r after)
    where
      by : (node : Node) (b : Bool) → name_times (flat_map bound_names (children_of r after)) ≡ reached (r ∷ []) after
          → name_times (flat_map bound_names (if b then node ∷ children_of r after else children_of r after)) ≡ cond (b || false) (name_times (bound_names node)) 0 + reached (r ∷ []) after
      by node true h = names_append (bound_names node) (flat_map bound_names (children_of r after)) ∙ ap (λ m. name_times (bound_names node) + m) h
      by node false h = omega (arith, h)

  pub at_reached : (r : Role) (node : Node) → name_times (names_at r node) ≡ reached (r ∷ []) node.children
  at_reached r node = role_reached r node.children
