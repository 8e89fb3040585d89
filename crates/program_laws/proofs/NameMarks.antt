-- A node with other marks binds the same names.
use Rattle.std.proofs.Common.{◌≡◌, List, [], ◌∷◌, ◌++◌, cond, Bool, true, false, ◌&&◌, refl, sym, ap, ◌∙◌, map, flat_map, not}
use Rattle.std.specs.List.{list_all}
use Rattle.semantic_kinds.specs.declared.kind.AstType.{AstType}
use Rattle.semantic_kinds.specs.declared.kind.AstType.TheVariants as kind
use Rattle.semantic_kinds.specs.declared.marks.Marks.{Marks}
use Rattle.semantic_kinds.specs.declared.role.Role.{Role}
use Rattle.semantic_kinds.specs.declared.role.Role.TheVariants as role
use Rattle.semantic_tree.specs.Forest.{Forest, nothing, tree}
use Rattle.semantic_tree.specs.declared.node.Node.{Node}
use Rattle.semantic_model.specs.Names.{binding_roles, bound_below, bound_names, names_at}
use Rattle.semantic_tree.specs.BoundNames.{is_plain_parameter, is_simple_parameter_list}
use Rattle.semantic_tree.specs.Views.{is, is_role_of, children_of}
use Rattle.program_laws.specs.Remarked.{remarked_node, remarked}
use Rattle.program_laws.proofs.Children.{children_same, child_holds, there_same}
use Rattle.semantic_model.proofs.swapped.Alike.{map_append}

module _ (f : Node → Marks) where
  below_same : (parent : AstType) (g : Forest) → bound_below parent (remarked f g) ≡ map (remarked_node f) (bound_below parent g)
  below_same parent nothing = refl
  below_same parent (tree r k span text marks below id after) =
      (λ i. go (is_role_of r (binding_roles parent)) (is kind.BindingIdentifier old) (below_same k below) i ++ below_same parent after i)
      ∙ sym (map_append (remarked_node f) (cond (is_role_of r (binding_roles parent)) (cond (is kind.BindingIdentifier old) (old ∷ []) (bound_below k below)) []) (bound_below parent after))
    where
      old : Node
      old = record { kind = k; span = span; text = text; marks = marks; children = below; node_id = id }

      go : (x y : Bool) → bound_below k (remarked f below) ≡ map (remarked_node f) (bound_below k below) → cond x (cond y (remarked_node f old ∷ []) (bound_below k (remarked f below))) [] ≡ map (remarked_node f) (cond x (cond y (old ∷ []) (bound_below k below)) [])
      go true true h = refl
      go true false h = h
      go false y h = refl

  pub bound_same : (node : Node) → bound_names (remarked_node f node) ≡ map (remarked_node f) (bound_names node)
  bound_same node = go (is kind.BindingIdentifier node)
    where
      go : (y : Bool) → cond y (remarked_node f node ∷ []) (bound_below node.kind (remarked f node.children)) ≡ map (remarked_node f) (cond y (node ∷ []) (bound_below node.kind node.children))
      go true = refl
      go false = below_same node.kind node.children

  all_bound : (xs : List Node) → flat_map bound_names (map (remarked_node f) xs) ≡ map (remarked_node f) (flat_map bound_names xs)
  all_bound [] = refl
  all_bound (x ∷ xs) = (λ i. bound_same x i ++ all_bound xs i) ∙ sym (map_append (remarked_node f) (bound_names x) (flat_map bound_names xs))

  pub names_same : (r : Role) (node : Node) → names_at r (remarked_node f node) ≡ map (remarked_node f) (names_at r node)
  names_same r node = ap (flat_map bound_names) (children_same f r node.children) ∙ all_bound (children_of r node.children)

  plain_same : (node : Node) → is_plain_parameter (remarked_node f node) ≡ is_plain_parameter node
  plain_same node = λ i. child_holds f role.Pattern (is kind.BindingIdentifier) (λ n. refl) node i && not (there_same f role.Initializer node i)

  all_plain_same : (xs : List Node) → list_all is_plain_parameter (map (remarked_node f) xs) ≡ list_all is_plain_parameter xs
  all_plain_same [] = refl
  all_plain_same (x ∷ xs) = λ i. plain_same x i && all_plain_same xs i

  pub simple_same : (node : Node) → is_simple_parameter_list (remarked_node f node) ≡ is_simple_parameter_list node
  simple_same node = λ i. not (there_same f role.Rest node i) && (ap (list_all is_plain_parameter) (children_same f role.Items node.children) ∙ all_plain_same (children_of role.Items node.children)) i
