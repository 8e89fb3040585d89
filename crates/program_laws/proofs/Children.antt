-- What is found among children with other marks.
use Rattle.std.proofs.Common.{◌≡◌, ℕ, ◌+◌, List, [], ◌∷◌, Option, Some, None, cond, Bool, true, false, ◌||◌, refl, ap, ◌∙◌, map, option_map}
use Rattle.std.specs.List.{list_any}
use Rattle.semantic_kinds.specs.Roles.{same_role}
use Rattle.semantic_kinds.specs.declared.kind.AstType.{AstType}
use Rattle.semantic_kinds.specs.declared.marks.Marks.{Marks}
use Rattle.semantic_kinds.specs.declared.role.Role.{Role}
use Rattle.semantic_kinds.specs.declared.role.Role.TheVariants as role
use Rattle.semantic_tree.specs.Forest.{Forest, nothing, tree, count}
use Rattle.semantic_tree.specs.Nodes.{first_of}
use Rattle.semantic_tree.specs.declared.node.Node.{Node}
use Rattle.semantic_model.specs.Inside.{opens, is_inside, any_inside, scopes_in, body_number}
use Rattle.semantic_tree.specs.Views.{has_role, is_role_of, children_of, child_of, has_child, is_there, holds}
use Rattle.program_laws.specs.Remarked.{remarked, remarked_node}

module _ (f : Node → Marks) where
  pub children_same : (r : Role) (g : Forest) → children_of r (remarked f g) ≡ map (remarked_node f) (children_of r g)
  children_same r nothing = refl
  children_same r (tree q k span text marks below id after) = go (same_role q r) (children_same r after)
    where
      old : Node
      old = record { kind = k; span = span; text = text; marks = marks; children = below; node_id = id }

      go : (b : Bool) → children_of r (remarked f after) ≡ map (remarked_node f) (children_of r after) → cond b (remarked_node f old ∷ children_of r (remarked f after)) (children_of r (remarked f after)) ≡ map (remarked_node f) (cond b (old ∷ children_of r after) (children_of r after))
      go true h = ap (λ xs. remarked_node f old ∷ xs) h
      go false h = h

  first_same : (xs : List Node) → first_of (map (remarked_node f) xs) ≡ option_map (remarked_node f) (first_of xs)
  first_same [] = refl
  first_same (x ∷ xs) = refl

  pub child_same : (r : Role) (node : Node) → child_of r (remarked_node f node) ≡ option_map (remarked_node f) (child_of r node)
  child_same r node = ap first_of (children_same r node.children) ∙ first_same (children_of r node.children)

  holds_same : (test : Node → Bool) → ((n : Node) → test (remarked_node f n) ≡ test n) → (o : Option Node) → holds test (option_map (remarked_node f) o) ≡ holds test o
  holds_same test same None = refl
  holds_same test same (Some x) = same x

  -- a test of the first child in a role
  pub child_holds : (r : Role) (test : Node → Bool) → ((n : Node) → test (remarked_node f n) ≡ test n) → (node : Node) → holds test (child_of r (remarked_node f node)) ≡ holds test (child_of r node)
  child_holds r test same node = ap (holds test) (child_same r node) ∙ holds_same test same (child_of r node)

  stays_there : (o : Option Node) → is_there (option_map (remarked_node f) o) ≡ is_there o
  stays_there None = refl
  stays_there (Some x) = refl

  pub there_same : (r : Role) (node : Node) → has_child r (remarked_node f node) ≡ has_child r node
  there_same r node = ap is_there (child_same r node) ∙ stays_there (child_of r node)

  pub any_same : (test : Node → Bool) → ((n : Node) → test (remarked_node f n) ≡ test n) → (xs : List Node) → list_any test (map (remarked_node f) xs) ≡ list_any test xs
  any_same test same [] = refl
  any_same test same (x ∷ xs) = λ i. same x i || any_same test same xs i

  pub roles_same : (rs : List Role) (g : Forest) → has_role rs (remarked f g) ≡ has_role rs g
  roles_same rs nothing = refl
  roles_same rs (tree r k span text marks below id after) = ap (λ b. is_role_of r rs || b) (roles_same rs after)

  pub insides_same : (k : AstType) (g : Forest) → any_inside k (remarked f g) ≡ any_inside k g
  insides_same k nothing = refl
  insides_same k (tree r k2 span text marks below id after) = ap (λ b. cond (is_inside k r) true b) (insides_same k after)

  pub scopes_same : (g : Forest) → scopes_in (remarked f g) ≡ scopes_in g
  scopes_same nothing = refl
  scopes_same (tree r k span text marks below id after) = λ i. cond (opens k) 1 0 + scopes_same below i + scopes_same after i

  pub body_same : (n : ℕ) (g : Forest) → body_number n (remarked f g) ≡ body_number n g
  body_same n nothing = refl
  body_same n (tree r k span text marks below id after) =
      ap (λ m. cond (same_role r role.Body) (Some n) (body_number (n + cond (opens k) 1 0 + m) (remarked f after))) (scopes_same below)
      ∙ ap (λ x. cond (same_role r role.Body) (Some n) x) (body_same (n + cond (opens k) 1 0 + scopes_in below) after)

  pub count_same : (g : Forest) → count (remarked f g) ≡ count g
  count_same nothing = refl
  count_same (tree r k span text marks below id after) = λ i. count_same below i + count_same after i + 1
