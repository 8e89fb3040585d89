-- A class body makes at most one element for each of its children.
use Rattle.std.specs.Prelude.{◌≤◌, List, [], ◌∷◌, Bool, true, false, if◌then◌else◌, Option, Some, None, length, filter_map}
use Rattle.std.specs.List.{cons_option}
use Rattle.std.proofs.Common.{arith}
use Rattle.semantic_kinds.specs.declared.role.Role.{Role}
use Rattle.semantic_kinds.specs.declared.role.Role.TheVariants as role
use Rattle.semantic_kinds.specs.Roles.{same_role}
use Rattle.semantic_tree.specs.Forest.{Forest, nothing, tree, count}
use Rattle.semantic_tree.specs.Nodes.{trees, nodes_in}
use Rattle.semantic_tree.specs.declared.node.Node.{Node}
use Rattle.semantic_model.specs.Element.{element_of, elements_of}

module _ {A B : Type 0} (f : A → Option B) where
  fewer_made : (xs : List A) → length (filter_map f xs) ≤ length xs
  fewer_made [] = omega arith
  fewer_made (x ∷ xs) = by (f x) (fewer_made xs)
    where
      by : (o : Option B) → length (filter_map f xs) ≤ length xs → length (cons_option o (filter_map f xs)) ≤ length (x ∷ xs)
      by None h = omega arith
      by (Some y) h = omega arith

fewer_in : (r : Role) (ts : List (Role × Node)) → length (nodes_in r ts) ≤ length ts
fewer_in r [] = omega arith
fewer_in r (t ∷ ts) = by (same_role t.0 r) (fewer_in r ts)
  where
    by : (b : Bool) → length (nodes_in r ts) ≤ length ts → length (if b then t.1 ∷ nodes_in r ts else nodes_in r ts) ≤ length (t ∷ ts)
    by true h = omega arith
    by false h = omega arith

-- no more elements than children
pub elements_fit_trees : (body : Forest) → length (elements_of body) ≤ length (trees body)
elements_fit_trees body =
    let made = fewer_made element_of (nodes_in role.Body (trees body)) in
    let within = fewer_in role.Body (trees body) in
    omega arith

-- and no more children than nodes
pub trees_fit : (body : Forest) → length (trees body) ≤ count body
trees_fit nothing = omega arith
trees_fit (tree r kind span text marks below id after) = let rest = trees_fit after in omega arith
