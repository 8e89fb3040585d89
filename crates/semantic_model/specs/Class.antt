-- The classes of a tree, with their elements and the uses of private names in them.
use Rattle.std.specs.Prelude.{ℕ, ◌+◌, List, [], ◌∷◌, ◌++◌, Bool, true, Option, Some, None, ◌&&◌, ◌||◌, cond}
use Rattle.semantic_syntax.specs.declared.spans.Span.{Span}
use Rattle.semantic_syntax.specs.Tables.{Name}
use Rattle.semantic_kinds.specs.Kinds.{same_kind}
use Rattle.semantic_kinds.specs.Classes.{is_member}
use Rattle.semantic_kinds.specs.declared.kind.AstType.{AstType}
use Rattle.semantic_kinds.specs.declared.kind.AstType.TheVariants as kind
use Rattle.semantic_tree.specs.Forest.{Forest, nothing, tree}
use Rattle.semantic_tree.specs.declared.node.Node.{Node}
use Rattle.semantic_model.specs.Element.{Element, elements_of, element_ids}

-- a use of a private name, with the elements of its class that it may mean
pub record PrivateUse : Type 0 where
  pub id : ℕ
  pub name : Name
  pub span : Span
  pub element_ids : List ℕ

-- a class: its node, the class around it, its elements and the uses of private names in its body
pub record Class : Type 0 where
  pub node : ℕ
  pub parent : Option ℕ
  pub elements : List Element
  pub uses : List PrivateUse

-- a private identifier under such a node uses an element
abbrev pub uses_under : AstType → Bool
uses_under parent = same_kind parent kind.PrivateInExpression || is_member parent

-- the uses below a node of the kind in preorder, without those in the bodies of inner classes
abbrev pub uses_below : List Element → AstType → Forest → List PrivateUse
uses_below elements parent nothing = []
uses_below elements parent (tree r k span text marks below id after) =
    cond (same_kind k kind.PrivateIdentifier && uses_under parent) (record { id = id; name = text; span = span; element_ids = element_ids elements text true } ∷ []) []
    ++ (cond (same_kind k kind.ClassBody) [] (uses_below elements k below) ++ uses_below elements parent after)

-- how many class bodies a forest has
abbrev pub body_count : Forest → ℕ
body_count nothing = 0
body_count (tree r k span text marks below id after) = cond (same_kind k kind.ClassBody) 1 0 + body_count below + body_count after

abbrev class_of_body : ℕ → Option ℕ → Forest → Class
class_of_body node parent body = record {
  node = node;
  parent = parent;
  elements = elements_of body;
  uses = uses_below (elements_of body) kind.ClassBody body;
}

-- the classes below a node, numbered from n on, inside the class around it
abbrev pub classes_below : ℕ → Option ℕ → ℕ → Forest → List Class
classes_below n around node nothing = []
classes_below n around node (tree r k span text marks below id after) =
    let is_body : Bool = same_kind k kind.ClassBody in
    let next : ℕ = n + cond is_body 1 0 in
    cond is_body (class_of_body node around below ∷ []) []
    ++ (classes_below next (cond is_body (Some n) around) id below ++ classes_below (next + body_count below) around node after)

-- one class for each class body in preorder; its parent is the innermost class whose body holds it
abbrev pub classes : Node → List Class
classes root = classes_below 0 None root.node_id root.children
