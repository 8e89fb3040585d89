-- Wrappers are taken off one by one.
use Rattle.std.proofs.Common.{◌≡◌, ℕ, ◌<◌, ◌+◌, ap, ◌∙◌, List, ◌∷◌, Bool, true, false, Option, Some, None, if◌then◌else◌, refl, arith}
use Rattle.semantic_tree.specs.Forest.{Forest, nothing, tree, count}
use Rattle.semantic_kinds.specs.Roles.{same_role}
use Rattle.semantic_kinds.specs.declared.kind.AstType.{AstType}
use Rattle.semantic_kinds.specs.declared.role.Role.{Role}
use Rattle.semantic_kinds.specs.declared.marks.Marks.{Marks}
use Rattle.semantic_syntax.specs.declared.spans.Span.{Span}
use Rattle.semantic_tree.specs.declared.node.Node.{Node}
use Rattle.semantic_tree.specs.Nodes.{trees, nodes_in, first_of}
use Rattle.semantic_tree.specs.Views.{child_of}
use Rattle.semantic_tree.specs.Unwrapped.{unwrapped, unwrapped_in}

-- what is left of a child, or the node itself where there is none
abbrev pub unwrapped_child : (AstType → Bool) → Role → Node → Option Node → Node
unwrapped_child wraps inner node None = node
unwrapped_child wraps inner node (Some child) = unwrapped wraps inner child

choose : (wraps : AstType → Bool) (inner : Role) (node found : Node) (rest : List Node) (other : Node) (b : Bool) → other ≡ unwrapped_child wraps inner node (first_of rest) → (if b then unwrapped wraps inner found else other) ≡ unwrapped_child wraps inner node (first_of (if b then found ∷ rest else rest))
choose wraps inner node found rest other true h = refl
choose wraps inner node found rest other false h = h

in_first : (wraps : AstType → Bool) (inner : Role) (node : Node) (f : Forest) → unwrapped_in wraps inner node f ≡ unwrapped_child wraps inner node (first_of (nodes_in inner (trees f)))
in_first wraps inner node nothing = refl
in_first wraps inner node (tree role kind span text marks below id after) =
    choose wraps inner node (record { kind = kind; span = span; text = text; marks = marks; children = below; node_id = id }) (nodes_in inner (trees after)) (unwrapped_in wraps inner node after) (same_role role inner) (in_first wraps inner node after)

one_step : (wraps : AstType → Bool) (inner : Role) (node : Node) (b : Bool) → (if b then unwrapped_in wraps inner node node.children else node) ≡ (if b then unwrapped_child wraps inner node (child_of inner node) else node)
one_step wraps inner node true = in_first wraps inner node node.children
one_step wraps inner node false = refl

-- a wrapper is what is left of its child, and any other node itself
pub unwrapped_step : (wraps : AstType → Bool) (inner : Role) (node : Node) → unwrapped wraps inner node ≡ (if wraps node.kind then unwrapped_child wraps inner node (child_of inner node) else node)
unwrapped_step wraps inner node = one_step wraps inner node (wraps node.kind)

some_same : {x y : Node} → ◌≡◌ {A = Option Node} (Some x) (Some y) → x ≡ y
some_same h = cc

either : (b : Bool) (node : Node) → (if b then node else node) ≡ node
either true node = refl
either false node = refl

smaller : (below after : Forest) (kind : AstType) (span : Span) (text : List ℕ) (marks : Marks) (id : ℕ) (child : Node) → ◌≡◌ {A = Option Node} (Some (record { kind = kind; span = span; text = text; marks = marks; children = below; node_id = id })) (Some child) → count child.children < count below + count after + 1
smaller below after kind span text marks id child h = let same : count below ≡ count child.children = ap (λ node. count node.children) (some_same h) in omega (arith, same)

-- a child in a role has fewer nodes below it than its parent
pub child_in_below : (role : Role) (f : Forest) (child : Node) → first_of (nodes_in role (trees f)) ≡ Some child → count child.children < count f
child_in_below role nothing child h = cc
child_in_below role (tree r kind span text marks below id after) child h =
    elim (same_role r role) as (λ b. first_of (if b then (record { kind = kind; span = span; text = text; marks = marks; children = below; node_id = id }) ∷ nodes_in role (trees after) else nodes_in role (trees after)) ≡ Some child → count child.children < count below + count after + 1) [
      | true ↦ λ here. smaller below after kind span text marks id child here
      | false ↦ λ later. let rest = child_in_below role after child later in omega (arith, rest)
    ] h

-- a wrapper that has a child in the role is what is left of the child
pub unwrapped_child_in : (wraps : AstType → Bool) (inner : Role) (node child : Node) → wraps node.kind ≡ true → child_of inner node ≡ Some child → unwrapped wraps inner node ≡ unwrapped wraps inner child
unwrapped_child_in wraps inner node child w h =
    unwrapped_step wraps inner node ∙ ap (λ b. if b then unwrapped_child wraps inner node (child_of inner node) else node) w ∙ ap (unwrapped_child wraps inner node) h

-- a wrapper without a child in the role is left
pub unwrapped_alone : (wraps : AstType → Bool) (inner : Role) (node : Node) → child_of inner node ≡ None → unwrapped wraps inner node ≡ node
unwrapped_alone wraps inner node h =
    unwrapped_step wraps inner node ∙ ap (λ o. if wraps node.kind then unwrapped_child wraps inner node o else node) h ∙ either (wraps node.kind) node

-- what is no wrapper is left
pub unwrapped_none : (wraps : AstType → Bool) (inner : Role) (node : Node) → wraps node.kind ≡ false → unwrapped wraps inner node ≡ node
unwrapped_none wraps inner node w =
    unwrapped_step wraps inner node ∙ ap (λ b. if b then unwrapped_child wraps inner node (child_of inner node) else node) w
