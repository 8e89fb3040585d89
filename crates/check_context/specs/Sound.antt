-- Nodes and elements that stand in the source, on its characters.
use Rattle.std.specs.Prelude.{◌≡◌, ℕ, List, true}
use Rattle.std.specs.List.{AllByRecursion}
use Rattle.semantic_tree.specs.Forest.{Forest, nothing, tree}
use Rattle.semantic_tree.specs.Sound.{is_sound, has_good_span}
use Rattle.semantic_tree.specs.declared.node.Node.{Node}
use Rattle.semantic_model.specs.Element.{Element}

-- each node of the forest stands in the source, on characters, and shows its sign there if it has one
abbrev pub HaveGoodSpans : (source : List ℕ) → Forest → Type 0
HaveGoodSpans source nothing = Unit {0}
HaveGoodSpans source (tree r k span text marks below id after) =
    (has_good_span source (record { kind = k; span = span; text = text; marks = marks; children = below; node_id = id }) ≡ true) × (HaveGoodSpans source below × HaveGoodSpans source after)

-- so does the node, and each below it
pub record IsInSource (source : List ℕ) (node : Node) : Type 0 where
  pub span : has_good_span source node ≡ true
  pub below : HaveGoodSpans source node.children

-- the elements of each class stand in the source, on characters
abbrev pub AreAllSound : (source : List ℕ) → List (List Element) → Type 0
AreAllSound source classes = AllByRecursion (λ elements. AllByRecursion (λ e. is_sound source e.span ≡ true) elements) classes
