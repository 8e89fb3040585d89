use Rattle.std.proofs.Common.{◌≡◌, drop}
use Rattle.std.specs.Str.{chars}
use Rattle.semantic_tree.specs.Forest.{count, join}
use Rattle.semantic_tree.specs.Children.{forest_of}
use Rattle.semantic_tree.specs.Renamed.{swap, renamed, renamed_text, setting_below}
use Rattle.semantic_tree.proofs.node.Node.+swapped.Given as goal

-- how many nodes are below
abbrev pub decreases-swapped : goal.decreases-swapped
decreases-swapped l = count l.self.now.children

-- the children so far, and those that are left, are all children
abbrev pub invariant-loop-place : goal.invariant-loop-place
invariant-loop-place l = record {
  items : forest_of l.place-items ≡ l.self.children;
  below : l.below ≡ setting_below l.fn.setting l.fn.role l.self.kind;
  kind : l.made.kind ≡ l.self.kind;
  span : l.made.span ≡ l.self.span;
  text : l.made.text ≡ renamed_text (swap (chars l.a) (chars l.b)) l.fn.setting l.fn.role l.self.kind l.self.text;
  marks : l.made.marks ≡ l.self.marks;
  id : l.made.node_id ≡ l.self.node_id;
  rest : join l.made.children (renamed (swap (chars l.a) (chars l.b)) l.below (forest_of (drop l.place-index l.place-items))) ≡ renamed (swap (chars l.a) (chars l.b)) l.below l.self.children;
}
