-- Trees with other names, child by child.
use Rattle.std.proofs.Common.{◌≡◌, ℕ, ◌+◌, ◌<◌, ◌≤◌, List, length, drop, get_or, ap, sym, ◌∙◌}
use Rattle.std.proofs.Math.ListN.{drop_of_length-le}
use Rattle.semantic_syntax.proofs.Truth.{drop_here}
use Rattle.semantic_kinds.specs.declared.role.Role.{Role}
use Rattle.semantic_tree.specs.Forest.{Forest, join}
use Rattle.semantic_tree.specs.Children.{forest_of, single}
use Rattle.semantic_tree.specs.Renamed.{renamed, renamed_node}
use Rattle.semantic_tree.specs.declared.node.Node.{Node}
use Rattle.semantic_tree.specs.declared.swap.Setting.{Setting}
use Rattle.semantic_tree.proofs.Forests.{join_assoc, join_nothing}

-- a child with other names stands before those that are left
pub renamed_turn : (f : List ℕ → List ℕ) (s : Setting) (done : Forest) (items : List (Role × Node)) (i : ℕ) (child : Role × Node) (copy : Node) → i < length items → child ≡ get_or items i child → copy ≡ renamed_node f s child.0 child.1 → join (join done (single child.0 copy)) (renamed f s (forest_of (drop (i + 1) items))) ≡ join done (renamed f s (forest_of (drop i items)))
renamed_turn f s done items i child copy h e made =
    join_assoc done (single child.0 copy) (renamed f s (forest_of (drop (i + 1) items)))
    ∙ ap (λ node. join done (join (single child.0 node) (renamed f s (forest_of (drop (i + 1) items))))) made
    ∙ ap (λ xs. join done (renamed f s (forest_of xs))) (sym (drop_here items i child h e))

-- at the end nothing is left
pub renamed_end : (f : List ℕ → List ℕ) (s : Setting) (done : Forest) (items : List (Role × Node)) (i : ℕ) → length items ≤ i → join done (renamed f s (forest_of (drop i items))) ≡ done
renamed_end f s done items i h = ap (λ xs. join done (renamed f s (forest_of xs))) (drop_of_length-le items h) ∙ join_nothing done

-- nodes that agree in all are one
pub same_node : (m n : Node) → m.kind ≡ n.kind → m.span ≡ n.span → m.text ≡ n.text → m.marks ≡ n.marks → m.children ≡ n.children → m.node_id ≡ n.node_id → m ≡ n
same_node m n kind span text marks children id = λ i. record { kind = kind i; span = span i; text = text i; marks = marks i; children = children i; node_id = id i }
