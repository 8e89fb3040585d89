-- The lines of a node that is built from the rows behind its own.
use Rattle.std.proofs.Common.{◌≡◌, ℕ, ◌+◌, ◌<◌, List, [], ◌∷◌, ◌++◌, refl, sym, ap, ◌∙◌, append_assoc, append-nil, subst, arith}
use Rattle.semantic_kinds.specs.declared.role.Role.{Role}
use Rattle.semantic_tree.specs.Forest.{Forest, nothing, tree, join}
use Rattle.semantic_tree.specs.Children.{single}
use Rattle.semantic_tree.specs.declared.node.Node.{Node}
use Rattle.tree_json.specs.Lines.{Line, lines_of, line_of, node_lines}
use Rattle.tree_json.specs.Listing.{Continues, IsLessDeep}

lines_of-join : (depth : ℕ) (f g : Forest) → lines_of depth (join f g) ≡ lines_of depth f ++ lines_of depth g
lines_of-join depth nothing g = refl
lines_of-join depth (tree role kind span text marks below id after) g =
    ap (λ ls. record { depth = depth; role = role; kind = kind; span = span; text = text; marks = marks } ∷ ls)
    (ap (λ ls. lines_of (depth + 1) below ++ ls) (lines_of-join depth after g) ∙ sym (append_assoc (lines_of (depth + 1) below) (lines_of depth after) (lines_of depth g)))

-- a child that is pushed is listed last
node_lines-push : (depth : ℕ) (role : Role) (n : Node) (r : Role) (c : Node) → node_lines depth role (record n { children = join n.children (single r c) }) ≡ node_lines depth role n ++ node_lines (depth + 1) r c
node_lines-push depth role n r c =
    ap (λ ls. line_of depth role n ∷ ls) (lines_of-join (depth + 1) n.children (single r c) ∙ ap (λ ls. lines_of (depth + 1) n.children ++ ls) (append-nil (node_lines (depth + 1) r c)))

-- the first lines behind a node become those of a child
pub built : (depth : ℕ) (role : Role) (n : Node) (k : ℕ) (r : Role) (c : Node) (all before after : List Line)
    → node_lines depth role n ++ before ≡ all → k ≡ depth + 1 → node_lines k r c ++ after ≡ before
    → node_lines depth role (record n { children = join n.children (single r c) }) ++ after ≡ all
built depth role n k r c all before after whole deeper child =
    let below : node_lines (depth + 1) r c ++ after ≡ before = subst (λ m. node_lines m r c ++ after ≡ before) deeper child in
    ap (λ ls. ls ++ after) (node_lines-push depth role n r c)
    ∙ append_assoc (node_lines depth role n) (node_lines (depth + 1) r c) after
    ∙ ap (λ ls. node_lines depth role n ++ ls) below
    ∙ whole

-- a deeper line is one deeper
pub one_deeper : (depth : ℕ) (l : Line) (ls : List Line) → Continues (depth + 1) (l ∷ ls) → depth < l.depth → l.depth ≡ depth + 1
one_deeper depth l ls goes below = omega arith

-- what goes on behind a child goes on in its parent
pub goes_up : (depth k : ℕ) (ls : List Line) → k ≡ depth + 1 → Continues (k + 1) ls → IsLessDeep (k + 1) ls → Continues (depth + 1) ls
goes_up depth k [] deeper goes ends = tt
goes_up depth k (l ∷ ls) deeper goes ends = (omega arith, (λ _. goes.1 (omega arith)), goes.2)
