-- Each node of a program is entered.
use Rattle.std.proofs.Common.{◌≡◌, ℕ, List, [], ◌∷◌, ◌++◌, Option, None, inl, inr, refl}
use Rattle.semantic_kinds.specs.declared.kind.AstType.{AstType}
use Rattle.semantic_tree.specs.Forest.{Forest, nothing, tree}
use Rattle.semantic_tree.specs.Place.{child_place as tree_child, placed_below, root_place as tree_root, all_placed}
use Rattle.semantic_tree.specs.Tree.{Tree}
use Rattle.semantic_tree.specs.declared.node.Node.{Node}
use Rattle.semantic_tree.specs.declared.place.Place as placed
use Rattle.semantic_model.specs.Cursor.{on_entering}
use Rattle.semantic_model.specs.Entries.{Among}
use Rattle.semantic_model.specs.Place.{Place, OpenScope}
use Rattle.semantic_model.specs.Step.{Step, entering, leaving, steps_below, steps, root_place}
use Rattle.semantic_model.proofs.steps.Turn.{Turn, turn_at}
use Rattle.semantic_model.proofs.lists.Members.{among_left, among_right, among_cases}
use Rattle.program_laws.proofs.TreeNodes.{nodes_below, nodes_from}

-- a step that enters the node
pub record Enters (ss : List Step) (x : Node) : Type 0 where
  pub place : Place
  pub among : Among (entering place) ss
  pub node : place.node ≡ x

enters_below : (p : Place) (own : Option OpenScope) (n cursor : ℕ) (g : Forest) (x : Node) → Among x (nodes_below g) → Enters (steps_below p own n cursor g) x
enters_below p own n cursor nothing x a = absurd a
enters_below p own n cursor (tree r k span text marks below id after) x a =
    let node : Node = record { kind = k; span = span; text = text; marks = marks; children = below; node_id = id } in
    let turn : Turn = turn_at p own n cursor r node after in
    let in_middle : (q : Place) → Among (entering q) turn.whole → Among (entering q) (turn.before ++ turn.whole ++ turn.behind ++ turn.others) = λ q b. among_left (entering q) (turn.before ++ turn.whole ++ turn.behind) turn.others (among_left (entering q) (turn.before ++ turn.whole) turn.behind (among_right (entering q) turn.before turn.whole b)) in
    elim a [
      | inl e ↦ record { place = turn.child; among = in_middle turn.child (inl refl); node = e }
      | inr b ↦ elim (among_cases x (nodes_below below) (nodes_below after) b) [
        | inl c ↦ (let w : Enters turn.below x = enters_below turn.child None turn.next turn.inner below x c in
            record { place = w.place; among = in_middle w.place (inr (among_left (entering w.place) turn.below (leaving turn.child ∷ []) w.among)); node = w.node })
        | inr c ↦ (let w : Enters turn.others x = enters_below p turn.scope turn.rest turn.past after x c in
            record { place = w.place; among = among_right (entering w.place) (turn.before ++ turn.whole ++ turn.behind) turn.others w.among; node = w.node })
      ]
    ]

pub enters : (p : Tree) (x : Node) → Among x (nodes_from p.root) → Enters (steps p) x
enters p x (inl e) = record { place = root_place p; among = inl refl; node = e }
enters p x (inr a) =
    let root : Place = root_place p in
    let below : List Step = steps_below root None 0 (on_entering p.root.kind 0) p.root.children in
    let w : Enters below x = enters_below root None 0 (on_entering p.root.kind 0) p.root.children x a in
    record { place = w.place; among = inr (among_left (entering w.place) below (leaving root ∷ []) w.among); node = w.node }

-- a node has a place
place_below : (place : placed.Place) (k : AstType) (f : Forest) (x : Node) → Among x (nodes_below f) → (here : placed.Place) × Among (here, x) (placed_below place k f)
place_below place k nothing x a = absurd a
place_below place k (tree r k2 span text marks below id after) x (inl e) = (tree_child place k r, inl (λ i. (tree_child place k r, e i)))
place_below place k (tree r k2 span text marks below id after) x (inr a) =
    elim (among_cases x (nodes_below below) (nodes_below after) a) [
      | inl b ↦ (let (here, c) = place_below (tree_child place k r) k2 below x b in (here, inr (among_left (here, x) (placed_below (tree_child place k r) k2 below) (placed_below place k after) c)))
      | inr b ↦ (let (here, c) = place_below place k after x b in (here, inr (among_right (here, x) (placed_below (tree_child place k r) k2 below) (placed_below place k after) c)))
    ]

pub place_of : (root x : Node) → Among x (nodes_from root) → (here : placed.Place) × Among (here, x) (all_placed root)
place_of root x (inl e) = (tree_root, inl (λ i. (tree_root, e i)))
place_of root x (inr a) = let (here, b) = place_below tree_root root.kind root.children x a in (here, inr b)
