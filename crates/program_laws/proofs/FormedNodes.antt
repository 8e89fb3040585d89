-- Each node of a program without a fault has its form.
use Rattle.std.proofs.Common.{◌≡◌, ◌∷◌, ◌++◌, true, subst, inl, inr, None}
use Rattle.semantic_kinds.specs.declared.kind.AstType.{AstType}
use Rattle.semantic_tree.specs.Forest.{Forest, nothing, tree}
use Rattle.semantic_tree.specs.Faults.{first_fault}
use Rattle.semantic_tree.specs.Place.{root_place, child_place, placed_below, all_placed}
use Rattle.semantic_tree.specs.Rules.{is_well_formed}
use Rattle.semantic_tree.specs.Tree.{Tree}
use Rattle.semantic_tree.specs.declared.node.Node.{Node}
use Rattle.semantic_tree.specs.declared.place.Place.{Place}
use Rattle.semantic_model.specs.Entries.{Among}
use Rattle.semantic_model.proofs.lists.Members.{among_cases}
use Rattle.semantic_model.proofs.form.Shape.{NoneMisshapen, first_formed, rest_formed, none_misshapen}

-- a node at its place has its form, and none below it is misshapen
abbrev pub IsFormed : Place × Node → Type 0
IsFormed c = (is_well_formed c.0 c.1 ≡ true) × NoneMisshapen (placed_below c.0 c.1.kind c.1.children)

formed_below : (place : Place) (k : AstType) (f : Forest) (c : Place × Node) → NoneMisshapen (placed_below place k f) → Among c (placed_below place k f) → IsFormed c
formed_below place k nothing c h a = absurd a
formed_below place k (tree r k2 span text marks below id after) c h a =
    let node : Node = record { kind = k2; span = span; text = text; marks = marks; children = below; node_id = id } in
    let here : Place = child_place place k r in
    let q = first_formed (here, node) (placed_below here k2 below ++ placed_below place k after) h in
    let w : NoneMisshapen (placed_below here k2 below) × NoneMisshapen (placed_below place k after) = rest_formed (placed_below here k2 below) (placed_below place k after) q.1 in
    elim (among_cases c ((here, node) ∷ placed_below here k2 below) (placed_below place k after) a) [
      | inl b ↦ elim b [
        | inl e ↦ subst IsFormed e (q.0, w.0)
        | inr d ↦ formed_below here k2 below c w.0 d
      ]
      | inr d ↦ formed_below place k after c w.1 d
    ]

pub formed_in : (p : Tree) (c : Place × Node) → first_fault p ≡ None → Among c (all_placed p.root) → IsFormed c
formed_in p c h a = go a
  where
    q : (is_well_formed root_place p.root ≡ true) × NoneMisshapen (placed_below root_place p.root.kind p.root.children)
    q = first_formed (root_place, p.root) (placed_below root_place p.root.kind p.root.children) (none_misshapen p h)

    go : Among c (all_placed p.root) → IsFormed c
    go (inl e) = subst IsFormed e q
    go (inr b) = formed_below root_place p.root.kind p.root.children c q.1 b
