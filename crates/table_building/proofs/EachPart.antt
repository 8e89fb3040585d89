-- The names that the parts of a node bind, part by part.
use Rattle.std.proofs.Common.{◌≡◌, ℕ, List, [], ◌∷◌, ◌++◌, map, flat_map, refl}
use Rattle.std.proofs.lemmas.List.{map-append}
use Rattle.semantic_tree.specs.declared.node.Node.{Node}
use Rattle.semantic_model.specs.Naming.{Naming}
use Rattle.semantic_model.specs.Names.{bound_names}
use Rattle.walk_model.specs.WalkState.{WalkState}
use Rattle.walk_model.specs.Declares.{declare}
use Rattle.table_building.specs.Each.{declare_each}

declares-append : (ds es : List Naming) (w : WalkState) (s : ℕ) → declare_each w s (ds ++ es) ≡ declare_each (declare_each w s ds) s es
declares-append [] es w s = refl
declares-append (d ∷ ds) es w s = declares-append ds es (declare w s d) s

-- the names of all parts that are left are those of the first, and those of the rest
pub parts_turn : (f : Node → Naming) (w : WalkState) (s : ℕ) (part : Node) (before after : List Node) → before ≡ part ∷ after
    → declare_each w s (map f (flat_map bound_names before)) ≡ declare_each (declare_each w s (map f (bound_names part))) s (map f (flat_map bound_names after))
parts_turn f w s part before after is =
    rw (is, map-append f (bound_names part) (flat_map bound_names after)) (declares-append (map f (bound_names part)) (map f (flat_map bound_names after)) w s)
