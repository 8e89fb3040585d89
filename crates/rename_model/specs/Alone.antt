-- When a name belongs to one symbol alone, and when it is used nowhere.
use Rattle.std.specs.Prelude.{◌≡◌, ℕ, List, [], ◌∷◌, Some, ◌⊎◌, cond, map, flat_map}
use Rattle.semantic_kinds.specs.declared.kind.AstType.TheVariants as kind
use Rattle.semantic_kinds.specs.declared.role.Role.TheVariants as role
use Rattle.semantic_syntax.specs.Tables.{Name}
use Rattle.semantic_tree.specs.Place.{all_placed}
use Rattle.semantic_tree.specs.Tree.{Tree}
use Rattle.semantic_tree.specs.declared.node.Node.{Node}
use Rattle.semantic_tree.specs.declared.place.Place.{Place}
use Rattle.semantic_model.specs.Binder.{member_names}
use Rattle.semantic_model.specs.Entries.{Among}
use Rattle.semantic_tree.specs.Views.{is, children_of}
use Rattle.rename_model.specs.WithName.{is_identifier}
use Rattle.semantic_model.specs.Analysis.{symbol_at, tied_at, analysis_of}

-- the names of a binding identifier, of an identifier reference, or of an enum member
abbrev pub node_names : Node → List Name
node_names node =
    cond (is_identifier node.kind) (node.text ∷ [])
    (cond (is kind.TSEnumMember node) (map (λ x. x.text) (flat_map member_names (children_of role.Id node.children))) [])

-- every node that has the name declares symbol s or is tied to it
abbrev pub BelongsTo : Tree → ℕ → Name → Type 0
BelongsTo p s name = (place : Place) (node : Node) → Among (place, node) (all_placed p.root) → Among name (node_names node) → (symbol_at (analysis_of p) node.node_id ≡ Some s) ⊎ (tied_at (analysis_of p) node.node_id ≡ Some s)

-- no node has the name
abbrev pub IsUnused : Tree → Name → Type 0
IsUnused p name = (place : Place) (node : Node) → Among (place, node) (all_placed p.root) → Among name (node_names node) → ⊥
