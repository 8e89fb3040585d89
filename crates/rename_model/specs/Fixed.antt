-- The least node that fixes a name that others see.
use Rattle.std.specs.Prelude.{◌≡◌, ◌≤◌, ℕ, true}
use Rattle.semantic_tree.specs.Tree.{Tree}
use Rattle.semantic_model.specs.Entries.{Among}
use Rattle.semantic_model.specs.Place.{Place}
use Rattle.semantic_model.specs.Step.{entering, steps}
use Rattle.semantic_model.specs.Analysis.{analysis_of}
use Rattle.semantic_model.specs.Exported.{exported_names}
use Rattle.rename_model.specs.Refusal.{fixes_name}
use Rattle.rename_model.specs.Renamed.{bears_name}

-- a node with the name of symbol s, where it stands, fixes that name
abbrev pub FixesName : Tree → ℕ → Place → Type 0
FixesName p s place = Among (entering place) (steps p) × (fixes_name (exported_names (steps p)) (bears_name (analysis_of p) s) (entering place) ≡ true)

-- this one does, and none with a lesser id
pub record FixesFirst (p : Tree) (s node : ℕ) : Type 0 where
  pub place : Place
  pub fixes : FixesName p s place
  pub id : place.node.node_id ≡ node
  pub least : (other : Place) → FixesName p s other → node ≤ other.node.node_id

-- no node does
abbrev pub NoneFixes : Tree → ℕ → Type 0
NoneFixes p s = (place : Place) → FixesName p s place → ⊥
