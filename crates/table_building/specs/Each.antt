-- Declarations of all the names of a node.
use Rattle.std.specs.Prelude.{ℕ, List, [], ◌∷◌, Option, Some, None, cond, map}
use Rattle.semantic_kinds.specs.declared.kind.AstType.TheVariants as kind
use Rattle.semantic_tree.specs.declared.node.Node.{Node}
use Rattle.semantic_tree.specs.Views.{is}
use Rattle.semantic_model.specs.Naming.{Naming}
use Rattle.semantic_model.specs.Names.{bound_names}
use Rattle.semantic_model.specs.Binder.{member_names}
use Rattle.walk_model.specs.WalkState.{WalkState}
use Rattle.walk_model.specs.Declares.{declare, declare_anew}
use Rattle.walk_model.specs.Hoists.{hoist, declare_and_move}
use Rattle.table_building.specs.Named.{member_naming, caught_naming, pattern_naming}

-- each is declared in the scope
abbrev pub declare_each : WalkState → ℕ → List Naming → WalkState
declare_each w s [] = w
declare_each w s (d ∷ ds) = declare_each (declare w s d) s ds

-- each is declared as a `var`
abbrev pub hoist_each : WalkState → (passed : List ℕ) → ℕ → List Naming → WalkState
hoist_each w passed target [] = w
hoist_each w passed target (d ∷ ds) = hoist_each (hoist w passed target d) passed target ds

-- a function of a block moves to its target, if it has one, else it stays
abbrev pub settle_in_block : WalkState → ℕ → Option ℕ → Naming → WalkState
settle_in_block w block None d = declare w block d
settle_in_block w block (Some target) d = declare_and_move w block target d

-- a plain name that is caught is always new; the names of a pattern are lexical
abbrev pub declare_pattern : WalkState → ℕ → (parameter pattern : Node) → WalkState
declare_pattern w s parameter pattern =
    cond (is kind.BindingIdentifier pattern)
    (declare_anew w s (caught_naming parameter pattern))
    (declare_each w s (map (pattern_naming parameter) (bound_names pattern)))

-- each pattern of a catch clause
abbrev pub declare_patterns : WalkState → ℕ → (parameter : Node) → List Node → WalkState
declare_patterns w s parameter [] = w
declare_patterns w s parameter (pattern ∷ more) = declare_patterns (declare_pattern w s parameter pattern) s parameter more

-- each id of a member of an enum
abbrev pub declare_members : WalkState → ℕ → (member : Node) → List Node → WalkState
declare_members w s member [] = w
declare_members w s member (id ∷ more) = declare_members (declare_each w s (map (member_naming member id) (member_names id))) s member more
