-- What a walk declares where it stands.
use Rattle.std.specs.Prelude.{ℕ, Bool, false, List, [], ◌∷◌, ◌||◌, Option, Some, None, cond, drop, map}
use Rattle.semantic_kinds.specs.declared.kind.AstType.TheVariants as kind
use Rattle.semantic_syntax.specs.declared.scope_flags.TheConstants.ScopeFlags as scope
use Rattle.semantic_syntax.specs.Tables.{Name, Tables}
use Rattle.semantic_syntax.specs.Reading.{scope_of}
use Rattle.semantic_tree.specs.declared.node.Node.{Node}
use Rattle.semantic_tree.specs.Views.{is}
use Rattle.semantic_model.specs.Naming.{Naming}
use Rattle.semantic_model.specs.Declaration.{Declaration, Route as Way}
use Rattle.semantic_model.specs.Event.{declares_all}
use Rattle.walk_model.specs.Walks.{act_all}
use Rattle.walk_model.specs.WrittenNames.{WrittenName, is_written, is_known_inside}
use Rattle.semantic_walk.specs.Walker.{Walker}
use Rattle.table_building.specs.Routes.{way_from}
use Rattle.table_building.specs.Each.{declare_each, hoist_each, settle_in_block}

-- each is declared in the current scope
abbrev pub declaring : Walker → List Naming → Walker
declaring w ds = record w { made = declare_each w.made w.current ds }

-- each is declared where the way outward ends that leads to a scope with one of the flags
abbrev pub declaring_past : Walker → ℕ → List Naming → Walker
declaring_past w bits ds = record w { made = declare_each w.made (way_from w.made.tables w.current bits).target.number ds }

-- each is declared as a `var` on that way
abbrev pub hoisting : Walker → ℕ → List Naming → Walker
hoisting w bits ds =
    let way : Way = way_from w.made.tables w.current bits in
    record w { made = hoist_each w.made (map (λ s. s.number) way.passed) way.target.number ds }

-- whether the name is written in one of the scopes, by the nodes that open them
abbrev pub stands_on : Tables → List WrittenName → Name → List ℕ → Bool
stands_on t ws x [] = false
stands_on t ws x (s ∷ ss) = is_written ws (scope_of t s).node x || stands_on t ws x ss

-- where a function of a block moves: to the nearest function, unless a namesake stands strictly between
abbrev pub block_target : Tables → List WrittenName → (block : ℕ) → Name → Option ℕ
block_target t ws block x =
    let way : Way = way_from t block scope.Var.bits in
    cond (stands_on t ws x (drop 1 (map (λ s. s.number) way.passed))) None (Some way.target.number)

-- the function of a block is declared, and moves where it may
abbrev pub moving_one : Walker → Naming → Walker
moving_one w d = record w { made = settle_in_block w.made w.current (block_target w.made.tables w.namesakes w.current d.name) d }

-- each is declared as a function of a block
abbrev pub moving : Walker → List Naming → Walker
moving w [] = w
moving w (d ∷ ds) = moving (moving_one w d) ds

-- the walk makes what the definition declares, among the written declarations of the program
abbrev pub acting : List Declaration → Walker → List Declaration → Walker
acting ds w new = record w { made = act_all w.made (declares_all ds new) }

-- whether the node declares in its own scope: a function or class expression, and a mapped type
abbrev pub is_bound_inside : Node → Bool
is_bound_inside node = is_known_inside node || is kind.TSMappedType node
