-- Where a walk stands between two children of a node.
use Rattle.std.specs.Prelude.{ℕ, ◌<◌, ◌≤◌, Bool, true, ◌&&◌, not, cond, Option, Some, is_some, length, unwrap_or, IfSome}
use Rattle.semantic_kinds.specs.declared.kind.AstType.{AstType}
use Rattle.semantic_kinds.specs.declared.kind.AstType.TheVariants as kind
use Rattle.semantic_kinds.specs.declared.role.Role.{Role}
use Rattle.semantic_syntax.specs.Tables.{Tables}
use Rattle.semantic_syntax.specs.Reading.{scope_of}
use Rattle.semantic_model.specs.Inside.{is_inside, is_parameter_decorator}
use Rattle.semantic_tree.specs.declared.node.Node.{Node}
use Rattle.semantic_tree.specs.Views.{is}
use Rattle.semantic_walk.specs.Doings.{is_passing, is_leaf}
use Rattle.semantic_walk.specs.Walker.{Walker, referring}
use Rattle.semantic_walk.specs.declared.visit.Turn.{Turn}
use Rattle.walk_model.specs.WalkState.{WalkState}

-- the node's scope and the one around it exist, and what waited at the start of its header may still wait
pub record IsTurn (w : WalkState) (turn : Turn) : Type 0 where
  pub outer : turn.outer < length w.tables.scopes
  pub own : IfSome turn.own (λ s. s < length w.tables.scopes)
  pub start : turn.header_start ≤ length w.waiting

-- the own scope, where it is open and the child stands inside
abbrev pub own_or : Bool → Option ℕ → ℕ → ℕ
own_or true (Some own) outer = own
own_or _ _ outer = outer

-- the scope where a child in the role stands
abbrev pub child_scope : Tables → Turn → AstType → Role → ℕ
child_scope t turn k r =
    cond (is_parameter_decorator k r) (unwrap_or (scope_of t turn.outer).parent turn.outer) (own_or (is_inside k r) turn.own turn.outer)

-- whether the walk goes past a node without a visit: a leaf of a kind that may be passed, where no early errors are told and no nodes are kept
abbrev pub is_passed : Walker → Node → Bool
is_passed w node = is_passing node.kind && is_leaf node.children && not w.checks && not (is_some w.nodes)

-- the walk is past a leaf that is passed over: a reference waits, and has used the cursor up
abbrev pub past_leaf : Walker → Node → Walker
past_leaf w leaf = cond (is kind.IdentifierReference leaf) (record (referring w leaf) { cursor = 0 }) w
