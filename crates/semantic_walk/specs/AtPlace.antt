-- A walk that stands at a place of the program.
use Rattle.std.specs.Prelude.{◌≡◌, ℕ, ◌-◌, ◌≤◌, true, List, [], ◌∷◌, ◌++◌, Option, Some, None, IfSome, option_map, length, reverse, take}
use Rattle.semantic_kinds.specs.declared.kind.AstType.TheVariants as kind
use Rattle.semantic_kinds.specs.declared.role.Role.{Role}
use Rattle.semantic_tree.specs.Forest.{Forest}
use Rattle.semantic_tree.specs.Limits.{source_limit}
use Rattle.semantic_tree.specs.declared.node.Node.{Node}
use Rattle.semantic_model.specs.Place.{Place, OpenScope, innermost, scope_of_place}
use Rattle.semantic_model.specs.Cursor.{on_entering, on_leaving, cursor_after}
use Rattle.semantic_model.specs.Declaration.{Declaration}
use Rattle.semantic_model.specs.Step.{entering, leaving, steps_below}
use Rattle.walk_model.specs.WalkState.{WalkState}
use Rattle.walk_model.specs.Walks.{after, after_all}
use Rattle.walk_model.specs.Shown.{ShowsChain, IsGrounded}
use Rattle.walk_model.specs.NamedScopes.{IsStepNamed, AllNamed}
use Rattle.walk_model.specs.Recursion.{IsBetween}
use Rattle.walk_model.specs.Probes.{probes_of_steps}
use Rattle.walk_model.specs.Room.{HasRoom}
use Rattle.node_store.specs.Entered.{Entered, leaving as leaving_node}
use Rattle.walk_notes.specs.NoteLists.{noting, noted_inside, noted_over, leaving as leaving_notes}
use Rattle.semantic_walk.specs.Listed.{IsNext, all_listed, entered_at}
use Rattle.check_walk.specs.Ready.{IsReadyAt}
use Rattle.check_walk.specs.SoFar.{Telling}
use Rattle.check_walk.specs.TellingAlong.{telling_along, telling_past, telling_left}
use Rattle.semantic_walk.specs.Stated.{IsStated, AllStated}
use Rattle.semantic_walk.specs.Walker.{Walker, telling_of}
use Rattle.semantic_walk.specs.declared.visit.Turn.{Turn}

-- the walk has come to the node at the place, and not entered it yet
pub record ComesTo (w : Walker) (p : Place) : Type 0 where
  pub source_type : w.source_type ≡ p.source_type
  -- the nodes above it, root first
  pub path : w.path ≡ reverse p.path
  pub current : w.current ≡ scope_of_place p
  pub cursor : w.cursor ≡ p.cursor
  pub is_ambient : w.is_ambient ≡ p.is_ambient

-- the walk is within the node at the place, in the innermost scope of the chain
pub record IsWithin (w : Walker) (p : Place) (chain : List OpenScope) : Type 0 where
  pub source_type : w.source_type ≡ p.source_type
  pub path : w.path ≡ reverse (p.node ∷ p.path)
  pub current : w.current ≡ (innermost chain).number

-- the scopes of the place are shown, and it is known which block functions stay, and the state of a namespace
pub record IsShown (ds : List Declaration) (w : Walker) (p : Place) : Type 0 where
  pub chain : ShowsChain w.made.tables p.chain
  pub grounded : IsGrounded p
  pub named : IsStepNamed ds w.namesakes (entering p)
  pub stated : IsStated w.states p

-- what stands between two children of a place, with its own scope, where its header starts, and what the walk does at its kind
pub record IsTurnAt (turn : Turn) (p : Place) (own : Option OpenScope) (start : ℕ) : Type 0 where
  pub outer : turn.outer ≡ scope_of_place p
  pub is_ambient : turn.is_ambient ≡ p.is_ambient
  pub own_scope : turn.own ≡ option_map (λ s. s.number) own
  pub header : turn.header_start ≡ start
  pub doings : turn.doings ≡ p.node.kind

-- the walk stands between two children of a place, with those that are left
pub record IsBetweenAt (ds : List Declaration) (w : Walker) (turn : Turn) (p : Place) (own : Option OpenScope) (n cursor start : ℕ) (f : Forest) : Type 0 where
  pub within : IsWithin w p p.chain
  pub flags : w.cursor ≡ cursor
  pub is_ambient : w.is_ambient ≡ p.is_ambient
  pub stands : IsTurnAt turn p own start
  pub between : IsBetween w.made p own n cursor start f
  pub named : AllNamed ds w.namesakes (steps_below p own n cursor f)
  pub stated : AllStated w.states (steps_below p own n cursor f)
  -- there are ids for all that they make
  pub room : HasRoom w.made.tables (steps_below p own n cursor f)

-- the root's scope is open before its node is entered, the others are not
abbrev pub IsOpenAtRoot : Place → Option OpenScope → Type 0
IsOpenAtRoot p None = p.node.kind ≡ kind.Program → ⊥
IsOpenAtRoot p (Some s) = (p.node.kind ≡ kind.Program) × (s.number ≡ scope_of_place p)

-- what is made once the node is entered
abbrev pub entered : List Declaration → Walker → Place → WalkState
entered ds w p = after ds w.made (entering p)

-- the nodes that are kept then
abbrev pub kept_at : Walker → Place → Option Entered
kept_at w p = option_map (entered_at p) w.nodes

-- the walk comes to a node, with all that a recursion knows of what is below it
pub record IsComing (ds : List Declaration) (w : Walker) (p : Place) (own : Option OpenScope) (n : ℕ) : Type 0 where
  pub comes : ComesTo w p
  pub shown : IsShown ds w p
  pub root : IsOpenAtRoot p own
  pub between : IsBetween (entered ds w p) p own n (on_entering p.node.kind p.cursor) (length (entered ds w p).waiting) p.node.children
  pub named : AllNamed ds w.namesakes (steps_below p own n (on_entering p.node.kind p.cursor) p.node.children)
  pub stated : AllStated w.states (steps_below p own n (on_entering p.node.kind p.cursor) p.node.children)
  pub room : HasRoom w.made.tables (entering p ∷ steps_below p own n (on_entering p.node.kind p.cursor) p.node.children)
  pub kept : IfSome w.nodes (IsNext p)
  -- with checks on, what they ask
  pub ready : w.checks ≡ true → IsReadyAt w.source w.made w.notes.classes p
  pub limit : length w.source ≤ source_limit

-- the walk has come to the node in its role, somewhere in a program
pub record IsSomewhere (w : Walker) (node : Node) (r : Role) : Type 0 where
  pub ds : List Declaration
  pub place : Place
  pub own : Option OpenScope
  pub next : ℕ
  pub node_is : place.node ≡ node
  pub role_is : place.role ≡ r
  pub coming : IsComing ds w place own next

-- the node is entered, and nothing below it walked
abbrev pub walked_into : List Declaration → Walker → Place → Walker
walked_into ds w p =
    record w {
      made = entered ds w p;
      path = w.path ++ p.node ∷ [];
      cursor = on_entering p.node.kind p.cursor;
      nodes = kept_at w p;
      notes = noting p.path p.node w.notes;
    }

-- a walk that came to the place as `first` has entered its node
pub record IsEntered (ds : List Declaration) (first w : Walker) (p : Place) (own : Option OpenScope) (n : ℕ) : Type 0 where
  pub coming : IsComing ds first p own n
  pub entered : w ≡ walked_into ds first p

-- the walk has entered the node in its role, somewhere in a program
pub record HasEntered (w : Walker) (node : Node) (r : Role) : Type 0 where
  pub ds : List Declaration
  pub first : Walker
  pub place : Place
  pub own : Option OpenScope
  pub next : ℕ
  pub node_is : place.node ≡ node
  pub role_is : place.role ≡ r
  pub inside : IsEntered ds first w place own next

-- what is made and told once all below the node is walked
abbrev pub told_within : List Declaration → Walker → Place → Option OpenScope → ℕ → Telling
told_within ds w p own n =
    telling_along w.checks w.source ds (record (telling_of w) { made = entered ds w p }) (steps_below p own n (on_entering p.node.kind p.cursor) p.node.children)

-- all below the node is walked, and the node not left yet
abbrev pub walked_within : List Declaration → Walker → Place → Option OpenScope → ℕ → Walker
walked_within ds w p own n =
    let t : Telling = told_within ds w p own n in
    record w {
      made = after_all ds (entered ds w p) (steps_below p own n (on_entering p.node.kind p.cursor) p.node.children);
      path = w.path ++ p.node ∷ [];
      cursor = cursor_after p.node p.is_ambient (on_entering p.node.kind p.cursor) p.node.children;
      nodes = option_map (all_listed (steps_below p own n (on_entering p.node.kind p.cursor) p.node.children)) (kept_at w p);
      notes = noted_inside p.node p.node.children (noting p.path p.node w.notes);
      said = t.said;
      counted = t.counted;
    }

-- the node is left
abbrev pub left_at : Walker → Place → Walker
left_at w p =
    let t : Telling = telling_left w.checks w.source (telling_of w) p in
    record w {
      path = take (length w.path - 1) w.path;
      cursor = on_leaving p.node.kind w.cursor;
      nodes = option_map leaving_node w.nodes;
      notes = leaving_notes p.node w.notes;
      said = t.said;
      counted = t.counted;
    }

-- so the walk has done the steps of the node, and stands where it stood before
abbrev pub walked_over : List Declaration → Walker → Place → Option OpenScope → ℕ → Walker
walked_over ds w p own n =
    let t : Telling = telling_past w.checks w.source ds (told_within ds w p own n) (leaving p) in
    record w {
      made = after_all ds (entered ds w p) (steps_below p own n (on_entering p.node.kind p.cursor) p.node.children);
      cursor = on_leaving p.node.kind (cursor_after p.node p.is_ambient (on_entering p.node.kind p.cursor) p.node.children);
      nodes = option_map (all_listed (entering p ∷ steps_below p own n (on_entering p.node.kind p.cursor) p.node.children)) w.nodes;
      notes = noted_over p.path p.node w.notes;
      said = t.said;
      counted = t.counted;
    }

-- how many scopes the steps of the node ask
abbrev pub probes_over : List Declaration → Walker → Place → Option OpenScope → ℕ → ℕ
probes_over ds w p own n = probes_of_steps ds (entered ds w p) (steps_below p own n (on_entering p.node.kind p.cursor) p.node.children)
