-- A walk: what it has made so far, and where it stands.
use Rattle.std.specs.Prelude.{ℕ, List, [], ◌∷◌, ◌++◌, Bool, Option, Some, option_map, length}
use Rattle.semantic_syntax.specs.declared.source_type.SourceType.{SourceType}
use Rattle.semantic_kinds.specs.declared.role.Role.{Role}
use Rattle.semantic_tree.specs.declared.node.Node.{Node}
use Rattle.semantic_diagnostics.specs.declared.diagnostic.Diagnostic.{Diagnostic}
use Rattle.semantic_model.specs.Namespace.{InstanceState}
use Rattle.semantic_model.specs.Place.{Place}
use Rattle.semantic_syntax.specs.declared.scope_flags.TheConstants.ScopeFlags as scope
use Rattle.semantic_syntax.specs.Sets.{meets, union}
use Rattle.semantic_syntax.specs.Reading.{scope_of}
use Rattle.semantic_syntax.specs.Writing.{bindings_taken_over}
use Rattle.node_store.specs.Entered.{Entered, entering}
use Rattle.semantic_model.specs.Cursor.{way_or_read, on_entering}
use Rattle.semantic_model.specs.ScopeKind.{flags_of_kind, strict_if}
use Rattle.walk_model.specs.WalkState.{WalkState}
use Rattle.walk_model.specs.Opens.{refer_to, open_in}
use Rattle.walk_model.specs.WrittenNames.{WrittenName}
use Rattle.walk_notes.specs.NoteLists.{NoteLists}
use Rattle.check_walk.specs.SoFar.{Telling}
use Rattle.semantic_walk.specs.Paths.{parent_in}
use Rattle.semantic_walk.specs.declared.walk.Walk.TheInside.{Inside}

pub record Walker : Type 0 where
  pub made : WalkState
  pub source_type : SourceType
  -- the states of the namespaces
  pub states : List InstanceState
  -- past which names block functions don't move, collected or not
  pub namesakes : List WrittenName
  -- the nodes from the root to the one that is visited
  pub path : List Node
  -- the scope where it stands
  pub current : ℕ
  -- the flags of the next reference
  pub cursor : ℕ
  pub is_ambient : Bool
  -- the nodes that it has entered, if they are kept
  pub nodes : Option Entered
  -- the classes, if they are noted, and the labels
  pub notes : NoteLists
  -- the bytes of the source
  pub source : List ℕ
  -- whether early errors are told
  pub checks : Bool
  -- what is told, but for the conflicts since then
  pub said : List Diagnostic
  -- how many conflicts are told
  pub counted : ℕ

abbrev pub walker : Inside → Walker
walker w = record {
  made = w.declared;
  source_type = w.source_type;
  states = w.states;
  namesakes = w.namesakes;
  path = w.path.nodes;
  current = w.current_scope;
  cursor = w.current_reference_flags.bits;
  is_ambient = w.is_ambient;
  nodes = w.path.entered;
  notes = w.notes;
  source = w.source_text.now;
  checks = w.checks;
  said = w.said;
  counted = w.counted;
}

-- what it has made and told
abbrev pub telling_of : Walker → Telling
telling_of w = record { made = w.made; said = w.said; counted = w.counted }

-- the node where the walk stands
abbrev pub place_in : Walker → Role → Node → Place
place_in w r node = record {
  source_type = w.source_type;
  role = r;
  node = node;
  chain = [];
  path = parent_in w.path;
  cursor = w.cursor;
  is_ambient = w.is_ambient;
}

-- the node is entered where the walk stands, if nodes are kept
abbrev pub noting_node : Walker → Node → Walker
noting_node w node = record w { nodes = option_map (λ e. entering e node w.current) w.nodes }

-- the walk has stepped to the node
abbrev pub stepped_to : Walker → Node → Walker
stepped_to w node = record (noting_node w node) { path = w.path ++ node ∷ []; cursor = on_entering node.kind w.cursor }

-- the node is a reference where the walk stands, under its cursor
abbrev pub referring : Walker → Node → Walker
referring w node = record w { made = refer_to w.made node.node_id node.text w.current (way_or_read w.cursor) }

-- the node in its role opens a scope where the walk stands, which is strict where the code around it is
abbrev pub opening_in : Walker → Role → Node → WalkState
opening_in w r node =
    open_in w.made (Some w.current) node.node_id (length w.made.tables.scopes)
    (union (flags_of_kind node.kind (place_in w r node)) (strict_if (meets (scope_of w.made.tables w.current).flags.bits scope.StrictMode.bits)))

-- the scope takes over what the current one binds
abbrev pub taking_over : Walker → ℕ → Walker
taking_over w s = record w { made = record w.made { tables = bindings_taken_over w.made.tables w.current s } }
