-- A walk that leaves a node, and what it hands to the check of the node.
use Rattle.std.specs.Prelude.{◌≡◌, ◌<◌, ◌≤◌, true, drop, length, reverse}
use Rattle.semantic_tree.specs.Limits.{source_limit}
use Rattle.semantic_tree.specs.Tree.{IsPreorder}
use Rattle.semantic_tree.specs.declared.node.Node.{Node}
use Rattle.semantic_model.specs.Ambient.{ambient_inside}
use Rattle.semantic_model.specs.Place.{Place}
use Rattle.walk_model.specs.Shown.{ShowsChain, IsGrounded}
use Rattle.check_model.specs.Context.{Context, sight_shown}
use Rattle.check_model.specs.Rows.{rows_of}
use Rattle.check_walk.specs.Apart.{HasApart}
use Rattle.check_walk.specs.Showing.{ShowsClasses}
use Rattle.check_context.specs.Sound.{IsInSource, AreAllSound}
use Rattle.check_walk.specs.WalkSight.{sight_in}
use Rattle.semantic_walk.specs.AtPlace.{IsWithin}
use Rattle.semantic_walk.specs.Walker.{Walker}

-- what the walk hands to a check of the node
abbrev pub context_of : Walker → Node → Context
context_of w node = record {
  source = w.source;
  source_type = w.source_type;
  tables = w.made.tables;
  nodes = w.made.nodes;
  classes = w.notes.classes.classes;
  current_class = w.notes.classes.current_class_id;
  path = drop 1 (reverse w.path);
  current_scope = w.current;
  is_ambient = ambient_inside node w.is_ambient;
}

-- with checks on, that shows the rows that the node at the place violates
abbrev pub ShowsRows : Walker → Place → Type 0
ShowsRows w p = w.checks ≡ true → rows_of (sight_shown p.node (context_of w p.node)) ≡ rows_of (sight_in w.source w.made p)

-- what a check asks of the walk beside that
pub record IsFit (w : Walker) (node : Node) : Type 0 where
  pub in_source : IsInSource w.source node
  pub order : IsPreorder node
  pub elements : AreAllSound w.source w.notes.classes.classes.elements
  pub apart : HasApart w.made
  pub limit : length w.source ≤ source_limit
  pub stands : 0 < length w.path

-- all below the node at the place is walked, and the walk is about to leave it
pub record IsLeaving (w : Walker) (p : Place) : Type 0 where
  pub within : IsWithin w p p.chain
  pub is_ambient : w.is_ambient ≡ p.is_ambient
  pub chain : ShowsChain w.made.tables p.chain
  pub grounded : IsGrounded p
  pub classes : w.checks ≡ true → ShowsClasses w.notes.classes.classes w.notes.classes.current_class_id p
  pub fit : w.checks ≡ true → IsFit w p.node
