-- What is seen of a node and of where it stands, for its binder row.
use Rattle.std.specs.Prelude.{◌≡◌, ℕ, List, [], ◌∷◌, false, Option, Some, None}
use Rattle.semantic_kinds.specs.declared.role.Role.{Role}
use Rattle.semantic_kinds.specs.declared.role.Role.TheVariants as role
use Rattle.semantic_syntax.specs.declared.source_type.SourceType.{SourceType}
use Rattle.semantic_syntax.specs.declared.source_type.Goal.TheVariants.{Script}
use Rattle.semantic_syntax.specs.declared.source_type.Lang.TheVariants.{Js}
use Rattle.semantic_syntax.specs.declared.scope_flags.ScopeFlags.{ScopeFlags}
use Rattle.semantic_tree.specs.declared.node.Node.{Node}
use Rattle.semantic_tree.specs.declared.view.AstKind.{AstKind}
use Rattle.semantic_model.specs.Place.{Place, no_scope}
use Rattle.node_rules.specs.declared.rows.Row.{Row}

-- a parent alone, as a path
abbrev pub parent_path : Option AstKind → List Node
parent_path None = []
parent_path (Some parent) = parent.node.now ∷ []

-- a node under a parent, of which nothing else is known
abbrev pub seen_under : AstKind → Option AstKind → Place
seen_under kind parent = record {
  source_type = record { goal = Script; lang = Js };
  role = role.Root;
  node = kind.node.now;
  chain = [];
  path = parent_path parent;
  cursor = 0;
  is_ambient = false;
}

-- a node of a source, under a parent and in a scope with the flags
abbrev pub seen : SourceType → AstKind → Option AstKind → ScopeFlags → Place
seen source_type kind parent flags =
    record (seen_under kind parent) { source_type = source_type; chain = record no_scope { flags = flags.bits } ∷ [] }

-- a node of a source in its role, under a parent
abbrev pub in_role : SourceType → Role → AstKind → Option AstKind → Place
in_role source_type r kind parent = record (seen_under kind parent) { source_type = source_type; role = r }

-- the row has the flags, and the excluded ones
pub record IsBinderRow (row : Row) (bits barred : ℕ) : Type 0 where
  pub flags : row.flags.bits ≡ bits
  pub excluded : row.excluded.bits ≡ barred
