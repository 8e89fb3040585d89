-- What is handed to a check beside the node, and the sight that it shows.
use Rattle.std.specs.Prelude.{ℕ, List, [], Bool, Option, None, cond, map, filter_map, length, nat_lt, slice_index_or}
use Rattle.std.specs.Option.{option_map_or}
use Rattle.semantic_syntax.specs.declared.source_type.SourceType.{SourceType}
use Rattle.semantic_syntax.specs.declared.scope_flags.TheConstants.ScopeFlags as scope
use Rattle.semantic_syntax.specs.Sets.{meets}
use Rattle.semantic_syntax.specs.Tables.{Tables}
use Rattle.semantic_tree.specs.declared.node.Node.{Node}
use Rattle.semantic_model.specs.Class.{PrivateUse}
use Rattle.semantic_syntax.specs.NodeEntries.{NodeEntries}
use Rattle.semantic_syntax.specs.Reading.{scope_of, reference_of, bindings_of, chain}
use Rattle.class_table.specs.Lists.{ClassLists, elements_in, uses_in}
use Rattle.class_table.specs.Outward.{classes_outward_from}
use Rattle.check_model.specs.Sight.{Sight, SeenScope, SeenClass}
use Rattle.check_model.specs.SightOf.{free_by}

-- what is handed in, as values
pub record Context : Type 0 where
  -- the bytes of the source
  pub source : List ℕ
  pub source_type : SourceType
  pub tables : Tables
  pub nodes : NodeEntries
  pub classes : ClassLists
  pub current_class : Option ℕ
  -- the nodes above, parent first
  pub path : List Node
  pub current_scope : ℕ
  pub is_ambient : Bool

-- a scope, by its row in the tables
abbrev pub seen_row : Tables → ℕ → SeenScope
seen_row t c = record {
  opener = (scope_of t c).node;
  is_strict = meets (scope_of t c).flags.bits scope.StrictMode.bits;
  is_top = meets (scope_of t c).flags.bits scope.Top.bits;
  is_function = meets (scope_of t c).flags.bits scope.Function.bits;
  is_arrow = meets (scope_of t c).flags.bits scope.Arrow.bits;
  is_static_block = meets (scope_of t c).flags.bits scope.ClassStaticBlock.bits;
}

-- a class, by its number
abbrev pub seen_class : ClassLists → ℕ → SeenClass
seen_class lists c = record { node = slice_index_or lists.nodes c 0; elements = elements_in lists c }

-- the current class and those around it
abbrev pub classes_from : ClassLists → Option ℕ → List SeenClass
classes_from lists current = map (seen_class lists) (classes_outward_from lists.parents current)

-- the uses in the current class
abbrev pub uses_from : ClassLists → Option ℕ → List PrivateUse
uses_from lists current = option_map_or (uses_in lists) current []

-- the node of an entry, if its reference is there and tied to no symbol
abbrev pub free_entry : Tables → ℕ × ℕ → Option ℕ
free_entry t e = cond (nat_lt e.1 (length t.references)) (free_by (reference_of t e.1).symbol_id e.0) None

-- the nodes of the references that are known and tied to no symbol
abbrev pub unresolved_by : NodeEntries → Tables → List ℕ
unresolved_by nodes t = filter_map (free_entry t) nodes.references

-- all that is shown, whatever the kind of the node asks
abbrev pub sight_shown : Node → Context → Sight
sight_shown node c = record {
  node = node;
  path = c.path;
  source = c.source;
  source_type = c.source_type;
  is_ambient = c.is_ambient;
  scopes = map (seen_row c.tables) (chain c.tables.scopes c.current_scope);
  symbols = c.tables.symbols;
  declared = c.nodes.symbols;
  classes = classes_from c.classes c.current_class;
  uses = uses_from c.classes c.current_class;
  elements = c.classes.elements;
  bound = map (λ b. b.1) (bindings_of c.tables 0);
  unresolved = unresolved_by c.nodes c.tables;
}
