-- How scopes open and close, and references are noted.
use Rattle.std.specs.Prelude.{ℕ, List, [], ◌∷◌, ◌++◌, Option, Some, None, cond, length, nat_eq}
use Rattle.std.specs.Option.{option_map_or}
use Rattle.indexmap.specs.IndexMap.{insert_entry}
use Rattle.semantic_kinds.specs.declared.kind.AstType.TheVariants as kind
use Rattle.semantic_syntax.specs.declared.scope_flags.TheConstants.ScopeFlags as scope
use Rattle.semantic_syntax.specs.Sets.{meets, union}
use Rattle.semantic_syntax.specs.Tables.{Name, Scope}
use Rattle.semantic_syntax.specs.Reading.{scope_of}
use Rattle.semantic_syntax.specs.Writing.{with_scope}
use Rattle.semantic_tree.specs.Views.{is}
use Rattle.semantic_model.specs.Place.{Place, OpenScope, scope_of_place}
use Rattle.semantic_model.specs.Cursor.{way_or_read}
use Rattle.semantic_model.specs.TablesOf.{is_direct_eval}
use Rattle.walk_model.specs.WalkState.{WalkState}

abbrev pub with_eval : Scope → Scope
with_eval s = record s { flags = record { bits = union s.flags.bits scope.DirectEval.bits } }

-- a call of `eval` in the scope
abbrev pub add_eval : WalkState → ℕ → WalkState
add_eval w s = record w { tables = with_scope w.tables s (with_eval (scope_of w.tables s)) }

-- a node that is a call of `eval` is noted
abbrev pub note_eval : WalkState → Place → WalkState
note_eval w p = cond (is_direct_eval p.node) (add_eval w (scope_of_place p)) w

-- the node is a reference in the scope, in the way
abbrev pub with_reference_at : WalkState → (node scope way : ℕ) → WalkState
with_reference_at w node s way = record w {
  tables = record w.tables {
    references = w.tables.references ++ record { node_id = node; scope_id = s; flags = record { bits = way }; symbol_id = None } ∷ [];
  };
  nodes = record w.nodes { references = insert_entry nat_eq w.nodes.references node (length w.tables.references) };
}

-- it refers to the name, and waits in the scope
abbrev pub refer_to : WalkState → (node : ℕ) → Name → (scope way : ℕ) → WalkState
refer_to w node name s way = record (with_reference_at w node s way) {
  waiting = w.waiting ++ record { name = name; reference = length w.tables.references; lookup_scope = s } ∷ [];
}

abbrev pub refer : WalkState → Place → WalkState
refer w p = refer_to w p.node.node_id p.node.text (scope_of_place p) (way_or_read p.cursor)

-- a node that is a reference is noted, and waits where it stands
abbrev pub note_reference : WalkState → Place → WalkState
note_reference w p = cond (is kind.IdentifierReference p.node) (refer w p) w

abbrev pub innermost_number : List OpenScope → Option ℕ
innermost_number [] = None
innermost_number (s ∷ ss) = Some s.number

-- the node opens a scope with the number and the flags, in another one or in none
abbrev pub open_in : WalkState → Option ℕ → (node number flags : ℕ) → WalkState
open_in w parent node number flags = record w {
  tables = record w.tables {
    scopes = w.tables.scopes ++ record { parent = parent; node = node; flags = record { bits = flags } } ∷ [];
    bindings = w.tables.bindings ++ [] ∷ [];
  };
  nodes = record w.nodes { scopes = insert_entry nat_eq w.nodes.scopes node number };
}

-- the scope of the place opens
abbrev pub open_scope : WalkState → Place → OpenScope → WalkState
open_scope w p s = open_in w (innermost_number p.chain) s.opener s.number s.flags

-- a call of `eval` in the scope is one in the scope around it, too
abbrev pub close_scope : WalkState → ℕ → WalkState
close_scope w s =
    cond (meets (scope_of w.tables s).flags.bits scope.DirectEval.bits)
    (option_map_or (add_eval w) (scope_of w.tables s).parent w) w
