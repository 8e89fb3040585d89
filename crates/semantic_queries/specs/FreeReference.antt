-- References that tables hold and tie to no symbol.
use Rattle.std.specs.Prelude.{ℕ, Bool, false, ◌&&◌, not, nat_lt, nat_eq, length}
use Rattle.std.specs.Option.{option_map_or, is_some}
use Rattle.std.specs.Map.{lookup}
use Rattle.semantic_kinds.specs.declared.kind.AstType.TheVariants as kind
use Rattle.semantic_syntax.specs.Tables.{Name, Tables}
use Rattle.semantic_tree.specs.declared.node.Node.{Node}
use Rattle.semantic_syntax.specs.NodeEntries.{NodeEntries}
use Rattle.semantic_syntax.specs.Reading.{reference_of}
use Rattle.semantic_tree.specs.Views.{is, has_text}

-- the reference is one of the tables and has no symbol
abbrev pub is_free : Tables → ℕ → Bool
is_free t r = nat_lt r (length t.references) && not (is_some (reference_of t r).symbol_id)

-- the node is an identifier reference whose reference has no symbol
abbrev pub is_free_at : Tables → NodeEntries → Node → Bool
is_free_at t nodes node =
    is kind.IdentifierReference node && option_map_or (is_free t) (lookup (nat_eq node.node_id) nodes.references) false

-- such an identifier reference has the text
abbrev pub is_free_named : Name → Tables → NodeEntries → Node → Bool
is_free_named name t nodes node = is_free_at t nodes node && has_text name node
