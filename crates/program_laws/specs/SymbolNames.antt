-- That symbols have the names of what declares them and of what is tied to them.
use Rattle.std.specs.Prelude.{◌≡◌, ℕ, Some, slice_get, ◌⊎◌}
use Rattle.semantic_kinds.specs.declared.kind.AstType.TheVariants as kind
use Rattle.semantic_syntax.specs.Tables.{Name, Tables, Symbol}
use Rattle.semantic_syntax.specs.declared.references.Reference.{Reference}
use Rattle.semantic_tree.specs.Place.{all_placed}
use Rattle.semantic_tree.specs.Tree.{Tree}
use Rattle.semantic_tree.specs.declared.node.Node.{Node}
use Rattle.semantic_tree.specs.declared.place.Place.{Place}
use Rattle.semantic_model.specs.Entries.{Among}
use Rattle.semantic_model.specs.Fold.{Made}
use Rattle.semantic_model.specs.NodeTable.{Belongs, node_tables}
use Rattle.semantic_model.specs.Reference.{Occurrence, references}
use Rattle.semantic_model.specs.Step.{steps}
use Rattle.semantic_model.specs.TablesOf.{tables_of, made_of}

-- the symbol is there, and has the name
pub record IsNamed (t : Tables) (s : ℕ) (x : Name) : Type 0 where
  pub symbol : Symbol
  pub is_there : slice_get t.symbols s ≡ Some symbol
  pub named : symbol.name ≡ x

-- a reference that is tied to a symbol has its name
abbrev pub TiesHaveNames : Tree → Type 0
TiesHaveNames p = (n s : ℕ) (r : Occurrence) (e : Reference) → slice_get (references (steps p)) n ≡ Some r → slice_get (tables_of p).references n ≡ Some e → e.symbol_id ≡ Some s → IsNamed (tables_of p) s r.name

-- the symbol of a declaration has the declared name
abbrev pub DeclarationsHaveNames : Tree → Type 0
DeclarationsHaveNames p = (m : Made) → Among m (made_of p) → IsNamed (tables_of p) m.symbol m.declaration.naming.name

-- a node to which a symbol belongs is a binding identifier of its name, or an enum member
abbrev pub NodesHaveNames : Tree → Type 0
NodesHaveNames p = (place : Place) (node : Node) (s : ℕ) → Among (place, node) (all_placed p.root) → Among {A = Belongs} (record { node = node.node_id; number = s }) (node_tables (steps p)).symbols → ((node.kind ≡ kind.BindingIdentifier) × IsNamed (tables_of p) s node.text) ⊎ (node.kind ≡ kind.TSEnumMember)

-- a node that is tied to a symbol is an identifier reference of its name
abbrev pub TiedNodesHaveNames : Tree → Type 0
TiedNodesHaveNames p = (place : Place) (node : Node) (s : ℕ) (e : Reference) → Among (place, node) (all_placed p.root) → Among e (tables_of p).references → e.node_id ≡ node.node_id → e.symbol_id ≡ Some s → (node.kind ≡ kind.IdentifierReference) × IsNamed (tables_of p) s node.text
