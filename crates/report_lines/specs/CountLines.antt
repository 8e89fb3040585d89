-- The lines of a report on nodes, labels and counts.
use Rattle.std.specs.Prelude.{ℕ, ◌+◌, List, [], ◌∷◌, ◌++◌, cond, length, slice_index, codes, decimal}
use Rattle.std.specs.List.{concat, flat_map}
use Rattle.std.specs.Option.{is_some}
use Rattle.semantic_kinds.specs.declared.kind.AstType.{AstType}
use Rattle.semantic_kinds.specs.Kinds.{kind_name}
use Rattle.semantic_syntax.specs.declared.references.Reference.{Reference}
use Rattle.semantic_syntax.specs.Tables.{Tables}
use Rattle.node_store.specs.NodeList.{NodeList, SeenNode}
use Rattle.node_store.specs.Outward.{numbered_from}

-- the line of a node: its kind, its parent, and the scope where it stands
unfoldable pub node_line : ℕ → AstType → ℕ → ℕ → List ℕ
node_line node kind parent scope = concat (codes "node " ∷ decimal node ∷ codes " " ∷ kind_name kind ∷ codes " parent " ∷ decimal parent ∷ codes " scope " ∷ decimal scope ∷ codes "\n" ∷ [])

-- the line of a node with its id, by the parents of all nodes
abbrev pub node_line_by : List ℕ → ℕ × SeenNode → List ℕ
node_line_by parents numbered = node_line numbered.0 numbered.1.node.kind (slice_index parents numbered.0) numbered.1.scope

-- the lines of the nodes, in the order of their ids
abbrev pub node_lines : NodeList → List ℕ
node_lines list = flat_map (node_line_by list.parents) (numbered_from 0 list.nodes)

-- the line of an unused label, by the node of its statement
unfoldable pub label_line : ℕ → List ℕ
label_line node = concat (codes "label " ∷ decimal node ∷ codes "\n" ∷ [])

-- how many nodes, scopes, symbols and references there are
unfoldable pub counts_text : ℕ → ℕ → ℕ → ℕ → List ℕ
counts_text nodes scopes symbols references =
    codes " nodes " ++ decimal nodes ++ codes " scopes " ++ decimal scopes ++ codes " symbols " ++ decimal symbols ++ codes " references " ++ decimal references

-- the counts of tables over so many nodes
abbrev pub table_counts : ℕ → Tables → List ℕ
table_counts nodes t = counts_text nodes (length t.scopes) (length t.symbols) (length t.references)

-- the line of counts
unfoldable pub stats_line : ℕ → Tables → List ℕ
stats_line nodes t = concat (codes "stats" ∷ table_counts nodes t ∷ codes "\n" ∷ [])

-- how many of the references are free
abbrev pub free_count : List Reference → ℕ
free_count [] = 0
free_count (reference ∷ references) = cond (is_some reference.symbol_id) 0 1 + free_count references

-- the summary of a script that was made and analysed
unfoldable pub made_line : ℕ → Tables → List ℕ
made_line nodes t = concat (codes "made" ∷ table_counts nodes t ∷ codes " free " ∷ decimal (free_count t.references) ∷ codes "\n" ∷ [])
