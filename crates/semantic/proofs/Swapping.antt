-- Two names swapped in a program that was analysed.
use Rattle.std.proofs.Common.{◌≡◌, sym, ap, ◌∙◌}
use Rattle.semantic_syntax.specs.Tables.{Tables}
use Rattle.semantic_syntax.specs.NodeEntries.{NodeEntries}
use Rattle.semantic_tree.specs.Renamed.{swap, swapped_tree}
use Rattle.semantic_tree.specs.Tree.{Tree}
use Rattle.semantic_model.specs.NodeTable.{NodeTables, node_tables}
use Rattle.semantic_model.specs.Step.{steps}
use Rattle.semantic_model.specs.Swap.{swapped_tables}
use Rattle.semantic_model.specs.TablesOf.{tables_of}
use Rattle.semantic_model.proofs.swapped.AlikeNodes.{node_tables_renamed}
use Rattle.semantic_model.proofs.swapped.AlikeProgram.{swap_keeps}
use Rattle.semantic_model.proofs.swapped.AlikeTies.{tables_renamed}
use Rattle.walk_model.specs.Noted.{pairs_of}
use Rattle.promise.specs.Analysis.{BelongsToNodes}
use Rattle.promise.specs.SwappedNames.{ComparesNames}

pub compares_names : (p : Tree) (t : Tables) (nodes : NodeEntries) → t ≡ tables_of p → BelongsToNodes p nodes → ComparesNames p t nodes
compares_names p t nodes is belongs = record {
  tables = λ a b h k.
      tables_renamed (swap a b) (swap_keeps a b h.not_eval k.not_eval h.not_arguments k.not_arguments) p ∙ ap (swapped_tables a b) (sym is);
  at_nodes = λ a b h k.
      let same : node_tables (steps p) ≡ node_tables (steps (swapped_tree a b p)) = sym (node_tables_renamed (swap a b) (swap_keeps a b h.not_eval k.not_eval h.not_arguments k.not_arguments) p) in
      record {
        scopes = belongs.scopes ∙ ap (λ (n : NodeTables). pairs_of n.scopes) same;
        symbols = belongs.symbols ∙ ap (λ (n : NodeTables). pairs_of n.symbols) same;
        references = belongs.references ∙ ap (λ (n : NodeTables). pairs_of n.references) same;
      };
}
