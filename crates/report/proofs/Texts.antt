-- The text of what stands in an analysis is that of what is found in the program.
use Rattle.std.proofs.Common.{◌≡◌, ℕ, List, ◌++◌, Bool, true, false, Option, Some, None, flat_map, ap, ◌∙◌, refl}
use Rattle.std.specs.Prelude.{◌||◌}
use Rattle.semantic_syntax.specs.Tables.{Tables}
use Rattle.semantic_tree.specs.Children.{node_count}
use Rattle.semantic_tree.specs.Tree.{Tree}
use Rattle.semantic_model.specs.Class.{classes}
use Rattle.semantic_model.specs.Label.{unused_labels}
use Rattle.semantic_diagnostics.specs.declared.diagnostic.Diagnostic.{Diagnostic}
use Rattle.node_store.specs.NodeList.{NodeList}
use Rattle.class_table.specs.Lists.{ClassLists}
use Rattle.class_table.specs.Told.{lists_told}
use Rattle.promise.specs.Kept.{node_list, kept_nodes, classes_noted}
use Rattle.report_lines.specs.ClassLines.{all_class_lines}
use Rattle.report_lines.specs.CountLines.{node_lines, label_line, stats_line, made_line}
use Rattle.report_lines.specs.DiagnosticLine.{diagnostic_line}
use Rattle.report_lines.specs.TableLines.{table_lines}
use Rattle.report.specs.Built.{found_of}
use Rattle.report_answers.specs.Found.{Found}
use Rattle.report_answers.specs.Report.{where_asked, noted_text, counted_text, text_by}
use Rattle.report_answers.specs.declared.options.Options.{Options}

nodes_same : (asked : Bool) (list : NodeList) (p : Tree) → list ≡ kept_nodes asked p → where_asked asked (node_lines list) ≡ where_asked asked (node_lines (node_list p))
nodes_same true list p same = ap node_lines same
nodes_same false list p same = refl

classes_same : (asked checks : Bool) (lists : ClassLists) (p : Tree) → lists ≡ classes_noted (asked || checks) p → where_asked asked (all_class_lines lists) ≡ where_asked asked (all_class_lines (lists_told (classes p.root)))
classes_same true checks lists p same = ap all_class_lines same
classes_same false checks lists p same = refl

module _ (options : Options) (nodes : NodeList) (tables : Tables) (lists : ClassLists) (labels : List ℕ) (count : ℕ) (diagnostics : List Diagnostic) (p : Tree) where
  abbrev pub found_here : Found
  found_here = record { nodes = nodes; tables = tables; classes = lists; labels = labels; count = count; diagnostics = diagnostics }

  pub text_same : (make : Option ℕ) (checks : Bool) → nodes ≡ kept_nodes options.nodes p → lists ≡ classes_noted (options.classes || checks) p → labels ≡ unused_labels p.root → count ≡ node_count p.root
      → text_by make options found_here ≡ text_by make options (found_of p tables diagnostics)
  text_same None checks n c l k =
      let told = where_asked options.classes (all_class_lines (lists_told (classes p.root))) in
      ap (λ text. text ++ (table_lines tables ++ noted_text options found_here)) (nodes_same options.nodes nodes p n)
      ∙ ap (λ text. where_asked options.nodes (node_lines (node_list p)) ++ (table_lines tables ++ text))
      (ap (λ text. text ++ (flat_map label_line labels ++ counted_text options found_here)) (classes_same options.classes checks lists p c)
      ∙ ap (λ ls. told ++ (flat_map label_line ls ++ counted_text options found_here)) l
      ∙ ap (λ m. told ++ (flat_map label_line (unused_labels p.root) ++ (where_asked options.stats (stats_line m tables) ++ flat_map diagnostic_line diagnostics))) k)
  text_same (Some functions) checks n c l k = ap (λ n. made_line n tables) k
