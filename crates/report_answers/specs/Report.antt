-- The text of a report, and of the summary of a script that was made.
use Rattle.std.specs.Prelude.{ℕ, List, [], ◌++◌, Bool, Option, Some, None, if◌then◌else◌}
use Rattle.std.specs.List.{flat_map}
use Rattle.report_lines.specs.TableLines.{table_lines}
use Rattle.report_lines.specs.ClassLines.{all_class_lines}
use Rattle.report_lines.specs.CountLines.{node_lines, label_line, stats_line, made_line}
use Rattle.report_lines.specs.DiagnosticLine.{diagnostic_line}
use Rattle.report_answers.specs.Found.{Found}
use Rattle.report_answers.specs.declared.options.Options.{Options}
use Rattle.report_answers.specs.declared.request.Request.{Request}

-- lines that are told where they are asked for
abbrev pub where_asked : Bool → List ℕ → List ℕ
where_asked asked lines = if asked then lines else []

-- the counts, where they are asked for, and the diagnostics
abbrev pub counted_text : Options → Found → List ℕ
counted_text options found = where_asked options.stats (stats_line found.count found.tables) ++ flat_map diagnostic_line found.diagnostics

-- what stands behind the tables: the classes, where they are asked for, the unused labels, and the above
abbrev pub noted_text : Options → Found → List ℕ
noted_text options found = where_asked options.classes (all_class_lines found.classes) ++ (flat_map label_line found.labels ++ counted_text options found)

-- the text of a report: the nodes, where they are asked for, the tables, and the above
abbrev pub report_text : Options → Found → List ℕ
report_text options found = where_asked options.nodes (node_lines found.nodes) ++ (table_lines found.tables ++ noted_text options found)

-- what a report tells besides
abbrev pub options_of : Request → Options
options_of request = record { nodes = request.nodes; classes = request.classes; stats = request.stats }

-- the answer about a program that was read, or about a script that was made
abbrev pub text_by : Option ℕ → Options → Found → List ℕ
text_by None options found = report_text options found
text_by (Some functions) options found = made_line found.count found.tables

-- the answer to a request
abbrev pub answer_text : Request → Found → List ℕ
answer_text request found = text_by request.make (options_of request) found
