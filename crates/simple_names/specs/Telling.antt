-- What is known of a program.
use Rattle.std.specs.Prelude.{ℕ, List, Bool, bytes_eq}
use Rattle.std.specs.List.{list_any}
use Rattle.semantic_syntax.specs.Tables.{Name}
use Rattle.semantic_model.specs.Analysis.{Analysis}
use Rattle.semantic_queries.specs.Shown.{shown}
use Rattle.mangle_names.specs.Marks.{is_number_marked}
use Rattle.simple_names.specs.declared.known.Known.{Known}

-- the analysis that tables tell
abbrev pub told_by : Known → Analysis
told_by known = shown known.scoping.now known.nodes.now

-- the symbol may change
abbrev pub may_by : Known → ℕ → Bool
may_by known = is_number_marked known.may.now

-- the name is among others
abbrev pub is_name_among : List Name → Name → Bool
is_name_among names name = list_any (bytes_eq name) names
