-- What a builder asks of an analysis.
use Rattle.promise.specs.Analysed.{AnalysisSettings}
use Rattle.semantic.specs.declared.builder.SemanticBuilder.{SemanticBuilder}

-- what the builder keeps, notes and tells; for how much it makes room changes no answer
abbrev pub settings_of : SemanticBuilder → AnalysisSettings
settings_of builder = record { nodes = builder.build_nodes; classes = builder.class_table; early_errors = builder.check_syntax_error }
