-- The analysis that tables tell.
use Rattle.semantic_model.specs.Analysis.{Analysis}
use Rattle.semantic.specs.Shown.{shown}
use Rattle.renamer.specs.declared.analysed.Analysed.{Analysed}

abbrev pub told_by : Analysed → Analysis
told_by a = shown a.scoping.now a.tables.now
