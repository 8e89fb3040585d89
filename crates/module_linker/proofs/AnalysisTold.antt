-- The analysis of a module is what its tables show.
use Rattle.std.proofs.Common.{◌≡◌, List, Bool, ap, ◌∙◌}
use Rattle.semantic_syntax.specs.NodeEntries.{NodeEntries}
use Rattle.semantic_diagnostics.specs.declared.diagnostic.Diagnostic.{Diagnostic}
use Rattle.semantic_syntax.specs.Tables.{Tables}
use Rattle.promise.specs.Analysis.{IsAnalysis, BelongsToNodes}
use Rattle.module_set.specs.declared.modules.Module.{Module}
use Rattle.semantic.specs.Shown.{shown}
use Rattle.semantic_queries.proofs.Lookups.{shows}
use Rattle.link_model.specs.Module.{Analysed, analysed}

abbrev pub seen_by : Module → Tables → NodeEntries → Analysed
seen_by m scoping tables = record { name = m.name; program = m.program; analysis = shown scoping tables }

pub analysed_told : {checks : Bool} (m : Module) (scoping other : Tables) (tables others : NodeEntries) (diagnostics : List Diagnostic) → scoping ≡ other → tables ≡ others
    → IsAnalysis checks m.program other diagnostics → BelongsToNodes m.program others → seen_by m scoping tables ≡ analysed m
analysed_told m scoping other tables others diagnostics e f is belongs =
    ap (λ a. let x : Analysed = record { name = m.name; program = m.program; analysis = a } in x)
    (shows m.program scoping tables (e ∙ is.tables) (ap (λ (n : NodeEntries). n.symbols) f ∙ belongs.symbols) (ap (λ (n : NodeEntries). n.references) f ∙ belongs.references) (ap (λ (n : NodeEntries). n.scopes) f ∙ belongs.scopes))
