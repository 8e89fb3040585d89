-- What is known of a module whose exports are told.
use Rattle.std.specs.Prelude.{ℕ, List, Option, nat_eq}
use Rattle.indexmap.specs.IndexMap.{get}
use Rattle.semantic_syntax.specs.Tables.{Name}
use Rattle.link_model.specs.Imports.{imports}
use Rattle.link_search.specs.declared.target.Target.{Target}
use Rattle.module_linker.specs.AnalysedIn.{analysed_in, ties_in}
use Rattle.module_linker.specs.ImportsLead.{ImportsLead}
use Rattle.module_linker.specs.declared.module_scope.ModuleScope.{ModuleScope}

-- where the first import of a symbol leads
abbrev pub imported_in : ModuleScope → ℕ → Option Target
imported_in scope s = get nat_eq scope.imported.now s

-- that is where the imports of the module lead
abbrev pub ScopeLeads : (names texts : List Name) → ModuleScope → Type 0
ScopeLeads names texts scope = ImportsLead names texts (ties_in scope.analysed.now) (imports (analysed_in scope.analysed.now)) (imported_in scope)
