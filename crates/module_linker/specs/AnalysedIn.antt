-- What contracts see of a module with its analysis, and of its entries.
use Rattle.std.specs.Prelude.{◌≡◌, ℕ, List, map}
use Rattle.semantic_tree.specs.ChildIter.{shown}
use Rattle.semantic.specs.Shown as tables
use Rattle.link_model.specs.Exports.{exports, stars}
use Rattle.link_model.specs.Imports.{Import, imports}
use Rattle.link_model.specs.Leads.{Ties, ties_of}
use Rattle.link_model.specs.Module.{Analysed}
use Rattle.module_entries.specs.Views.{shown_import, shown_export}
use Rattle.module_entries.specs.declared.entries.ModuleEntries.{ModuleEntries}
use Rattle.module_linker.specs.declared.analysed_module.AnalysedModule.{AnalysedModule}

abbrev pub analysed_in : AnalysedModule → Analysed
analysed_in a = record { name = a.module.now.name; program = a.module.now.program; analysis = tables.shown a.scoping.now a.tables.now }

-- what is known of the nodes of the module
abbrev pub ties_in : AnalysedModule → Ties
ties_in a = ties_of (analysed_in a).analysis

-- these stand in the tree of the module
pub record AreEntriesOf (x : Analysed) (e : ModuleEntries) : Type 0 where
  pub imports : map shown_import e.imports.items ≡ imports x
  pub exports : map shown_export e.exports.items ≡ exports x
  pub stars : map shown e.stars.items ≡ stars x

-- the nodes of imports
abbrev pub import_nodes : List Import → List ℕ
import_nodes is = map (λ (i : Import). i.node) is
