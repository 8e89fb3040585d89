-- What is told of the modules of a set.
use Rattle.std.specs.Prelude.{◌≡◌, ℕ, List, map}
use Rattle.semantic_syntax.specs.Tables.{Name}
use Rattle.module_set.specs.declared.modules.Module.{Module}
use Rattle.link_model.specs.Leads.{LinkEnd, import_end}
use Rattle.link_model.specs.Module.{all_analysed}
use Rattle.link_model.specs.Outcome.{ImportIn, all_imports}
use Rattle.link_search.specs.Ends.{AreApart}
use Rattle.link_targets.specs.Denoted.{AreDenoted}
use Rattle.link_targets.specs.Described.{AreModuleExports, AreSetExports}
use Rattle.module_entries.specs.Names.{names_of}
use Rattle.module_linker.specs.declared.described.Described.{Described}
use Rattle.module_linker.specs.declared.set_targets.ImportPlace.{ImportPlace}
use Rattle.module_linker.specs.declared.set_targets.SetTargets.{SetTargets}

-- where imports with these nodes stand
abbrev pub places_in : ℕ → List ℕ → List ImportPlace
places_in m nodes = map (λ n. record { number = m; node = n }) nodes

abbrev pub import_place : ImportIn → ImportPlace
import_place i = record { number = i.number; node = i.import.node }

-- where an import leads
abbrev pub end_of_import : List Name → ImportIn → LinkEnd
end_of_import names i = import_end names i.import

-- the targets stand for where the exports and imports of the modules lead
pub record AreSetTargets (names texts : List Name) (modules : List Module) (made : SetTargets) : Type 0 where
  pub exports : AreModuleExports names texts 0 (all_analysed modules) made.exports.items
  pub places : made.places.items ≡ map import_place (all_imports (all_analysed modules))
  pub targets : AreDenoted texts made.targets.items (map (end_of_import names) (all_imports (all_analysed modules)))

-- the modules are told in numbers of texts
pub record IsDescribed (modules : List Module) (made : Described) : Type 0 where
  pub texts : List Name
  pub apart : AreApart texts
  pub exports : AreSetExports texts (all_analysed modules) made.exports
  pub places : made.places.items ≡ map import_place (all_imports (all_analysed modules))
  pub targets : AreDenoted texts made.targets.items (map (end_of_import (names_of modules)) (all_imports (all_analysed modules)))
