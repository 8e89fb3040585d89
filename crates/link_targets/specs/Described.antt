-- What modules export, in numbers.
use Rattle.std.specs.Prelude.{◌≡◌, ℕ, ◌+◌, nat_eq, List, [], ◌∷◌, Option, Some, codes, length, slice_get}
use Rattle.std.specs.Map.{lookup}
use Rattle.indexmap.specs.IndexMap.{get}
use Rattle.semantic_syntax.specs.Tables.{Name}
use Rattle.link_model.specs.Exports.{Export, exports, stars}
use Rattle.link_model.specs.Imports.{Import, imports}
use Rattle.link_model.specs.Leads.{Ties, ties_of, exported_ends, starred}
use Rattle.link_model.specs.Module.{Analysed, module_names}
use Rattle.link_search.specs.Exports.{if_any}
use Rattle.link_search.specs.declared.exports.ModuleExports.{ModuleExports}
use Rattle.link_search.specs.declared.exports.SetExports.{SetExports}
use Rattle.link_search.specs.declared.target.Target.{Target}
use Rattle.link_targets.specs.Denoted.{AreDenoted}

-- the number is that of the name, and the target stands for where the export leads
pub record IsExport (names texts : List Name) (m : ℕ) (t : Ties) (is : List Import) (target : ℕ × Option Target) (e : Export) : Type 0 where
  pub name : slice_get texts target.0 ≡ Some e.name
  pub stands : AreDenoted texts (if_any target.1) (exported_ends names m t is e.what)

-- the exports of module m, in order
abbrev pub AreExports : (names texts : List Name) → ℕ → Ties → List Import → List (ℕ × Option Target) → List Export → Type 0
AreExports names texts m t is [] [] = Unit {0}
AreExports names texts m t is (x ∷ xs) (e ∷ es) = IsExport names texts m t is x e × AreExports names texts m t is xs es
AreExports names texts m t is _ _ = ⊥

-- the first export of each name, and the modules of the star exports
pub record IsModuleExports (names texts : List Name) (m : ℕ) (x : Analysed) (e : ModuleExports) : Type 0 where
  pub targets : List (ℕ × Option Target)
  pub stand : AreExports names texts m (ties_of x.analysis) (imports x) targets (exports x)
  pub firsts : (k : ℕ) → get nat_eq e.names k ≡ lookup (nat_eq k) targets
  pub stars : e.stars.items ≡ starred names (stars x)

-- of the modules from number m on
abbrev pub AreModuleExports : (names texts : List Name) → ℕ → List Analysed → List ModuleExports → Type 0
AreModuleExports names texts m [] [] = Unit {0}
AreModuleExports names texts m (x ∷ xs) (e ∷ es) = IsModuleExports names texts m x e × AreModuleExports names texts (m + 1) xs es
AreModuleExports names texts m _ _ = ⊥

-- the exports of a set of modules, with the numbers of its texts
pub record AreSetExports (texts : List Name) (ms : List Analysed) (s : SetExports) : Type 0 where
  pub modules : AreModuleExports (module_names ms) texts 0 ms s.modules.items
  pub many : s.names ≡ length texts
  pub default_there : slice_get texts s.default_name ≡ Some (codes "default")
