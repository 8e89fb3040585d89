-- Where the imports of symbols lead, in numbers.
use Rattle.std.specs.Prelude.{◌≡◌, ℕ, List, [], ◌∷◌, ◌++◌, Option, Some, None}
use Rattle.semantic_syntax.specs.Tables.{Name}
use Rattle.link_model.specs.Imports.{Import}
use Rattle.link_model.specs.Leads.{Ties, import_end, import_binding, symbol_of_name}
use Rattle.link_search.specs.declared.target.Target.{Target}
use Rattle.link_targets.specs.Denoted.{denoted}
use Rattle.module_linker.specs.declared.import_targets.ImportTargets.{ImportTargets}

-- there is an import, and the target stands for where it leads; or there is none
abbrev pub ImportStands : (names texts : List Name) → Option Target → Option Import → Type 0
ImportStands names texts None None = Unit {0}
ImportStands names texts (Some t) (Some i) = denoted texts t ≡ Some (import_end names i)
ImportStands names texts _ _ = ⊥

-- the target of each symbol stands for where the first import leads that binds it
abbrev pub ImportsLead : (names texts : List Name) → Ties → List Import → (ℕ → Option Target) → Type 0
ImportsLead names texts t is imported = (s : ℕ) → ImportStands names texts (imported s) (import_binding t s is)

-- with the target of an import, if it binds a symbol
abbrev pub with_bound : List (ℕ × Target) → Option ℕ → Target → List (ℕ × Target)
with_bound bound None target = bound
with_bound bound (Some s) target = bound ++ (s, target) ∷ []

-- the target of an import is added
pub record AddsImport (names texts : List Name) (t : Ties) (i : Import) (old new : ImportTargets) : Type 0 where
  pub target : Target
  pub stands : denoted texts target ≡ Some (import_end names i)
  pub targets : new.targets.items ≡ old.targets.items ++ target ∷ []
  pub bound : new.bound.items ≡ with_bound old.bound.items (symbol_of_name t i.local) target
