-- Where exports lead, one after the other.
use Rattle.std.proofs.Common.{◌≡◌, ◌<◌, ◌≤◌, ℕ, ◌+◌, List, [], ◌∷◌, ◌++◌, Option, Some, None, refl, sym, ap, subst, ◌∙◌, length, map, drop, get_or, slice_get, nat_eq}
use Rattle.std.specs.Map.{lookup}
use Rattle.std.proofs.lemmas.List.{drop_more}
use Rattle.indexmap.specs.IndexMap.{get}
use Rattle.semantic_syntax.specs.Tables.{Name}
use Rattle.semantic_tree.specs.ChildIter.{shown}
use Rattle.link_model.specs.Exports.{Export, exports, stars}
use Rattle.link_model.specs.Imports.{Import, imports}
use Rattle.link_model.specs.Leads.{Ties, exported_ends, starred}
use Rattle.link_search.specs.Exports.{if_any}
use Rattle.link_search.specs.declared.exports.ModuleExports.{ModuleExports}
use Rattle.link_search.specs.declared.target.Target.{Target}
use Rattle.link_targets.specs.Denoted.{AreDenoted, Grows}
use Rattle.link_targets.specs.Described.{IsExport, AreExports, IsModuleExports}
use Rattle.link_targets.proofs.Growth.{all_stay, grows_on, grows_same}
use Rattle.module_entries.specs.Views.{shown_export}
use Rattle.module_entries.specs.declared.export.ExportEntry.{ExportEntry}
use Rattle.module_linker.specs.AnalysedIn.{analysed_in, ties_in, AreEntriesOf}
use Rattle.module_linker.specs.ScopeOf.{imported_in, ScopeLeads}
use Rattle.module_linker.specs.declared.module_scope.ModuleScope.{ModuleScope}
use Rattle.module_entries.proofs.Continuing.{Continues, continues_with, continues_all, nothing_left}
use Rattle.module_linker.proofs.ImportSteps.{leads_stay}

pub scope_stays : (names old new : List Name) (scope : ModuleScope) → Grows old new → ScopeLeads names old scope → ScopeLeads names new scope
scope_stays names old new scope grows h = leads_stay names old new (ties_in scope.analysed.now) (imports (analysed_in scope.analysed.now)) (imported_in scope) grows h

module _ (names : List Name) (m : ℕ) (t : Ties) (is : List Import) where
  -- the targets stand for where these exports lead
  abbrev pub ExportsStand : (texts : List Name) → List ExportEntry → List (ℕ × Option Target) → Type 0
  ExportsStand texts es xs = AreExports names texts m t is xs (map shown_export es)

  next_export : (all : List ExportEntry) (i : ℕ) (e d : ExportEntry) → i < length all → e ≡ get_or all i d → map shown_export (drop i all) ≡ shown_export e ∷ map shown_export (drop (i + 1) all)
  next_export all i e d within here = ap (map shown_export) (drop_more all i d within) ∙ ap (λ x. shown_export x ∷ map shown_export (drop (i + 1) all)) (sym here)

  export_stays : (old new : List Name) → Grows old new → (x : ℕ × Option Target) (e : Export) → IsExport names old m t is x e → IsExport names new m t is x e
  export_stays old new grows x e h = record {
    name = grows.extends x.0 e.name h.name;
    stands = all_stay old new grows (if_any x.1) (exported_ends names m t is e.what) h.stands;
  }

  pub exports_more : (all : List ExportEntry) (i : ℕ) (e d : ExportEntry) → i < length all → e ≡ get_or all i d
      → (old mid : List Name) → Grows old mid → (x : ℕ × Option Target) → IsExport names mid m t is x (shown_export e)
      → (done new : List (ℕ × Option Target)) → new ≡ done ++ x ∷ []
      → ((later : List Name) → Grows old later → Continues (ExportsStand later (drop i all)) (ExportsStand later all) done)
      → (later : List Name) → Grows mid later → Continues (ExportsStand later (drop (i + 1) all)) (ExportsStand later all) new
  exports_more all i e d within here old mid first x stands done new pushed goes later grows =
      continues_with (ExportsStand later (drop i all)) (ExportsStand later (drop (i + 1) all)) (ExportsStand later all) done new (x ∷ []) pushed
      (λ rest h. subst (λ xs. AreExports names later m t is (x ∷ rest) xs) (sym (next_export all i e d within here)) (export_stays mid later grows x (shown_export e) stands, h))
      (goes later (grows_on old mid later first grows))

  pub exports_all : (texts : List Name) (all : List ExportEntry) (i : ℕ) (done : List (ℕ × Option Target)) → length all ≤ i
      → ((later : List Name) → Grows texts later → Continues (ExportsStand later (drop i all)) (ExportsStand later all) done) → ExportsStand texts all done
  exports_all texts all i done past goes =
      continues_all (ExportsStand texts (drop i all)) (ExportsStand texts all) done
      (subst (λ es. ExportsStand texts es []) (sym (nothing_left all i past)) tt) (goes texts (grows_same texts))

-- the exports of a module
pub module_told : (names texts : List Name) (scope : ModuleScope) → AreEntriesOf (analysed_in scope.analysed.now) scope.entries.now
    → (targets : List (ℕ × Option Target)) → ExportsStand names scope.analysed.now.number (ties_in scope.analysed.now) (imports (analysed_in scope.analysed.now)) texts scope.entries.now.exports.items targets
    → (made : ModuleExports) → ((k : ℕ) → get nat_eq made.names k ≡ lookup (nat_eq k) targets) → made.stars.items ≡ starred names (map shown scope.entries.now.stars.items)
    → IsModuleExports names texts scope.analysed.now.number (analysed_in scope.analysed.now) made
module_told names texts scope entries targets stand made firsts by_stars = record {
  targets = targets;
  stand = subst (λ es. AreExports names texts scope.analysed.now.number (ties_in scope.analysed.now) (imports (analysed_in scope.analysed.now)) targets es) entries.exports stand;
  firsts = firsts;
  stars = by_stars ∙ ap (starred names) entries.stars;
}
