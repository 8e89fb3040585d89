-- Where the imports and exports of modules lead, one module after the other.
use Rattle.std.proofs.Common.{◌≡◌, ◌<◌, ◌≤◌, ℕ, ◌+◌, List, [], ◌∷◌, ◌++◌, Option, refl, sym, ap, subst, ◌∙◌, length, map, drop, get_or, append_assoc, append-nil}
use Rattle.std.proofs.lemmas.List.{drop_more}
use Rattle.semantic_syntax.specs.Tables.{Name}
use Rattle.module_set.specs.declared.modules.Module.{Module}
use Rattle.link_model.specs.Exports.{Export}
use Rattle.link_model.specs.Imports.{Import, imports}
use Rattle.link_model.specs.Leads.{LinkEnd, Ties, import_end, exported_ends}
use Rattle.link_model.specs.Module.{Analysed, analysed, all_analysed}
use Rattle.link_model.specs.Outcome.{ImportIn, imports_from, all_imports}
use Rattle.link_search.specs.Exports.{if_any}
use Rattle.link_search.specs.declared.exports.ModuleExports.{ModuleExports}
use Rattle.link_search.specs.declared.target.Target.{Target}
use Rattle.link_targets.specs.Denoted.{AreDenoted, Grows}
use Rattle.link_targets.specs.Described.{IsExport, AreExports, IsModuleExports, AreModuleExports}
use Rattle.link_targets.proofs.Growth.{all_stay, grows_on, grows_same}
use Rattle.module_linker.specs.AnalysedIn.{import_nodes}
use Rattle.module_entries.proofs.Continuing.{Continues, continues_with, continues_all, nothing_left}
use Rattle.module_linker.specs.SetTold.{places_in, import_place, end_of_import}
use Rattle.module_linker.specs.declared.set_targets.ImportPlace.{ImportPlace}

-- ---- what stands goes on to stand

exports_stay : (names old new : List Name) → Grows old new → (m : ℕ) (t : Ties) (is : List Import) (xs : List (ℕ × Option Target)) (es : List Export) → AreExports names old m t is xs es → AreExports names new m t is xs es
exports_stay names old new grows m t is [] [] h = tt
exports_stay names old new grows m t is [] (e ∷ es) h = absurd h
exports_stay names old new grows m t is (x ∷ xs) [] h = absurd h
exports_stay names old new grows m t is (x ∷ xs) (e ∷ es) h = (here, exports_stay names old new grows m t is xs es h.1)
  where
    here : IsExport names new m t is x e
    here = record {
      name = grows.extends x.0 e.name h.0.name;
      stands = all_stay old new grows (if_any x.1) (exported_ends names m t is e.what) h.0.stands;
    }

module_stays : (names old new : List Name) → Grows old new → (m : ℕ) (x : Analysed) (e : ModuleExports) → IsModuleExports names old m x e → IsModuleExports names new m x e
module_stays names old new grows m x e h = record {
  targets = h.targets;
  stand = exports_stay names old new grows m _ _ h.targets _ h.stand;
  firsts = h.firsts;
  stars = h.stars;
}

-- ---- one more module

-- the exports of the modules from a number on
abbrev pub ExportsLeft : (names texts : List Name) → ℕ → List Module → List ModuleExports → Type 0
ExportsLeft names texts n ms es = AreModuleExports names texts n (all_analysed ms) es

-- the targets of their imports
abbrev pub TargetsLeft : (names texts : List Name) → ℕ → List Module → List Target → Type 0
TargetsLeft names texts n ms ts = AreDenoted texts ts (map (end_of_import names) (imports_from n (all_analysed ms)))

-- and where these stand
abbrev pub places_left : ℕ → List Module → List ImportPlace
places_left n ms = map import_place (imports_from n (all_analysed ms))

next_module : (all : List Module) (i : ℕ) (m d : Module) → i < length all → m ≡ get_or all i d → drop i all ≡ m ∷ drop (i + 1) all
next_module all i m d within here = drop_more all i d within ∙ ap (λ (x : Module). x ∷ drop (i + 1) all) (sym here)

denoted_append : (texts : List Name) (ts : List Target) (es : List LinkEnd) (us : List Target) (fs : List LinkEnd) → AreDenoted texts ts es → AreDenoted texts us fs → AreDenoted texts (ts ++ us) (es ++ fs)
denoted_append texts [] [] us fs h k = k
denoted_append texts [] (e ∷ es) us fs h k = absurd h
denoted_append texts (t ∷ ts) [] us fs h k = absurd h
denoted_append texts (t ∷ ts) (e ∷ es) us fs h k = (h.0, denoted_append texts ts es us fs h.1 k)

ends_split : (names : List Name) (n : ℕ) (is : List Import) (more : List ImportIn) → map (end_of_import names) (map (λ i. record { number = n; import = i }) is ++ more) ≡ map (import_end names) is ++ map (end_of_import names) more
ends_split names n [] more = refl
ends_split names n (i ∷ is) more = ap (λ es. import_end names i ∷ es) (ends_split names n is more)

places_split : (n : ℕ) (is : List Import) (more : List ImportIn) → map import_place (map (λ i. record { number = n; import = i }) is ++ more) ≡ places_in n (import_nodes is) ++ map import_place more
places_split n [] more = refl
places_split n (i ∷ is) more = ap (λ ps. import_place (record { number = n; import = i }) ∷ ps) (places_split n is more)

module _ (names : List Name) (all : List Module) (i : ℕ) (m d : Module) (within : i < length all) (here : m ≡ get_or all i d) (old mid : List Name) (grown : Grows old mid) where
  pub exports_more : (e : ModuleExports) → IsModuleExports names mid i (analysed m) e → (done new : List ModuleExports) → new ≡ done ++ e ∷ []
      → ((later : List Name) → Grows old later → Continues (ExportsLeft names later i (drop i all)) (ExportsLeft names later 0 all) done)
      → (later : List Name) → Grows mid later → Continues (ExportsLeft names later (i + 1) (drop (i + 1) all)) (ExportsLeft names later 0 all) new
  exports_more e told done new pushed goes later grows =
      continues_with (ExportsLeft names later i (drop i all)) (ExportsLeft names later (i + 1) (drop (i + 1) all)) (ExportsLeft names later 0 all) done new (e ∷ []) pushed
      (λ rest h. subst (λ ms. ExportsLeft names later i ms (e ∷ rest)) (sym (next_module all i m d within here)) (module_stays names mid later grows i (analysed m) e told, h))
      (goes later (grows_on old mid later grown grows))

  pub targets_more : (ts : List Target) → AreDenoted mid ts (map (import_end names) (imports (analysed m))) → (done new : List Target) → new ≡ done ++ ts
      → ((later : List Name) → Grows old later → Continues (TargetsLeft names later i (drop i all)) (TargetsLeft names later 0 all) done)
      → (later : List Name) → Grows mid later → Continues (TargetsLeft names later (i + 1) (drop (i + 1) all)) (TargetsLeft names later 0 all) new
  targets_more ts told done new pushed goes later grows =
      continues_with (TargetsLeft names later i (drop i all)) (TargetsLeft names later (i + 1) (drop (i + 1) all)) (TargetsLeft names later 0 all) done new ts pushed
      (λ rest h. subst (λ ms. TargetsLeft names later i ms (ts ++ rest)) (sym (next_module all i m d within here))
      (subst (AreDenoted later (ts ++ rest)) (sym (ends_split names i (imports (analysed m)) (imports_from (i + 1) (all_analysed (drop (i + 1) all)))))
      (denoted_append later ts (map (import_end names) (imports (analysed m))) rest (map (end_of_import names) (imports_from (i + 1) (all_analysed (drop (i + 1) all)))) (all_stay mid later grows ts (map (import_end names) (imports (analysed m))) told) h)))
      (goes later (grows_on old mid later grown grows))

pub places_more : (all : List Module) (i : ℕ) (m d : Module) → i < length all → m ≡ get_or all i d → (done new : List ImportPlace) (nodes : List ℕ) → nodes ≡ import_nodes (imports (analysed m)) → new ≡ done ++ places_in i nodes
    → done ++ places_left i (drop i all) ≡ places_left 0 all → new ++ places_left (i + 1) (drop (i + 1) all) ≡ places_left 0 all
places_more all i m d within here done new nodes told pushed h =
    let later : List ImportPlace = places_left (i + 1) (drop (i + 1) all) in
    let split : places_left i (drop i all) ≡ places_in i nodes ++ later =
    ap (places_left i) (next_module all i m d within here) ∙ places_split i (imports (analysed m)) (imports_from (i + 1) (all_analysed (drop (i + 1) all))) ∙ ap (λ ns. places_in i ns ++ later) (sym told) in
    ap (λ ps. ps ++ later) pushed ∙ append_assoc done (places_in i nodes) later ∙ ap (λ ps. done ++ ps) (sym split) ∙ h

-- ---- all modules

module _ (names texts : List Name) (all : List Module) (i : ℕ) (past : length all ≤ i) where
  pub exports_all : (done : List ModuleExports) → ((later : List Name) → Grows texts later → Continues (ExportsLeft names later i (drop i all)) (ExportsLeft names later 0 all) done) → ExportsLeft names texts 0 all done
  exports_all done goes =
      continues_all (ExportsLeft names texts i (drop i all)) (ExportsLeft names texts 0 all) done
      (subst (λ ms. ExportsLeft names texts i ms []) (sym (nothing_left all i past)) tt) (goes texts (grows_same texts))

  pub targets_all : (done : List Target) → ((later : List Name) → Grows texts later → Continues (TargetsLeft names later i (drop i all)) (TargetsLeft names later 0 all) done) → TargetsLeft names texts 0 all done
  targets_all done goes =
      continues_all (TargetsLeft names texts i (drop i all)) (TargetsLeft names texts 0 all) done
      (subst (λ ms. TargetsLeft names texts i ms []) (sym (nothing_left all i past)) tt) (goes texts (grows_same texts))

pub places_all : (all : List Module) (i : ℕ) → length all ≤ i → (done : List ImportPlace) → done ++ places_left i (drop i all) ≡ places_left 0 all → done ≡ places_left 0 all
places_all all i past done h = sym (append-nil done) ∙ ap (λ ms. done ++ places_left i ms) (sym (nothing_left all i past)) ∙ h
