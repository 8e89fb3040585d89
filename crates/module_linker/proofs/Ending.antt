-- From where imports lead to the links.
use Rattle.std.proofs.Common.{◌≡◌, ◌⊎◌, inl, inr, List, [], ◌∷◌, ◌++◌, append-nil, Some, refl, sym, ap, subst, ◌∙◌, slice_get, length, map}
use Rattle.std.proofs.lemmas.List.{length-map}
use Rattle.std.proofs.lemmas.Option.{slice_get_within}
use Rattle.semantic_syntax.specs.Tables.{Name}
use Rattle.module_set.specs.declared.modules.Module.{Module}
use Rattle.link_model.specs.Leads.{pair}
use Rattle.link_model.specs.Module.{Analysed, all_analysed, module_names}
use Rattle.link_model.specs.Outcome.{ImportIn, IsLink, AreLinksOf, AreLinks, all_imports}
use Rattle.link_search.specs.Ends.{AreApart}
use Rattle.link_search.specs.Exports.{leads_of, StaysWithin}
use Rattle.link_search.specs.Targets.{IsTargetWithin, AreTargetsWithin, AreFound}
use Rattle.link_search.specs.declared.answer.Found.{Found}
use Rattle.link_search.specs.declared.exports.SetExports.{SetExports}
use Rattle.link_search.specs.declared.target.Target.{Target}
use Rattle.link_search.specs.declared.target.Target.TheVariants as target
use Rattle.link_targets.specs.Denoted.{denoted, AreDenoted}
use Rattle.link_targets.specs.Described.{AreSetExports}
use Rattle.link_targets.specs.Followed.{Follow}
use Rattle.link_targets.proofs.Bounds.{wanted_within as end_within}
use Rattle.link_targets.proofs.Denotes.{mapped_some}
use Rattle.link_targets.proofs.Follows.{comes}
use Rattle.link_targets.proofs.Sets.{modules_many, set_follows, set_within}
use Rattle.module_linker.specs.LinksBy.{link_by, links_by}
use Rattle.link_model.specs.declared.outcome.Link.{Link}
use Rattle.module_linker.specs.SetTold.{import_place, end_of_import, IsDescribed}
use Rattle.module_linker.specs.declared.described.Described.{Described}
use Rattle.module_linker.specs.declared.set_targets.ImportPlace.{ImportPlace}

-- ---- imports lead to modules of the set, and to texts that have numbers

target_within : (names texts : List Name) (i : ImportIn) (t : Target) → denoted texts t ≡ Some (end_of_import names i) → IsTargetWithin (length names) (length texts) t
target_within names texts i (target.End t) h = tt
target_within names texts i (target.Name m k) h =
    let w : (x : Name) × (slice_get texts k ≡ Some x) × (pair m x ≡ end_of_import names i) = mapped_some (λ x. pair m x) (slice_get texts k) (end_of_import names i) h in
    (end_within names m w.0 i.import.source i.import.wanted (sym w.2), slice_get_within texts k w.0 w.1)

all_within : (names texts : List Name) (is : List ImportIn) (ts : List Target) → AreDenoted texts ts (map (end_of_import names) is) → AreTargetsWithin (length names) (length texts) ts
all_within names texts [] [] h = tt
all_within names texts [] (t ∷ ts) h = absurd h
all_within names texts (i ∷ is) [] h = absurd h
all_within names texts (i ∷ is) (t ∷ ts) h = (target_within names texts i t h.0, all_within names texts is ts h.1)

-- ---- links

links_told : (texts : List Name) (s : SetExports) (ms : List Analysed) → AreApart texts → Follow texts s ms → (is : List ImportIn) (ts : List Target) (fs : List Found)
    → AreDenoted texts ts (map (end_of_import (module_names ms)) is) → AreFound (leads_of s) ts fs → AreLinksOf ms is (links_by (map import_place is) fs)
links_told texts s ms apart follow [] [] [] h k = tt
links_told texts s ms apart follow [] [] (f ∷ fs) h k = absurd k
links_told texts s ms apart follow [] (t ∷ ts) fs h k = absurd h
links_told texts s ms apart follow (i ∷ is) [] fs h k = absurd h
links_told texts s ms apart follow (i ∷ is) (t ∷ ts) [] h k = absurd k
links_told texts s ms apart follow (i ∷ is) (t ∷ ts) (f ∷ fs) h k = (here, links_told texts s ms apart follow is ts fs h.1 k.1)
  where
    here : IsLink ms i (link_by (import_place i) f)
    here = record { number = refl; node = refl; outcome = comes texts apart s ms follow t (end_of_import (module_names ms) i) f h.0 k.0 }

-- ---- the exports of a set, and what they give

module _ (texts : List Name) (apart : AreApart texts) (modules : List Module) (s : SetExports) (are : AreSetExports texts (all_analysed modules) s) where
  pub stays : StaysWithin s
  stays p q i = set_within texts (all_analysed modules) s apart are p q i

  pub wanted_within : (is : List ImportIn) (ts : List Target) → AreDenoted texts ts (map (end_of_import (module_names (all_analysed modules))) is) → AreTargetsWithin (length s.modules.items) s.names ts
  wanted_within is ts h =
      let many : length s.modules.items ≡ length (module_names (all_analysed modules)) =
      modules_many (module_names (all_analysed modules)) texts 0 (all_analysed modules) s.modules.items are.modules ∙ sym (length-map (all_analysed modules) (λ (m : Analysed). m.name)) in
      subst (λ n. AreTargetsWithin n s.names ts) (sym many) (subst (λ n. AreTargetsWithin (length (module_names (all_analysed modules))) n ts) (sym are.many) (all_within (module_names (all_analysed modules)) texts is ts h))

  pub links_all : (ts : List Target) (fs : List Found) → AreDenoted texts ts (map (end_of_import (module_names (all_analysed modules))) (all_imports (all_analysed modules))) → AreFound (leads_of s) ts fs
      → AreLinks modules (links_by (map import_place (all_imports (all_analysed modules))) fs)
  links_all ts fs h k = links_told texts s (all_analysed modules) apart (λ t e d. set_follows texts (all_analysed modules) s apart are t e d) (all_imports (all_analysed modules)) ts fs h k

-- ---- all together

pub linked : (modules : List Module) (made : Described) (d : IsDescribed modules made) (wanted : List Target) (places : List ImportPlace) (found told : List Found) (links : List Link) → wanted ≡ made.targets.items → places ≡ made.places.items → told ≡ found
    → AreFound (leads_of made.exports) wanted found → links ≡ links_by places told → AreLinks modules links
linked modules made d wanted places found told links same_targets same_places same_found are is =
    subst (AreLinks modules) (sym (is ∙ ap (λ ps. links_by ps told) (same_places ∙ d.places) ∙ ap (links_by (map import_place (all_imports (all_analysed modules)))) same_found))
    (links_all d.texts d.apart modules made.exports d.exports made.targets.items found d.targets (subst (λ ts. AreFound (leads_of made.exports) ts found) same_targets are))

-- ---- nothing is left of places, or of what was found

no_links : (ps : List ImportPlace) → links_by ps [] ≡ []
no_links [] = refl
no_links (p ∷ ps) = refl

pub links_end : (done all : List Link) (ps : List ImportPlace) (fs : List Found) → (ps ≡ []) ⊎ (fs ≡ []) → done ++ links_by ps fs ≡ all → done ≡ all
links_end done all ps fs (inl e) h = sym (append-nil done) ∙ ap (λ xs. done ++ links_by xs fs) (sym e) ∙ h
links_end done all ps fs (inr e) h = sym (append-nil done) ∙ ap (λ ls. done ++ ls) (sym (no_links ps)) ∙ ap (λ xs. done ++ links_by ps xs) (sym e) ∙ h
