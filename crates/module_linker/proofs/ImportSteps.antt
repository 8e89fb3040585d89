-- Where imports lead, one after the other.
use Rattle.std.proofs.Common.{◌≡◌, ◌<◌, ◌≤◌, ℕ, ◌+◌, ◌==◌, List, [], ◌∷◌, ◌++◌, Bool, true, false, cond, Option, Some, None, refl, sym, ap, subst, ◌∙◌, length, map, drop, get_or, nat_eq}
use Rattle.std.specs.Map.{lookup}
use Rattle.std.proofs.lemmas.Bool.Decides.{Decides-eqb, same_from_decides}
use Rattle.std.proofs.lemmas.List.{drop_more}
use Rattle.semantic_syntax.specs.Tables.{Name}
use Rattle.semantic_model.specs.TablesOf.{is_symbol}
use Rattle.link_model.specs.Imports.{Import}
use Rattle.link_model.specs.Leads.{LinkEnd, Ties, import_end, import_binding, symbol_of_name}
use Rattle.link_search.specs.declared.target.Target.{Target}
use Rattle.link_targets.specs.Denoted.{denoted, AreDenoted, Grows}
use Rattle.link_targets.proofs.Growth.{denoted_stays, grows_on, grows_same}
use Rattle.module_entries.specs.Views.{shown_import}
use Rattle.module_entries.specs.declared.import.ImportEntry.{ImportEntry}
use Rattle.module_linker.specs.ImportsLead.{ImportStands, ImportsLead, with_bound}
use Rattle.module_entries.proofs.Continuing.{Continues, continues_with, continues_all, nothing_left}

same_either_way : (a b : ℕ) → nat_eq a b ≡ (b == a)
same_either_way a b = same_from_decides {P = a ≡ b} (a == b) (b == a) (Decides-eqb a b) ((λ e. sym ((Decides-eqb b a).0 e)), (λ e. (Decides-eqb b a).1 (sym e)))

-- the targets stand for where these imports lead
abbrev pub TargetsStand : (names texts : List Name) → List ImportEntry → List Target → Type 0
TargetsStand names texts es ts = AreDenoted texts ts (map (import_end names) (map shown_import es))

-- and these for where those lead that bind symbols
abbrev pub BoundStand : (names texts : List Name) → Ties → List ImportEntry → List (ℕ × Target) → Type 0
BoundStand names texts t es bound = ImportsLead names texts t (map shown_import es) (λ s. lookup (nat_eq s) bound)

-- ---- what stands goes on to stand

stand_stays : (names old new : List Name) → Grows old new → (o : Option Target) (i : Option Import) → ImportStands names old o i → ImportStands names new o i
stand_stays names old new grows None None h = tt
stand_stays names old new grows None (Some i) h = absurd h
stand_stays names old new grows (Some t) None h = absurd h
stand_stays names old new grows (Some t) (Some i) h = denoted_stays old new grows t (import_end names i) h

pub leads_stay : (names old new : List Name) (t : Ties) (is : List Import) (imported : ℕ → Option Target) → Grows old new → ImportsLead names old t is imported → ImportsLead names new t is imported
leads_stay names old new t is imported grows h s = stand_stays names old new grows (imported s) (import_binding t s is) (h s)

pub leads_by : (names texts : List Name) (t : Ties) (is : List Import) (f g : ℕ → Option Target) → ((s : ℕ) → g s ≡ f s) → ImportsLead names texts t is f → ImportsLead names texts t is g
leads_by names texts t is f g same h s = subst (λ o. ImportStands names texts o (import_binding t s is)) (sym (same s)) (h s)

-- ---- one more import

next_import : (all : List ImportEntry) (i : ℕ) (e d : ImportEntry) → i < length all → e ≡ get_or all i d → map shown_import (drop i all) ≡ shown_import e ∷ map shown_import (drop (i + 1) all)
next_import all i e d within is = ap (map shown_import) (drop_more all i d within) ∙ ap (λ x. shown_import x ∷ map shown_import (drop (i + 1) all)) (sym is)

module _ (names : List Name) (all : List ImportEntry) (i : ℕ) (e d : ImportEntry) (within : i < length all) (is : e ≡ get_or all i d) (old mid : List Name) (grown : Grows old mid) (t : Target) (stands : denoted mid t ≡ Some (import_end names (shown_import e))) where
  pub targets_more : (done new : List Target) → new ≡ done ++ t ∷ []
      → ((later : List Name) → Grows old later → Continues (TargetsStand names later (drop i all)) (TargetsStand names later all) done)
      → (later : List Name) → Grows mid later → Continues (TargetsStand names later (drop (i + 1) all)) (TargetsStand names later all) new
  targets_more done new pushed goes later grows =
      continues_with (TargetsStand names later (drop i all)) (TargetsStand names later (drop (i + 1) all)) (TargetsStand names later all) done new (t ∷ []) pushed
      (λ rest h. subst (λ xs. AreDenoted later (t ∷ rest) (map (import_end names) xs)) (sym (next_import all i e d within is)) (denoted_stays mid later grows t (import_end names (shown_import e)) stands, h))
      (goes later (grows_on old mid later grown grows))

  module _ (ties : Ties) where
    -- an import that binds no symbol
    none_bound : (later : List Name) (rest : List (ℕ × Target)) → symbol_of_name ties (shown_import e).local ≡ None → BoundStand names later ties (drop (i + 1) all) rest → BoundStand names later ties (drop i all) rest
    none_bound later rest none h s =
        subst (λ xs. ImportStands names later (lookup (nat_eq s) rest) (import_binding ties s xs)) (sym (next_import all i e d within is))
        (subst (λ o. ImportStands names later (lookup (nat_eq s) rest) (cond (is_symbol s o) (Some (shown_import e)) (import_binding ties s (map shown_import (drop (i + 1) all))))) (sym none) (h s))

    -- and one that binds one
    one_bound : (later : List Name) → Grows mid later → (r : ℕ) (rest : List (ℕ × Target)) → symbol_of_name ties (shown_import e).local ≡ Some r → BoundStand names later ties (drop (i + 1) all) rest → BoundStand names later ties (drop i all) ((r, t) ∷ rest)
    one_bound later grows r rest some h s =
        subst (λ xs. ImportStands names later (lookup (nat_eq s) ((r, t) ∷ rest)) (import_binding ties s xs)) (sym (next_import all i e d within is))
        (subst (λ o. ImportStands names later (lookup (nat_eq s) ((r, t) ∷ rest)) (cond (is_symbol s o) (Some (shown_import e)) (import_binding ties s (map shown_import (drop (i + 1) all))))) (sym some)
        (go (nat_eq s r) (r == s) (same_either_way s r)))
      where
        here : ImportStands names later (Some t) (Some (shown_import e))
        here = denoted_stays mid later grows t (import_end names (shown_import e)) stands

        go : (b c : Bool) → b ≡ c → ImportStands names later (cond b (Some t) (lookup (nat_eq s) rest)) (cond c (Some (shown_import e)) (import_binding ties s (map shown_import (drop (i + 1) all))))
        go true true same = here
        go false false same = h s
        go true false same = absurd cc
        go false true same = absurd cc

    pub bound_more : (done new : List (ℕ × Target)) → new ≡ with_bound done (symbol_of_name ties (shown_import e).local) t
        → ((later : List Name) → Grows old later → Continues (BoundStand names later ties (drop i all)) (BoundStand names later ties all) done)
        → (later : List Name) → Grows mid later → Continues (BoundStand names later ties (drop (i + 1) all)) (BoundStand names later ties all) new
    bound_more done new pushed goes later grows = go (symbol_of_name ties (shown_import e).local) refl pushed
      where
        before : Continues (BoundStand names later ties (drop i all)) (BoundStand names later ties all) done
        before = goes later (grows_on old mid later grown grows)

        go : (o : Option ℕ) → symbol_of_name ties (shown_import e).local ≡ o → new ≡ with_bound done o t → Continues (BoundStand names later ties (drop (i + 1) all)) (BoundStand names later ties all) new
        go None none same = λ rest h. subst (λ xs. BoundStand names later ties all (xs ++ rest)) (sym same) (before rest (none_bound later rest none h))
        go (Some r) some same =
            continues_with (BoundStand names later ties (drop i all)) (BoundStand names later ties (drop (i + 1) all)) (BoundStand names later ties all) done new ((r, t) ∷ []) same
            (λ rest h. one_bound later grows r rest some h) before

-- ---- all imports

pub targets_all : (names texts : List Name) (all : List ImportEntry) (i : ℕ) (done : List Target) → length all ≤ i
    → ((later : List Name) → Grows texts later → Continues (TargetsStand names later (drop i all)) (TargetsStand names later all) done) → TargetsStand names texts all done
targets_all names texts all i done past goes =
    continues_all (TargetsStand names texts (drop i all)) (TargetsStand names texts all) done
    (subst (λ es. TargetsStand names texts es []) (sym (nothing_left all i past)) tt) (goes texts (grows_same texts))

pub bound_all : (names texts : List Name) (ties : Ties) (all : List ImportEntry) (i : ℕ) (done : List (ℕ × Target)) → length all ≤ i
    → ((later : List Name) → Grows texts later → Continues (BoundStand names later ties (drop i all)) (BoundStand names later ties all) done) → BoundStand names texts ties all done
bound_all names texts ties all i done past goes =
    continues_all (BoundStand names texts ties (drop i all)) (BoundStand names texts ties all) done
    (subst (λ es. BoundStand names texts ties es []) (sym (nothing_left all i past)) (λ s. tt)) (goes texts (grows_same texts))
