-- A pass over the elements of a class.
use Rattle.std.proofs.Common.{◌≡◌, ℕ, false, zero, suc, ◌+◌, ◌<◌, List, [], ◌∷◌, ◌++◌, get_or, take, drop, length, map, sym, ap, subst, ◌∙◌, add-one, drop-cons}
use Rattle.std.specs.Prelude.{IfSome}
use Rattle.std.specs.List.{AllByRecursion}
use Rattle.std.proofs.lemmas.List.{map-append, take_more}
use Rattle.semantic_diagnostics.specs.declared.diagnostic.Diagnostic.{Diagnostic}
use Rattle.semantic_model.specs.Element.{Element}
use Rattle.class_table.specs.Seen.{element_seen}
use Rattle.class_table.specs.declared.element.Element.{Element as StoredElement}
use Rattle.check_model.specs.Elements.{clash, clash_row, element_rows}
use Rattle.check_model.specs.Search.{each_after, row_if, rows_of_some}
use Rattle.check_model.specs.Sight.{Sight}
use Rattle.check_model.specs.Surroundings.{is_typescript}
use Rattle.check_context.specs.Tells.{TellsSome, IsTelling}
use Rattle.check_context.proofs.Telling.{goes_on, stops}
use Rattle.expression_checks.specs.Predecessors.{earlier_of, and_element, predecessor_in}
use Rattle.expression_checks.specs.declared.earlier_elements.EarlierElements.{EarlierElements}
use Rattle.expression_checks.proofs.Predecessors.{predecessor_found, earlier_more, predecessor_each}

-- what is told of an element, by the elements before it
abbrev pub own_rows : Sight → EarlierElements → Element → List Diagnostic
own_rows s earlier e = rows_of_some (λ before. row_if (clash (is_typescript s) before e) (clash_row s before e)) (predecessor_in earlier e)

-- what is left to tell from a place on
abbrev pub rows_left : Sight → List StoredElement → ℕ → List Diagnostic
rows_left s els i = each_after (element_rows s) (map element_seen (take i els)) (map element_seen (drop i els))

-- what holds of all elements holds of the one that an element is compared with
module _ (P : Element → Type 0) (own : Element) where
  take_each : (els : List StoredElement) (i : ℕ) → AllByRecursion P (map element_seen els) → AllByRecursion P (map element_seen (take i els))
  take_each els zero all = tt
  take_each [] (suc i) all = tt
  take_each (e ∷ els) (suc i) all = (all.0, take_each els i all.1)

  pub before_each : (els : List StoredElement) (i : ℕ) (earlier : EarlierElements) → AllByRecursion P (map element_seen els) → earlier ≡ earlier_of (map element_seen (take i els)) → IfSome (predecessor_in earlier own) P
  before_each els i earlier all is =
      subst (λ o. IfSome o P) (sym (ap (λ (e : EarlierElements). predecessor_in e own) is ∙ predecessor_found (map element_seen (take i els)) own))
      (predecessor_each P (map element_seen (take i els)) own (take_each els i all))

-- what stands past the end of a list
abbrev pub no_element : StoredElement
no_element = record { name = record { text = record { ref_ptr = (0, 0); now = [] } }; span = record { start = 0; end = 0 }; is_private = false; is_static = false; kind = record { bits = 0 } }

module _ (s : Sight) (els : List StoredElement) (i : ℕ) (within : i < length els) (earlier : EarlierElements) (is : earlier ≡ earlier_of (map element_seen (take i els))) where
  abbrev own : StoredElement
  own = get_or els i no_element

  seen_more : map element_seen (take (i + 1) els) ≡ map element_seen (take i els) ++ element_seen own ∷ []
  seen_more = ap (map element_seen) (take_more els i no_element within) ∙ map-append element_seen (take i els) (own ∷ [])

  -- the elements before the next one
  pub earlier_goes_on : and_element earlier (element_seen own) ≡ earlier_of (map element_seen (take (i + 1) els))
  earlier_goes_on =
      ap (λ (e : EarlierElements). and_element e (element_seen own)) is
      ∙ earlier_more (map element_seen (take i els)) (element_seen own)
      ∙ ap earlier_of (sym seen_more)

  dropped : drop i els ≡ own ∷ drop (i + 1) els
  dropped = drop-cons els i no_element within ∙ (λ j. own ∷ drop (sym (add-one i) j) els)

  own_first : rows_left s els i ≡ own_rows s earlier (element_seen own) ++ rows_left s els (i + 1)
  own_first =
      ap (λ l. each_after (element_rows s) (map element_seen (take i els)) (map element_seen l)) dropped
      ∙ ap (λ l. element_rows s (map element_seen (take i els)) (element_seen own) ++ each_after (element_rows s) l (map element_seen (drop (i + 1) els))) (sym seen_more)
      ∙ ap (λ o. rows_of_some (λ before. row_if (clash (is_typescript s) before (element_seen own)) (clash_row s before (element_seen own))) o ++ rows_left s els (i + 1))
      (sym (ap (λ (e : EarlierElements). predecessor_in e (element_seen own)) is ∙ predecessor_found (map element_seen (take i els)) (element_seen own)))

  module _ (rows before mid now : List Diagnostic) (telling : IsTelling rows (rows_left s els i) before mid) where
    pub element_told : now ≡ mid ++ own_rows s earlier (element_seen own) → IsTelling rows (rows_left s els (i + 1)) before now
    element_told k = goes_on rows (own_rows s earlier (element_seen own)) (rows_left s els (i + 1)) before mid now (subst (λ l. IsTelling rows l before mid) own_first telling) k

    -- it is told of in part
    pub element_begun : TellsSome (own_rows s earlier (element_seen own)) mid now → TellsSome rows before now
    element_begun k = stops rows (own_rows s earlier (element_seen own)) (rows_left s els (i + 1)) before mid now (subst (λ l. IsTelling rows l before mid) own_first telling) k
