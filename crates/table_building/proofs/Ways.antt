-- Steps of a way outward through the scopes of tables.
use Rattle.std.proofs.Common.{◌≡◌, ℕ, suc, ◌-◌, ◌<◌, Bool, true, false, List, [], ◌∷◌, ◌++◌, length, Option, None, Some, map, refl, sym, ap, subst, ◌∙◌, arith, append_assoc, append-nil}
use Rattle.semantic_syntax.specs.Sets.{meets}
use Rattle.semantic_syntax.specs.Tables.{Tables}
use Rattle.semantic_syntax.specs.Source.{chain_within}
use Rattle.semantic_syntax.specs.Reading.{scope_of, parent_of, chain}
use Rattle.semantic_model.specs.Place.{OpenScope, innermost}
use Rattle.semantic_model.specs.Declaration.{passed_before, first_with, route_from}
use Rattle.semantic_model.specs.TablesOf.{numbers}
use Rattle.table_building.specs.Routes.{open_of, open_from, way_from, IsRouteOf}
use Rattle.table_building.specs.declared.route.Route.{Route}

-- the scopes that are left of a way: as many as so, from one outward
abbrev pub left_from : Tables → ℕ → ℕ → List OpenScope
left_from t n s = map (open_of t) (chain_within (parent_of t.scopes) n s)

abbrev pub has : ℕ → OpenScope → Bool
has bits s = meets s.flags bits

-- the way goes on as it would from its beginning
pub record GoesOn (t : Tables) (from bits n s : ℕ) (passed : List ℕ) : Type 0 where
  pub passes : passed ++ numbers (passed_before (has bits) (left_from t n s)) ≡ numbers (passed_before (has bits) (open_from t from))
  pub finds : first_with (has bits) (left_from t n s) ≡ first_with (has bits) (open_from t from)

pub goes_on-begin : (t : Tables) (from bits : ℕ) → GoesOn t from bits (length t.scopes) from []
goes_on-begin t from bits = record { passes = refl; finds = refl }

module _ (t : Tables) (from bits n s : ℕ) (passed : List ℕ) where
  ends_here : (o : Option OpenScope) (chain : List OpenScope) (before : List OpenScope) (route : Route) → o ≡ Some (open_of t s) → route.passed.items ≡ numbers before → route.target ≡ s
      → IsRouteOf (route_from chain before o) route
  ends_here o chain before route e p h = rw e (record { passes = p; ends = h })

  -- it ends at a scope with one of the flags
  pub goes_on-hit : GoesOn t from bits (suc n) s passed → has bits (open_of t s) ≡ true → (route : Route) → route.passed.items ≡ passed → route.target ≡ s
      → IsRouteOf (way_from t from bits) route
  unfolding chain_within
  goes_on-hit way is route p h =
      let none : numbers (passed_before (has bits) (left_from t (suc n) s)) ≡ [] = rw is refl in
      let found : first_with (has bits) (left_from t (suc n) s) ≡ Some (open_of t s) = rw is refl in
      ends_here (first_with (has bits) (open_from t from)) (open_from t from) (passed_before (has bits) (open_from t from)) route
      (sym way.finds ∙ found)
      (p ∙ sym (append-nil passed) ∙ ap (λ xs. passed ++ xs) (sym none) ∙ way.passes)
      h

  -- it goes on past another one
  pub goes_on-next : GoesOn t from bits (suc n) s passed → has bits (open_of t s) ≡ false → (p : ℕ) → (scope_of t s).parent ≡ Some p → GoesOn t from bits n p (passed ++ s ∷ [])
  unfolding chain_within
  goes_on-next way is p outer =
      let further : left_from t (suc n) s ≡ open_of t s ∷ left_from t n p = rw outer refl in
      record {
        passes =
            append_assoc passed (s ∷ []) (numbers (passed_before (has bits) (left_from t n p)))
            ∙ subst (λ ss. passed ++ numbers (passed_before (has bits) ss) ≡ numbers (passed_before (has bits) (open_from t from))
            → passed ++ (s ∷ numbers (passed_before (has bits) (left_from t n p))) ≡ numbers (passed_before (has bits) (open_from t from)))
            (sym further) (λ e. rw is at e) way.passes;
        finds =
            subst (λ ss. first_with (has bits) ss ≡ first_with (has bits) (open_from t from)
            → first_with (has bits) (left_from t n p) ≡ first_with (has bits) (open_from t from))
            (sym further) (λ e. rw is at e) way.finds;
      }

  -- past the last one nothing is found
  pub goes_on-last : GoesOn t from bits (suc n) s passed → has bits (open_of t s) ≡ false → (scope_of t s).parent ≡ None → first_with (has bits) (open_from t from) ≡ None
  unfolding chain_within
  goes_on-last way is outer =
      let none : first_with (has bits) (left_from t (suc n) s) ≡ None = rw (is, outer) refl in
      sym way.finds ∙ none

pub goes_on-out : (t : Tables) (from bits s : ℕ) (passed : List ℕ) → GoesOn t from bits 0 s passed → first_with (has bits) (open_from t from) ≡ None
unfolding chain_within
goes_on-out t from bits s passed way = sym way.finds

innermost_from : (t : Tables) (from n : ℕ) → (innermost (left_from t (suc n) from)).number ≡ from
unfolding chain_within
innermost_from t from n = refl

-- where nothing is found, the way ends at once
pub way_none : (t : Tables) (from bits : ℕ) → from < length t.scopes → first_with (has bits) (open_from t from) ≡ None
    → (route : Route) → route.passed.items ≡ [] → route.target ≡ from → IsRouteOf (way_from t from bits) route
way_none t from bits within none route p h =
    let there : length t.scopes ≡ suc (length t.scopes - 1) = omega (arith, within) in
    let inner : (innermost (open_from t from)).number ≡ from = ap (λ n. (innermost (left_from t n from)).number) there ∙ innermost_from t from (length t.scopes - 1) in
    rw none (record { passes = p; ends = h ∙ sym inner })
