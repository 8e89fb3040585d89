-- The elements that a name means are places of the elements.
use Rattle.std.proofs.Common.{ℕ, zero, suc, ◌+◌, ◌<◌, ◌≤◌, List, [], ◌∷◌, Bool, true, false, cond, length, take, arith}
use Rattle.std.specs.List.{AllByRecursion}
use Rattle.semantic_syntax.specs.Tables.{Name}
use Rattle.semantic_model.specs.Element.{Element, is_named, stands_alone, matches_from, element_ids}

matches_within : (name : Name) (is_private : Bool) (n m : ℕ) (es : List Element) → n + length es ≤ m → AllByRecursion (λ i. i < m) (matches_from n name is_private es)
matches_within name is_private n m [] fits = tt
matches_within name is_private n m (e ∷ es) fits = by (is_named name is_private e) (stands_alone e) (matches_within name is_private (n + 1) m es (omega arith))
  where
    here : n < m
    here = omega arith

    by : (named last : Bool) → AllByRecursion (λ i. i < m) (matches_from (n + 1) name is_private es)
        → AllByRecursion (λ i. i < m) (cond named (n ∷ cond last [] (matches_from (n + 1) name is_private es)) (matches_from (n + 1) name is_private es))
    by false last later = later
    by true true later = (here, tt)
    by true false later = (here, later)

take_within : (m k : ℕ) (ids : List ℕ) → AllByRecursion (λ i. i < m) ids → AllByRecursion (λ i. i < m) (take k ids)
take_within m zero [] h = tt
take_within m zero (i ∷ ids) h = tt
take_within m (suc k) [] h = tt
take_within m (suc k) (i ∷ ids) h = (h.0, take_within m k ids h.1)

pub ids_within : (name : Name) (is_private : Bool) (es : List Element) → AllByRecursion (λ i. i < length es) (element_ids es name is_private)
ids_within name is_private es = take_within (length es) 2 (matches_from 0 name is_private es) (matches_within name is_private 0 (length es) es (omega arith))
