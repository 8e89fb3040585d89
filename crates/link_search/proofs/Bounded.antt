-- The numbers in rows of pairs have rows.
use Rattle.std.proofs.Common.{◌≡◌, ◌<◌, ◌⊎◌, inl, inr, ℕ, zero, suc, List, [], ◌∷◌, refl, sym, subst, ◌∙◌, slice_get, Some, Vec, length, arith, All}
use Rattle.std.specs.declared.alloc.Global.{Global}
use Rattle.std.proofs.lemmas.List.{length-map}
use Rattle.std.proofs.lemmas.List.Elements.{All-nil, All-cons}
use Rattle.reachability.specs.Rows.{row, lists, AreWithin}
use Rattle.reachability.proofs.Within.{within_by_rows}
use Rattle.link_search.specs.Numbering.{Pair, AreNumbersOf}
use Rattle.link_search.specs.Graph.{AreRowsOf}
use Rattle.link_search.proofs.Graphs.{there, inside}

numbers_below : (keys : List Pair) (is : List ℕ) (ps : List Pair) → AreNumbersOf keys is ps → All (λ i. i < length keys) is
numbers_below keys [] ps h = All-nil (λ i. i < length keys)
numbers_below keys (i ∷ is) [] h = absurd h
numbers_below keys (i ∷ is) (p ∷ ps) h = All-cons (λ j. j < length keys) i is (inside keys i p h.0) (numbers_below keys is ps h.1)

row_there : (rows : List (List ℕ)) (a : ℕ) → (a < length rows) ⊎ (row rows a ≡ [])
row_there [] a = inr refl
row_there (r ∷ rows) zero = inl (omega arith)
row_there (r ∷ rows) (suc a) = elim (row_there rows a) [ inl h ↦ inl (omega (arith, h)) | inr e ↦ inr e ]

pub rows_within : (leads : Pair → List Pair) (keys : List Pair) (rows : List (List ℕ)) → AreRowsOf leads keys rows → AreWithin (length keys) rows
rows_within leads keys rows r = within_by_rows (length keys) rows (λ a. go a (row_there rows a))
  where
    go : (a : ℕ) → (a < length rows) ⊎ (row rows a ≡ []) → All (λ b. b < length keys) (row rows a)
    go a (inl h) = let p : (q : Pair) × (slice_get keys a ≡ Some q) = there keys a (subst (λ n. a < n) r.many h) in numbers_below keys (row rows a) (leads p.0) (r.each a p.0 p.1)
    go a (inr e) = subst (All (λ b. b < length keys)) (sym e) (All-nil (λ b. b < length keys))

pub all_within : (leads : Pair → List Pair) (keys : List Pair) (vs : List (Vec ℕ Global)) → AreRowsOf leads keys (lists vs) → AreWithin (length vs) (lists vs)
all_within leads keys vs r =
    subst (λ n. AreWithin n (lists vs)) (sym r.many ∙ length-map vs (λ v. v.items)) (rows_within leads keys (lists vs) r)
