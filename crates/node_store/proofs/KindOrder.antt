-- The kinds of a set stand in the order of kinds, each once.
use Rattle.std.proofs.Common.{◌≡◌, ℕ, ◌+◌, ◌<◌, Bool, true, false, List, [], ◌∷◌, get_or, map, refl, ap, sym, subst, arith}
use Rattle.std.specs.Prelude.{filter, cond}
use Rattle.std.specs.List.{range_with_len}
use Rattle.std.specs.List.Sorted.{IsStrictlyIncreasing}
use Rattle.std.proofs.lemmas.List.Kept.{IsStrictlyIncreasing-filter}
use Rattle.std.proofs.lemmas.List.FromFn.{length-range_with_len, get_or-range_with_len}
use Rattle.semantic_kinds.specs.declared.kind.AstType.{AstType}
use Rattle.semantic_kinds.specs.Kinds.{all_kinds, kind_number}
use Rattle.node_store.specs.declared.bitset.AstTypesBitset.{AstTypesBitset}
use Rattle.node_store.specs.KindSets.{kinds_in}

-- what is kept by a test of numbers has the numbers that are kept
numbers_kept : (p : ℕ → Bool) (ks : List AstType) → map kind_number (filter (λ k. p (kind_number k)) ks) ≡ filter p (map kind_number ks)
numbers_kept p [] = refl
numbers_kept p (k ∷ ks) =
    elim (p (kind_number k)) as (λ b. map kind_number (cond b (k ∷ filter (λ k. p (kind_number k)) ks) (filter (λ k. p (kind_number k)) ks)) ≡ cond b (kind_number k ∷ filter p (map kind_number ks)) (filter p (map kind_number ks)))
    [ true ↦ ap (λ ns. kind_number k ∷ ns) (numbers_kept p ks) | false ↦ numbers_kept p ks ]

range_rises : (a n : ℕ) → IsStrictlyIncreasing (range_with_len a n)
range_rises a n = λ k within.
    let inside : k + 1 < n = subst (λ m. k + 1 < m) (length-range_with_len a n) within in
    let here = get_or-range_with_len a n k 0 (omega arith) in
    let next = get_or-range_with_len a n (k + 1) 0 inside in
    omega (arith, here, next)

in_places : map kind_number all_kinds ≡ range_with_len 0 190
in_places = refl

pub kinds_rise : (set : AstTypesBitset) → IsStrictlyIncreasing (map kind_number (kinds_in set))
kinds_rise set =
    subst IsStrictlyIncreasing (sym (numbers_kept (λ n. get_or set.bits n false) all_kinds))
    (IsStrictlyIncreasing-filter (λ n. get_or set.bits n false) (map kind_number all_kinds) (subst IsStrictlyIncreasing (sym in_places) (range_rises 0 190)))
