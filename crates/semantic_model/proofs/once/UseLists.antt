-- Use lists and free lists together hold each tie as often as it stands in the order of settling.
use Rattle.std.proofs.Common.{◌≡◌, ℕ, zero, suc, ◌+◌, ◌<◌, ◌≤◌, ◌==◌, List, [], ◌∷◌, ◌++◌, Option, Some, None, Bool, true, false, cond, map, inl, inr, refl, arith}
use Rattle.std.specs.Prelude.{filter, fold, bytes_eq}
use Rattle.std.specs.List.{range_with_len}
use Rattle.std.proofs.lemmas.Bool.{ne_eqb}
use Rattle.std.proofs.lemmas.Bool.Decides.{eqb_tells}
use Rattle.semantic_syntax.specs.Tables.{Name, FreeLists}
use Rattle.semantic_model.specs.FreeNames.{add_free}
use Rattle.semantic_model.specs.Tie.{Tie, tied_symbol}
use Rattle.semantic_model.specs.TablesOf.{is_symbol, uses_of, with_tie, free_of}
use Rattle.semantic_model.proofs.once.SettledOnce.{tie_times}
use Rattle.semantic_model.proofs.once.HeadersEndOnce.{less_or}
use Rattle.semantic_model.specs.Entries.{times, times_in_all, Among}

pub times-append : (n : ℕ) (xs ys : List ℕ) → times n (xs ++ ys) ≡ times n xs + times n ys
times-append n [] ys = omega arith
times-append n (x ∷ xs) ys = omega (arith, times-append n xs ys)

-- the entries of free lists
abbrev pub entries : FreeLists → List (List ℕ)
entries free = map (λ f. f.1) free

one_more : (n : ℕ) (free : FreeLists) (x : Name) (r : ℕ) → times_in_all n (entries (add_free free x r)) ≡ times_in_all n (entries free) + cond (r == n) 1 0
one_more n [] x r = omega arith
one_more n (f ∷ fs) x r = by (bytes_eq x f.0) (one_more n fs x r)
  where
    by : (b : Bool) → times_in_all n (entries (add_free fs x r)) ≡ times_in_all n (entries fs) + cond (r == n) 1 0 → times_in_all n (entries (cond b ((f.0, f.1 ++ r ∷ []) ∷ fs) (f ∷ add_free fs x r))) ≡ times n f.1 + times_in_all n (entries fs) + cond (r == n) 1 0
    by true more = omega (arith, times-append n f.1 (r ∷ []))
    by false more = omega (arith, more)

-- how often reference n stands among the free ties
abbrev free_bit : Option ℕ → ℕ → ℕ
free_bit None k = k
free_bit (Some s) k = 0

abbrev pub free_times : ℕ → List Tie → ℕ
free_times n [] = 0
free_times n (t ∷ ts) = free_bit (tied_symbol t) (cond (t.number == n) 1 0) + free_times n ts

with_one : (n : ℕ) (free : FreeLists) (t : Tie) → times_in_all n (entries (with_tie free t)) ≡ times_in_all n (entries free) + free_bit (tied_symbol t) (cond (t.number == n) 1 0)
with_one n free t = by (tied_symbol t)
  where
    by : (o : Option ℕ) → times_in_all n (entries (elim o [ None ↦ add_free free t.reference.name t.number | Some s ↦ free ])) ≡ times_in_all n (entries free) + free_bit o (cond (t.number == n) 1 0)
    by None = one_more n free t.reference.name t.number
    by (Some s) = omega arith

free_sum : (n : ℕ) (free : FreeLists) (ts : List Tie) → times_in_all n (entries (fold with_tie free ts)) ≡ times_in_all n (entries free) + free_times n ts
free_sum n free [] = omega arith
free_sum n free (t ∷ ts) = omega (arith, free_sum n (with_tie free t) ts, with_one n free t)

pub one_use : (n : ℕ) (t : Tie) (ts : List Tie) (s : ℕ) → times n (uses_of (t ∷ ts) s) ≡ cond (is_symbol s (tied_symbol t)) (cond (t.number == n) 1 0) 0 + times n (uses_of ts s)
one_use n t ts s = by (is_symbol s (tied_symbol t))
  where
    by : (b : Bool) → times n (map (λ x. x.number) (cond b (t ∷ filter (λ x. is_symbol s (tied_symbol x)) ts) (filter (λ x. is_symbol s (tied_symbol x)) ts))) ≡ cond b (cond (t.number == n) 1 0) 0 + times n (uses_of ts s)
    by true = refl
    by false = omega arith

-- k symbols from i on: m for each that is the given one
abbrev bits : ℕ → ℕ → Option ℕ → ℕ → ℕ
bits i zero o m = 0
bits i (suc k) o m = cond (is_symbol i o) m 0 + bits (i + 1) k o m

uses_step : (n : ℕ) (t : Tie) (ts : List Tie) (i k : ℕ) → times_in_all n (map (uses_of (t ∷ ts)) (range_with_len i k)) ≡ bits i k (tied_symbol t) (cond (t.number == n) 1 0) + times_in_all n (map (uses_of ts) (range_with_len i k))
uses_step n t ts i zero = omega arith
uses_step n t ts i (suc k) = omega (arith, one_use n t ts i, uses_step n t ts (i + 1) k)

uses_none : (n i k : ℕ) → times_in_all n (map (uses_of []) (range_with_len i k)) ≡ 0
uses_none n i zero = refl
uses_none n i (suc k) = omega (arith, uses_none n (i + 1) k)

bits_none : (i k m : ℕ) → bits i k None m ≡ 0
bits_none i zero m = refl
bits_none i (suc k) m = omega (arith, bits_none (i + 1) k m)

pick : (b : Bool) (m : ℕ) → b ≡ true → ◌≡◌ {A = ℕ} (cond b m 0) m
pick b m e = rw e refl

drop_bit : (b : Bool) (m : ℕ) → b ≡ false → ◌≡◌ {A = ℕ} (cond b m 0) 0
drop_bit b m e = rw e refl

bits_before : (i k r m : ℕ) → r < i → bits i k (Some r) m ≡ 0
bits_before i zero r m h = refl
bits_before i (suc k) r m h =
    omega (arith, drop_bit (r == i) m (ne_eqb r i (λ e. absurd (omega (arith, h, e)))), bits_before (i + 1) k r m (omega (arith, h)))

bits_some : (i k r m : ℕ) → i ≤ r → r < i + k → bits i k (Some r) m ≡ m
bits_some i zero r m h l = absurd (omega (arith, h, l))
bits_some i (suc k) r m h l = elim (eqb_tells r i) [
  | inl e ↦ omega (arith, pick (r == i) m e.0, bits_before (i + 1) k r m (omega (arith, e.1)))
  | inr e ↦ omega (arith, drop_bit (r == i) m e.0, bits_some (i + 1) k r m (less i r h e.1) (omega (arith, l)))
]
  where
    less : (i r : ℕ) → i ≤ r → (r ≡ i → ⊥) → i + 1 ≤ r
    less i r h ne = elim (less_or i r) [ inl l ↦ omega (arith, l) | inr l ↦ absurd (ne (omega (arith, h, l))) ]

-- a tie's symbol is one of the first k
abbrev pub IsBelow : ℕ → Option ℕ → Type 0
IsBelow k None = Unit {0}
IsBelow k (Some s) = s < k

one_place : (k : ℕ) (o : Option ℕ) (m : ℕ) → IsBelow k o → bits 0 k o m + free_bit o m ≡ m
one_place k None m h = omega (arith, bits_none 0 k m)
one_place k (Some s) m h = omega (arith, bits_some 0 k s m (omega arith) (omega (arith, h)))

lists_sum : (n k : ℕ) (ts : List Tie) → ((t : Tie) → Among t ts → IsBelow k (tied_symbol t)) → times_in_all n (map (uses_of ts) (range_with_len 0 k)) + free_times n ts ≡ tie_times n ts
lists_sum n k [] h = omega (arith, uses_none n 0 k)
lists_sum n k (t ∷ ts) h =
    omega (arith, uses_step n t ts 0 k, one_place k (tied_symbol t) (cond (t.number == n) 1 0) (h t (inl refl)), lists_sum n k ts (λ x at. h x (inr at)))

-- use lists of k symbols and free lists together hold each tie as often as it stands in the order of settling
pub lists_hold : (n k : ℕ) (ts : List Tie) → ((t : Tie) → Among t ts → IsBelow k (tied_symbol t)) → times_in_all n (map (uses_of ts) (range_with_len 0 k)) + times_in_all n (map (λ f. f.1) (free_of ts)) ≡ tie_times n ts
lists_hold n k ts h = omega (arith, free_sum n [] ts, lists_sum n k ts h)
