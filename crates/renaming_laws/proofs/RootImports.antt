-- Roots that bind imports bind them alike.
use Rattle.std.proofs.Common.{◌≡◌, ◌↔◌, ℕ, suc, ◌+◌, ◌≤◌, ◌==◌, List, [], ◌∷◌, Bool, true, false, cond, Some, inl, inr, ◌⊎◌, refl, sym, ap, ◌∙◌, map, arith, eq-eqb}
use Rattle.std.specs.Prelude.{slice_get, filter}
use Rattle.std.proofs.lemmas.Bool.Decides.{eqb_tells}
use Rattle.semantic_syntax.specs.Tables.{Symbol, Bindings}
use Rattle.semantic_tree.specs.Tree.{Tree}
use Rattle.semantic_model.specs.Binding.{Binding, bound_by}
use Rattle.semantic_model.specs.Entries.{Among, times}
use Rattle.semantic_model.specs.Event.{events}
use Rattle.semantic_model.specs.Fold.{start}
use Rattle.semantic_model.specs.Hoist.{run}
use Rattle.semantic_model.specs.Step.{steps}
use Rattle.semantic_model.specs.TablesOf.{tables_of}
use Rattle.semantic_model.proofs.bindings.Owned.{kept_program}
use Rattle.semantic_model.proofs.bindings.Owners.{bound_times}
use Rattle.semantic_model.proofs.fold.Orders.{HasForm}
use Rattle.check_model.specs.Exports.{is_import_value}
use Rattle.renaming_laws.specs.LeavesRules.{asks_of_imports}
use Rattle.renaming_laws.proofs.SeenSymbols.{BoundAlike}

-- the symbols that the root scope binds
abbrev pub symbols_at_top : Tree → List ℕ
symbols_at_top p = map (λ b. b.1) (bound_by (run start (events (steps p))).bindings 0)

-- where a rule asks for imports, the root binds in both programs the same symbols that are imports and values
abbrev pub KeepsImports : Tree → Tree → Type 0
KeepsImports p q = asks_of_imports p.source_type ≡ true → (r : ℕ) (y : Symbol) → slice_get (tables_of p).symbols r ≡ Some y → is_import_value y.flags.bits ≡ true → Among r (symbols_at_top p) ↔ Among r (symbols_at_top q)

-- ---- a number that stands in a list once

none_there : (n : ℕ) (xs : List ℕ) → times n xs ≡ 0 → filter (λ o. o == n) xs ≡ []
none_there n [] e = refl
none_there n (x ∷ xs) e = go (x == n) e (none_there n xs)
  where
    go : (b : Bool) → cond b 1 0 + times n xs ≡ 0 → (times n xs ≡ 0 → filter (λ o. o == n) xs ≡ []) → cond b (x ∷ filter (λ o. o == n) xs) (filter (λ o. o == n) xs) ≡ []
    go true f later = absurd (omega (arith, f))
    go false f later = later (omega (arith, f))

among_once : (n : ℕ) (xs : List ℕ) → Among n xs → times n xs ≤ 1 → filter (λ o. o == n) xs ≡ n ∷ []
among_once n [] a l = absurd a
among_once n (x ∷ xs) a l = elim (eqb_tells x n) [
  | inl k ↦ (let rest : times n xs ≡ 0 = (let first : cond {A = ℕ} (x == n) 1 0 ≡ 1 = ap (λ b. cond b 1 0) k.0 in omega (arith, first, l)) in
      ap (λ b. cond b (x ∷ filter (λ o. o == n) xs) (filter (λ o. o == n) xs)) k.0 ∙ (λ i. k.1 i ∷ none_there n xs rest i))
  | inr k ↦ (let first : cond {A = ℕ} (x == n) 1 0 ≡ 0 = ap (λ b. cond b 1 0) k.0 in
      ap (λ b. cond b (x ∷ filter (λ o. o == n) xs) (filter (λ o. o == n) xs)) k.0 ∙ among_once n xs (behind a k.1) (omega (arith, first, l)))
]
  where
    behind : Among n (x ∷ xs) → (x ≡ n → ⊥) → Among n xs
    behind (inl q) other = absurd (other q)
    behind (inr q) other = q

root_times : (n : ℕ) (bs : List Binding) → times n (map (λ b. b.1) (bound_by bs 0)) ≤ bound_times n bs
root_times n [] = omega arith
root_times n (b ∷ bs) = go (b.scope == 0) (bound_by bs 0) (root_times n bs)
  where
    go : (t : Bool) (xs : Bindings) → times n (map (λ x. x.1) xs) ≤ bound_times n bs → times n (map (λ x. x.1) (cond t ((b.name, b.symbol) ∷ xs) xs)) ≤ bound_times n (b ∷ bs)
    go true xs h = omega (arith, h)
    go false xs h = omega (arith, h)

among_times : (n : ℕ) (xs : List ℕ) → Among n xs → 1 ≤ times n xs
among_times n [] a = absurd a
among_times n (x ∷ xs) (inl e) = let first : cond {A = ℕ} (x == n) 1 0 ≡ 1 = ap (λ t. cond t 1 0) (eq-eqb x n e) in omega (arith, first)
among_times n (x ∷ xs) (inr a) = omega (arith, among_times n xs a)

any_or_none : (n : ℕ) (xs : List ℕ) → Among n xs ⊎ (times n xs ≡ 0)
any_or_none n [] = inr refl
any_or_none n (x ∷ xs) = elim (eqb_tells x n) [
  | inl k ↦ inl (inl k.1)
  | inr k ↦ elim (any_or_none n xs) [ inl a ↦ inl (inr a) | inr e ↦ inr (let first : cond {A = ℕ} (x == n) 1 0 ≡ 0 = ap (λ b. cond b 1 0) k.0 in omega (arith, first, e)) ]
]

top_once : (p : Tree) → HasForm p → (n : ℕ) → times n (symbols_at_top p) ≤ 1
top_once p form n = omega (arith, root_times n (run start (events (steps p))).bindings, (kept_program p form).once n)

same_times : (p q : Tree) → HasForm p → HasForm q → (n : ℕ) → Among n (symbols_at_top p) ↔ Among n (symbols_at_top q) → filter (λ o. o == n) (symbols_at_top p) ≡ filter (λ o. o == n) (symbols_at_top q)
same_times p q form form' n w = elim (any_or_none n (symbols_at_top p)) [
  | inl a ↦ among_once n (symbols_at_top p) a (top_once p form n) ∙ sym (among_once n (symbols_at_top q) (w.0 a) (top_once q form' n))
  | inr e ↦ elim (any_or_none n (symbols_at_top q)) [
    | inl c ↦ absurd (omega (arith, e, among_times n (symbols_at_top p) (w.1 c)))
    | inr f ↦ none_there n (symbols_at_top p) e ∙ sym (none_there n (symbols_at_top q) f)
  ]
]

-- ---- both roots

alike_from : (ns ms : List ℕ) (n : ℕ) (ys : List Symbol) → ((r k : ℕ) (y : Symbol) → r ≡ n + k → slice_get ys k ≡ Some y → is_import_value y.flags.bits ≡ true → filter (λ o. o == r) ns ≡ filter (λ o. o == r) ms) → BoundAlike ns ms n ys
alike_from ns ms n [] h = tt
alike_from ns ms n (y ∷ ys) h = (λ e. h n 0 y (omega arith) refl e, alike_from ns ms (n + 1) ys (λ r k a e f g. h r (suc k) a (omega (arith, e)) f g))

pub roots_alike : (p q : Tree) → HasForm p → HasForm q → KeepsImports p q → asks_of_imports p.source_type ≡ true → BoundAlike (symbols_at_top p) (symbols_at_top q) 0 (tables_of p).symbols
roots_alike p q form form' kept asked =
    alike_from (symbols_at_top p) (symbols_at_top q) 0 (tables_of p).symbols (λ r k y e f g.
    let at : k ≡ r = omega (arith, e) in
    same_times p q form form' r (kept asked r y (ap (slice_get (tables_of p).symbols) (sym at) ∙ f) g))
