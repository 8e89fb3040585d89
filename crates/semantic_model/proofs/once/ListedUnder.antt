-- A tied reference stands in the list of its symbol, a free one in the list of its name.
use Rattle.std.proofs.Common.{◌≡◌, ℕ, zero, suc, ◌+◌, ◌<◌, ◌==◌, List, [], ◌∷◌, ◌++◌, map, Option, Some, None, Bool, true, false, cond, ◌⊎◌, inl, inr, refl, sym, ap, ◌∙◌, arith, bytes_eq}
use Rattle.std.specs.Prelude.{slice_get, fold}
use Rattle.std.specs.List.{range_with_len}
use Rattle.std.proofs.lemmas.Slice.Eq.{bytes_eq-Decides}
use Rattle.std.proofs.lemmas.Bool.Decides.{eqb_tells}
use Rattle.semantic_syntax.specs.Tables.{Name, FreeLists}
use Rattle.semantic_model.specs.Entries.{Among, times}
use Rattle.semantic_model.specs.Reference.{Occurrence}
use Rattle.semantic_model.specs.Event.{Event}
use Rattle.semantic_model.specs.Fold.{State}
use Rattle.semantic_model.specs.FreeNames.{add_free, free_references}
use Rattle.semantic_syntax.specs.Lookup.{lookup}
use Rattle.semantic_model.specs.Tie.{Tie, ties, answers, tied_symbol}
use Rattle.semantic_model.specs.TablesOf.{is_symbol, uses_of, with_tie, free_of}
use Rattle.semantic_model.proofs.once.SettledOnce.{tie_times}
use Rattle.semantic_model.proofs.once.UseLists.{one_use, times-append}

pub name_tells : (x y : Name) → ((bytes_eq x y ≡ true) × (x ≡ y)) ⊎ ((bytes_eq x y ≡ false) × (x ≡ y → ⊥))
name_tells x y = go (bytes_eq x y) refl
  where
    go : (b : Bool) → bytes_eq x y ≡ b → ((bytes_eq x y ≡ true) × (x ≡ y)) ⊎ ((bytes_eq x y ≡ false) × (x ≡ y → ⊥))
    go true e = inl (e, (bytes_eq-Decides x y).0 e)
    go false e = inr (e, λ h. let k : bytes_eq x y ≡ true = (bytes_eq-Decides x y).1 h in cc)

-- the ties of reference n in the list all have the symbol
abbrev pub AllTied : ℕ → ℕ → List Tie → Type 0
AllTied n s ts = (t : Tie) → Among t ts → t.number ≡ n → tied_symbol t ≡ Some s

-- or all are free, under the name
abbrev pub AllFree : ℕ → Name → List Tie → Type 0
AllFree n x ts = (t : Tie) → Among t ts → t.number ≡ n → (tied_symbol t ≡ None) × (t.reference.name ≡ x)

pub uses_times : (n s : ℕ) (ts : List Tie) → AllTied n s ts → times n (uses_of ts s) ≡ tie_times n ts
uses_times n s [] h = refl
uses_times n s (t ∷ ts) h = omega (arith, one_use n t ts s, here (eqb_tells t.number n), uses_times n s ts (λ x a. h x (inr a)))
  where
    here : ((t.number == n ≡ true) × (t.number ≡ n)) ⊎ ((t.number == n ≡ false) × (t.number ≡ n → ⊥)) → ◌≡◌ {A = ℕ} (cond (is_symbol s (tied_symbol t)) (cond (t.number == n) 1 0) 0) (cond (t.number == n) 1 0)
    here (inl e) = let q : tied_symbol t ≡ Some s = h t (inl refl) e.1 in elim (eqb_tells s s) [ inl k ↦ rw (q, e.0, k.0) refl | inr k ↦ absurd (k.1 refl) ]
    here (inr e) = rw e.0 (elim (is_symbol s (tied_symbol t)) as (λ b. ◌≡◌ {A = ℕ} (cond b 0 0) 0) [ true ↦ refl | false ↦ refl ])

free_added : (free : FreeLists) (y x : Name) (r : ℕ) → free_references (add_free free y r) x ≡ cond (bytes_eq y x) (free_references free x ++ r ∷ []) (free_references free x)
free_added [] y x r = refl
free_added (f ∷ fs) y x r = grind (arith, free_added fs y x r, name_tells y f.0, name_tells f.0 x, name_tells y x)

one_free : (n : ℕ) (free : FreeLists) (y x : Name) (r : ℕ) → (r ≡ n → y ≡ x) → times n (free_references (add_free free y r) x) ≡ times n (free_references free x) + cond (r == n) 1 0
one_free n free y x r h = rw (free_added free y x r) (go (name_tells y x) (eqb_tells r n))
  where
    go : ((bytes_eq y x ≡ true) × (y ≡ x)) ⊎ ((bytes_eq y x ≡ false) × (y ≡ x → ⊥)) → ((r == n ≡ true) × (r ≡ n)) ⊎ ((r == n ≡ false) × (r ≡ n → ⊥)) → times n (cond (bytes_eq y x) (free_references free x ++ r ∷ []) (free_references free x)) ≡ times n (free_references free x) + cond (r == n) 1 0
    go (inl e) k = rw e.0 (omega (arith, times-append n (free_references free x) (r ∷ [])))
    go (inr e) (inl k) = absurd (e.1 (h k.1))
    go (inr e) (inr k) = rw (e.0, k.0) (omega arith)

free_step : (n : ℕ) (x : Name) (free : FreeLists) (t : Tie) → (t.number ≡ n → (tied_symbol t ≡ None) × (t.reference.name ≡ x)) → times n (free_references (with_tie free t) x) ≡ times n (free_references free x) + cond (t.number == n) 1 0
free_step n x free t h = go (tied_symbol t) refl
  where
    go : (o : Option ℕ) → tied_symbol t ≡ o → times n (free_references (elim o [ None ↦ add_free free t.reference.name t.number | Some s ↦ free ]) x) ≡ times n (free_references free x) + cond (t.number == n) 1 0
    go None e = one_free n free t.reference.name x t.number (λ k. (h k).1)
    go (Some s) e = elim (eqb_tells t.number n) [
      | inl k ↦ (let q : Some s ≡ None = sym e ∙ (h k.1).0 in absurd cc)
      | inr k ↦ rw k.0 (omega arith)
    ]

free_sum : (n : ℕ) (x : Name) (free : FreeLists) (ts : List Tie) → AllFree n x ts → times n (free_references (fold with_tie free ts) x) ≡ times n (free_references free x) + tie_times n ts
free_sum n x free [] h = omega arith
free_sum n x free (t ∷ ts) h = omega (arith, free_sum n x (with_tie free t) ts (λ y a. h y (inr a)), free_step n x free t (h t (inl refl)))

pub free_times : (n : ℕ) (x : Name) (ts : List Tie) → AllFree n x ts → times n (free_references (free_of ts) x) ≡ tie_times n ts
free_times n x ts h = omega (arith, free_sum n x [] ts h)

-- the use list of a symbol that there is
pub nth_use : (ts : List Tie) (i k s : ℕ) → s < k → slice_get (map (uses_of ts) (range_with_len i k)) s ≡ Some (uses_of ts (i + s))
nth_use ts i zero s h = absurd (omega arith)
nth_use ts i (suc k) zero h = ap (λ j. Some (uses_of ts j)) (omega arith)
nth_use ts i (suc k) (suc s) h = nth_use ts (i + 1) k s (omega arith) ∙ ap (λ j. Some (uses_of ts j)) (omega arith)

-- the tie of reference n
abbrev pub tie_for : State → List Event → ℕ → Occurrence → Tie
tie_for final es n r = record { number = n; reference = r; lookup = lookup r.name r.way (answers final es r) }

pub nth_tie : (final : State) (es : List Event) (m : ℕ) (rs : List Occurrence) (i : ℕ) (r : Occurrence) → slice_get rs i ≡ Some r → slice_get (ties final es m rs) i ≡ Some (tie_for final es (m + i) r)
nth_tie final es m [] i r h = absurd cc
nth_tie final es m (q ∷ rs) zero r h = let e : q ≡ r = cc in (λ j. Some (tie_for final es (add_zero m j) (e j)))
  where
    add_zero : (k : ℕ) → k ≡ k + 0
    add_zero k = omega arith
nth_tie final es m (q ∷ rs) (suc i) r h = nth_tie final es (suc m) rs i r h ∙ ap (λ k. Some (tie_for final es k r)) (omega arith)

number_above : (final : State) (es : List Event) (m : ℕ) (rs : List Occurrence) (t : Tie) → Among t (ties final es m rs) → t.number < m → ⊥
number_above final es m [] t a h = absurd a
number_above final es m (q ∷ rs) t (inl k) h = let g : m ≡ t.number = ap (λ x. x.number) k in absurd (omega arith)
number_above final es m (q ∷ rs) t (inr a) h = number_above final es (suc m) rs t a (omega arith)

-- a tie of that number is that one
pub tie_of_number : (final : State) (es : List Event) (m : ℕ) (rs : List Occurrence) (i : ℕ) (r : Occurrence) (t : Tie) → slice_get rs i ≡ Some r → Among t (ties final es m rs) → t.number ≡ m + i → tie_for final es (m + i) r ≡ t
tie_of_number final es m [] i r t h a e = absurd a
tie_of_number final es m (q ∷ rs) zero r t h (inl k) e = let g : q ≡ r = cc in (λ j. tie_for final es (omega_zero m j) (sym g j)) ∙ k
  where
    omega_zero : (k : ℕ) → k + 0 ≡ k
    omega_zero k = omega arith
tie_of_number final es m (q ∷ rs) zero r t h (inr a) e = absurd (number_above final es (suc m) rs t a (omega arith))
tie_of_number final es m (q ∷ rs) (suc i) r t h (inl k) e = absurd (let g : m ≡ t.number = ap (λ x. x.number) k in omega arith)
tie_of_number final es m (q ∷ rs) (suc i) r t h (inr a) e = ap (λ k. tie_for final es k r) (omega arith) ∙ tie_of_number final es (suc m) rs i r t h a (omega arith)
