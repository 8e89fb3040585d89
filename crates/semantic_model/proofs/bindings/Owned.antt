-- Each binding of a program's tables is its symbol's, and no symbol is bound twice.
use Rattle.std.proofs.Common.{◌≡◌, ℕ, zero, suc, ◌+◌, ◌<◌, ◌≤◌, ◌==◌, List, [], ◌∷◌, Bool, true, false, cond, inl, inr, ◌⊎◌, refl, subst, length, map, arith}
use Rattle.std.specs.Prelude.{slice_index_or}
use Rattle.std.specs.List.{range_with_len}
use Rattle.std.proofs.lemmas.Bool.Decides.{eqb_tells}
use Rattle.semantic_syntax.specs.Tables.{Name, Bindings}
use Rattle.semantic_tree.specs.Tree.{Tree}
use Rattle.semantic_model.specs.Entries.{Among, times, times_in_all}
use Rattle.semantic_model.specs.Step.{steps}
use Rattle.semantic_model.specs.Binding.{Binding, bound_by}
use Rattle.semantic_model.specs.Event.{events, written_declarations}
use Rattle.semantic_model.specs.Fold.{State, start}
use Rattle.semantic_model.specs.Hoist.{run}
use Rattle.semantic_model.specs.TablesOf.{scopes, tables_of}
use Rattle.semantic_model.specs.Moment.{BindingsAreSymbols}
use Rattle.semantic_model.proofs.fold.Orders.{HasForm, table_of, root_body, steps_in, events_in}
use Rattle.semantic_model.proofs.bindings.NearestVar.{nearest, places_near, nearest_root}
use Rattle.semantic_model.proofs.bindings.VarTargets.{events_led}
use Rattle.semantic_model.proofs.bindings.Owners.{IsSymbolOf, bound_times}
use Rattle.semantic_model.proofs.bindings.BindingsKept.{Kept, kept_events}

-- the symbols of a scope's entries
abbrev symbols_in : Bindings → List ℕ
symbols_in bs = map (λ b. b.1) bs

one_entry : (s : ℕ) (b : Binding) (bs : List Binding) (c : ℕ) → times s (symbols_in (bound_by (b ∷ bs) c)) ≡ cond (b.scope == c) (cond (b.symbol == s) 1 0) 0 + times s (symbols_in (bound_by bs c))
one_entry s b bs c = go (b.scope == c)
  where
    go : (t : Bool) → times s (symbols_in (cond t ((b.name, b.symbol) ∷ bound_by bs c) (bound_by bs c))) ≡ cond t (cond (b.symbol == s) 1 0) 0 + times s (symbols_in (bound_by bs c))
    go true = refl
    go false = omega arith

-- k for each scope of a range that is the given one
abbrev counted : ℕ → ℕ → ℕ → ℕ → ℕ
counted c i zero k = 0
counted c i (suc n) k = cond (c == i) k 0 + counted c (i + 1) n k

counted_past : (c i n k : ℕ) → c < i → counted c i n k ≡ 0
counted_past c i zero k h = refl
counted_past c i (suc n) k h = elim (eqb_tells c i) [
  | inl e ↦ absurd (omega (arith, e.1))
  | inr e ↦ rw e.0 (omega (arith, counted_past c (i + 1) n k (omega arith)))
]

counted_once : (c i n k : ℕ) → counted c i n k ≤ k
counted_once c i zero k = omega arith
counted_once c i (suc n) k = elim (eqb_tells c i) [
  | inl e ↦ rw e.0 (omega (arith, counted_past c (i + 1) n k (omega (arith, e.1))))
  | inr e ↦ rw e.0 (omega (arith, counted_once c (i + 1) n k))
]

abbrev in_scopes : ℕ → List Binding → ℕ → ℕ → ℕ
in_scopes s bs i n = times_in_all s (map (map (λ b. b.1)) (map (bound_by bs) (range_with_len i n)))

entry_counted : (s : ℕ) (b : Binding) (bs : List Binding) (i n : ℕ) → in_scopes s (b ∷ bs) i n ≡ counted b.scope i n (cond (b.symbol == s) 1 0) + in_scopes s bs i n
entry_counted s b bs i zero = refl
entry_counted s b bs i (suc n) = omega (arith, one_entry s b bs i, entry_counted s b bs (i + 1) n)

none_counted : (s i n : ℕ) → in_scopes s [] i n ≡ 0
none_counted s i zero = refl
none_counted s i (suc n) = omega (arith, none_counted s (i + 1) n)

no_more : (s : ℕ) (bs : List Binding) (i n : ℕ) → in_scopes s bs i n ≤ bound_times s bs
no_more s [] i n = omega (arith, none_counted s i n)
no_more s (b ∷ bs) i n = omega (arith, entry_counted s b bs i n, counted_once b.scope i n (cond (b.symbol == s) 1 0), no_more s bs i n)

-- an entry of a scope stands in the list
entry_stands : (bs : List Binding) (c : ℕ) (b : Name × ℕ) → Among b (bound_by bs c) → Among (record { scope = c; name = b.0; symbol = b.1 }) bs
entry_stands [] c b a = absurd a
entry_stands (e ∷ bs) c b a = go (eqb_tells e.scope c) a (entry_stands bs c b)
  where
    go : ((e.scope == c ≡ true) × (e.scope ≡ c)) ⊎ ((e.scope == c ≡ false) × (e.scope ≡ c → ⊥)) → Among b (cond (e.scope == c) ((e.name, e.symbol) ∷ bound_by bs c) (bound_by bs c)) → (Among b (bound_by bs c) → Among {A = Binding} (record { scope = c; name = b.0; symbol = b.1 }) bs) → Among {A = Binding} (record { scope = c; name = b.0; symbol = b.1 }) (e ∷ bs)
    go (inl k) q later = first (rw k.0 at q)
      where
        first : Among b ((e.name, e.symbol) ∷ bound_by bs c) → Among {A = Binding} (record { scope = c; name = b.0; symbol = b.1 }) (e ∷ bs)
        first (inl w) = inl (λ i. record { scope = k.1 i; name = (w i).0; symbol = (w i).1 })
        first (inr w) = inr (later w)
    go (inr k) q later = inr (later (rw k.0 at q))

entry_in : (bs : List Binding) (i n c : ℕ) (b : Name × ℕ) → Among b (slice_index_or (map (bound_by bs) (range_with_len i n)) c []) → Among {A = Binding} (record { scope = i + c; name = b.0; symbol = b.1 }) bs
entry_in bs i zero c b a = absurd a
entry_in bs i (suc n) zero b a = entry_stands bs (i + 0) b (subst (λ m. Among b (bound_by bs m)) (omega arith) a)
entry_in bs i (suc n) (suc c) b a = subst (λ m. Among {A = Binding} (record { scope = m; name = b.0; symbol = b.1 }) bs) (omega arith) (entry_in bs (i + 1) n c b a)

pub kept_program : (p : Tree) (h : HasForm p) → Kept (nearest p) (table_of p) (root_body p h) (run start (events (steps p)))
kept_program p h =
    kept_events (nearest p) (table_of p) (root_body p h) (events (steps p))
    (events_led (nearest p) (table_of p) (nearest_root p h.root) (root_body p h) (written_declarations (steps p)) (steps p) (steps_in p h) (places_near p))
    (events_in p h)

pub bindings_owned : (p : Tree) → HasForm p → BindingsAreSymbols (tables_of p)
bindings_owned p h =
    let final : State = run start (events (steps p)) in
    let count : ℕ = length (scopes (steps p)) in
    let kept : Kept (nearest p) (table_of p) (root_body p h) final = kept_program p h in
    record {
      owned = λ c b a.
          let w : IsSymbolOf final.symbols c b.0 b.1 = kept.owned (record { scope = c; name = b.0; symbol = b.1 }) (subst (λ m. Among {A = Binding} (record { scope = m; name = b.0; symbol = b.1 }) final.bindings) (omega arith) (entry_in final.bindings 0 count c b a)) in
          record { symbol = w.symbol; is_there = w.is_there; named = w.named; stands = w.stands };
      once = λ s. omega (arith, no_more s final.bindings 0 count, kept.once s);
    }
