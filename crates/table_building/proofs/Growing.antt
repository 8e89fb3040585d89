-- Tables that grow, and symbols that are remembered.
use Rattle.std.proofs.Common.{ℕ, ◌<◌, ◌≤◌, Bool, true, false, cond, List, [], ◌∷◌, ◌++◌, length, Some, IfSome, All, arith}
use Rattle.std.proofs.lemmas.List.Elements.{All-nil, All-cons, All-append}
use Rattle.std.proofs.lemmas.List.{map-append}
use Rattle.std.specs.Map.{values_of}
use Rattle.semantic_syntax.specs.Tables.{Tables, Name}
use Rattle.semantic_syntax.specs.Reading.{bindings_of}
use Rattle.semantic_syntax.specs.Writing.{bindings_taken_over}
use Rattle.walk_model.proofs.sizes.Growth.{homes_count}
use Rattle.semantic_model.specs.Binding.{Binding, is_binding_of, get, put}
use Rattle.semantic_syntax.specs.Outcome.{Pending}
use Rattle.table_building.specs.Growth.{Grows, Goes}
use Rattle.walk_model.specs.WalkState.{WalkState}
use Rattle.table_building.specs.Made.{AreSymbols}
use Rattle.table_building.specs.Waiting.{AreWaiting}

pub grows-refl : (t : Tables) → Grows t t
grows-refl t = record { scopes = omega arith; symbols = omega arith; references = omega arith }

pub grows-trans : (t u v : Tables) → Grows t u → Grows u v → Grows t v
grows-trans t u v g h = record {
  scopes = omega (arith, g.scopes, h.scopes);
  symbols = omega (arith, g.symbols, h.symbols);
  references = omega (arith, g.references, h.references);
}

pub goes-refl : (w : WalkState) → Goes w w
goes-refl w = record { tables = grows-refl w.tables; waiting = omega arith }

pub goes-trans : (u v w : WalkState) → Goes u v → Goes v w → Goes u w
goes-trans u v w g h = record { tables = grows-trans _ _ _ g.tables h.tables; waiting = omega (arith, g.waiting, h.waiting) }

-- symbols of so many are of more
pub symbols_more : (n m : ℕ) (bs : List Binding) → n ≤ m → AreSymbols n bs → AreSymbols m bs
symbols_more n m [] h below = tt
symbols_more n m (b ∷ bs) h below = (omega (arith, h, below.0), symbols_more n m bs h below.1)

module _ (n s : ℕ) (x : Name) where
  -- what is got is one of the symbols
  pub symbols_get : (bs : List Binding) → AreSymbols n bs → IfSome (get bs s x) (λ y. y < n)
  symbols_get [] below = tt
  symbols_get (b ∷ bs) below = by (is_binding_of s x b) (symbols_get bs below.1)
    where
      by : (t : Bool) → IfSome (get bs s x) (λ y. y < n) → IfSome (cond t (Some b.symbol) (get bs s x)) (λ y. y < n)
      by true later = below.0
      by false later = later

  pub symbols_put : (y : ℕ) (bs : List Binding) → y < n → AreSymbols n bs → AreSymbols n (put bs s x y)
  symbols_put y [] within below = (within, tt)
  symbols_put y (b ∷ bs) within below = by (is_binding_of s x b) (symbols_put y bs within below.1)
    where
      by : (t : Bool) → AreSymbols n (put bs s x y) → AreSymbols n (cond t (record b { symbol = y } ∷ bs) (b ∷ put bs s x y))
      by true later = (within, below.1)
      by false later = (below.0, later)

-- references that wait in tables wait in tables that grew
pub waiting_grows : (t u : Tables) (es : List Pending) → Grows t u → AreWaiting t es → AreWaiting u es
waiting_grows t u [] g h = tt
waiting_grows t u (e ∷ es) g h =
    (record { scope = omega (arith, g.scopes, h.0.scope); reference = omega (arith, g.references, h.0.reference) }, waiting_grows t u es g h.1)

pub waiting_more : (t : Tables) (es : List Pending) (e : Pending) → AreWaiting t es → e.lookup_scope < length t.scopes → e.reference < length t.references
    → AreWaiting t (es ++ e ∷ [])
waiting_more t [] e h below exists = (record { scope = below; reference = exists }, tt)
waiting_more t (d ∷ es) e h below exists = (h.0, waiting_more t es e h.1 below exists)

pub taken_grows : (t : Tables) (from to : ℕ) → Grows t (bindings_taken_over t from to)
taken_grows t from to = record { scopes = omega arith; symbols = omega (arith, homes_count to (values_of (bindings_of t from)) t.symbols); references = omega arith }

pub All-push : (n : ℕ) (ys : List ℕ) (y : ℕ) → All (λ z. z < n) ys → y < n → All (λ z. z < n) (ys ++ y ∷ [])
All-push n ys y h below = All-append (λ z. z < n) ys (y ∷ []) h (All-cons (λ z. z < n) y [] below (All-nil (λ z. z < n)))

pub ruleset growing = (grows-refl, grows-trans, goes-refl, goes-trans, symbols_more, symbols_get, symbols_put, waiting_grows, waiting_more, taken_grows, All-push, map-append)
