-- Marks of scopes that remember names.
use Rattle.std.proofs.Common.{◌≡◌, ℕ, ◌==◌, Bool, true, false, if◌then◌else◌, List, [], ◌∷◌, None, get_or, refl, subst}
use Rattle.std.proofs.lemmas.Bool.{eqb-true}
use Rattle.indexmap.specs.IndexMap.{insert_entry}
use Rattle.scoping_rows.specs.Flat.{key_eq}
use Rattle.semantic_syntax.specs.Tables.{Name}
use Rattle.semantic_model.specs.Binding.{get}
use Rattle.table_building.specs.Marked.{KeepsMarks, AreMarked}
use Rattle.table_building.specs.Numbered.{bindings_named}

-- marks that are kept
pub marked_more : (old new : List Bool) → KeepsMarks old new → (es : List ((ℕ × ℕ) × ℕ)) → AreMarked old es → AreMarked new es
marked_more old new kept [] h = tt
marked_more old new kept (e ∷ es) h = (kept e.0.0 h.0, marked_more old new kept es h.1)

pub marked_insert : (marks : List Bool) (s k y : ℕ) (es : List ((ℕ × ℕ) × ℕ)) → get_or marks s false ≡ true → AreMarked marks es → AreMarked marks (insert_entry key_eq es (s, k) y)
marked_insert marks s k y [] here h = (here, tt)
marked_insert marks s k y (e ∷ es) here h = by (key_eq (s, k) e.0) (marked_insert marks s k y es here h.1)
  where
    by : (b : Bool) → AreMarked marks (insert_entry key_eq es (s, k) y) → AreMarked marks (if b then (e.0, y) ∷ es else e ∷ insert_entry key_eq es (s, k) y)
    by true rest = (h.0, h.1)
    by false rest = (h.0, rest)

-- a scope without a mark remembers nothing
pub unmarked : (names : List Name) (marks : List Bool) (s : ℕ) → get_or marks s false ≡ false → (es : List ((ℕ × ℕ) × ℕ)) → AreMarked marks es → (x : Name) → get (bindings_named names es) s x ≡ None
unmarked names marks s none [] h x = refl
unmarked names marks s none (e ∷ es) h x = by (e.0.0 == s) refl (unmarked names marks s none es h.1 x)
  where
    by : (b : Bool) → (e.0.0 == s) ≡ b → get (bindings_named names es) s x ≡ None → get (bindings_named names (e ∷ es)) s x ≡ None
    by true same rest = let marked : get_or marks s false ≡ true = subst (λ k. get_or marks k false ≡ true) (eqb-true e.0.0 s same) h.0 in absurd (cc)
    by false other rest = rw other rest
