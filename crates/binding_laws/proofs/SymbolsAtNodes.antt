-- In a numbered program the symbol of a declaration is what an analysis tells of its identifier.
use Rattle.std.proofs.Common.{◌≡◌, ℕ, ◌<◌, ◌≤◌, ◌==◌, List, [], ◌∷◌, Some, None, cond, inl, inr, refl, ap, map, arith}
use Rattle.std.proofs.lemmas.Bool.Decides.{eqb_tells}
use Rattle.semantic_tree.specs.Faults.{first_fault}
use Rattle.semantic_tree.specs.Tree.{Tree, IsNumbered}
use Rattle.semantic_model.specs.Entries.{Among, times}
use Rattle.semantic_model.specs.Event.{events}
use Rattle.semantic_model.specs.Fold.{Made, start}
use Rattle.semantic_model.specs.Hoist.{run}
use Rattle.semantic_model.specs.NodeTable.{belonging, number_of}
use Rattle.semantic_model.specs.Step.{steps}
use Rattle.walk_model.proofs.once.SymbolsOnce.{symbols_times}
use Rattle.binding_laws.specs.OneSymbol.{SymbolsAreAtNodes}

abbrev identifier : Made → ℕ
identifier m = m.declaration.naming.identifier

abbrev identifier_times : ℕ → List Made → ℕ
identifier_times x ms = times x (map (λ b. b.node) (map belonging ms))

among_times : (ms : List Made) (m : Made) → Among m ms → 0 < identifier_times (identifier m) ms
among_times [] m a = absurd a
among_times (y ∷ ms) m (inl e) = elim (eqb_tells (identifier y) (identifier m)) [
  | inl q ↦ (let w : cond {A = ℕ} (identifier y == identifier m) 1 0 ≡ 1 = rw q.0 refl in omega (arith, w))
  | inr q ↦ absurd (q.1 (ap identifier e))
]
among_times (y ∷ ms) m (inr a) = omega (arith, among_times ms m a)

number_at : (ms : List Made) (m : Made) → Among m ms → identifier_times (identifier m) ms ≤ 1 → number_of (map belonging ms) (identifier m) ≡ Some m.symbol
number_at [] m a h = absurd a
number_at (y ∷ ms) m (inl e) h = elim (eqb_tells (identifier y) (identifier m)) [
  | inl q ↦ rw q.0 (ap (λ (k : Made). Some k.symbol) e)
  | inr q ↦ absurd (q.1 (ap identifier e))
]
number_at (y ∷ ms) m (inr a) h = elim (eqb_tells (identifier y) (identifier m)) [
  | inl q ↦ (let w : cond {A = ℕ} (identifier y == identifier m) 1 0 ≡ 1 = rw q.0 refl in absurd (omega (arith, w, h, among_times ms m a)))
  | inr q ↦ (let w : cond {A = ℕ} (identifier y == identifier m) 1 0 ≡ 0 = rw q.0 refl in rw q.0 (number_at ms m a (omega (arith, w, h))))
]

pub symbols_are_at_nodes : (p : Tree) → first_fault p ≡ None → IsNumbered p.root → SymbolsAreAtNodes p
symbols_are_at_nodes p h e m a = number_at (run start (events (steps p))).made m a (symbols_times (identifier m) p h e)
