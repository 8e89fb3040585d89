-- In a numbered program each declared identifier has one symbol by the table of nodes.
use Rattle.std.proofs.Common.{◌≡◌, ℕ, ◌≤◌, ◌==◌, List, [], ◌∷◌, Some, None, cond, inl, inr, refl, ap, map, arith}
use Rattle.std.proofs.lemmas.Bool.Decides.{eqb_tells}
use Rattle.semantic_tree.specs.Faults.{first_fault}
use Rattle.semantic_tree.specs.Tree.{Tree, IsNumbered}
use Rattle.semantic_model.specs.Analysis.{analysis_of, symbol_at}
use Rattle.semantic_model.specs.Entries.{Among, times}
use Rattle.semantic_model.specs.NodeTable.{Belongs, number_of, node_tables}
use Rattle.semantic_model.specs.Step.{steps}
use Rattle.walk_model.proofs.once.SymbolsOnce.{symbols_times}

abbrev node_of : Belongs → ℕ
node_of b = b.node

-- an entry stands in the list of its node
listed : (b : Belongs) (bs : List Belongs) → Among b bs → 1 ≤ times b.node (map node_of bs)
listed b [] a = absurd a
listed b (c ∷ bs) (inl e) = elim (eqb_tells c.node b.node) [ inl k ↦ rw k.0 (omega arith) | inr k ↦ absurd (k.1 (ap node_of e)) ]
listed b (c ∷ bs) (inr a) = omega (arith, listed b bs a)

-- where a node stands once, its number is the entry's
number_is : (b : Belongs) (bs : List Belongs) → Among b bs → times b.node (map node_of bs) ≤ 1 → number_of bs b.node ≡ Some b.number
number_is b [] a h = absurd a
number_is b (c ∷ bs) (inl e) h = elim (eqb_tells c.node b.node) [ inl k ↦ rw k.0 (ap (λ (d : Belongs). Some d.number) e) | inr k ↦ absurd (k.1 (ap node_of e)) ]
number_is b (c ∷ bs) (inr a) h = elim (eqb_tells c.node b.node) [
  | inl k ↦ (let one : cond {A = ℕ} (c.node == b.node) 1 0 ≡ 1 = rw k.0 refl in absurd (omega (arith, one, h, listed b bs a)))
  | inr k ↦ (let none : cond {A = ℕ} (c.node == b.node) 1 0 ≡ 0 = rw k.0 refl in rw k.0 (number_is b bs a (omega (arith, none, h))))
]

-- the symbol of an identifier that has it
pub symbol_is : (p : Tree) (identifier s : ℕ) → first_fault p ≡ None → IsNumbered p.root → Among (record { node = identifier; number = s }) (node_tables (steps p)).symbols → symbol_at (analysis_of p) identifier ≡ Some s
symbol_is p identifier s h e a = number_is (record { node = identifier; number = s }) (node_tables (steps p)).symbols a (symbols_times identifier p h e)
