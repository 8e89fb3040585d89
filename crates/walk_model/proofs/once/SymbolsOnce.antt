-- In a numbered program without a fault no identifier is declared twice.
use Rattle.std.proofs.Common.{◌≡◌, ℕ, ◌+◌, ◌<◌, ◌≤◌, ◌==◌, List, [], ◌∷◌, None, Bool, true, false, cond, ◌||◌, inl, inr, map, refl, arith}
use Rattle.std.proofs.lemmas.Bool.Decides.{eqb_tells, leb_tells}
use Rattle.semantic_tree.specs.Forest.{Forest, nothing, tree, count, numbered}
use Rattle.semantic_tree.specs.Tree.{Tree, IsNumbered}
use Rattle.semantic_tree.specs.Faults.{first_fault}
use Rattle.semantic_model.specs.Entries.{times}
use Rattle.semantic_model.specs.Step.{steps}
use Rattle.semantic_syntax.specs.Members.{contains}
use Rattle.semantic_model.specs.Event.{events}
use Rattle.semantic_model.specs.Fold.{Made, start}
use Rattle.semantic_model.specs.Hoist.{run}
use Rattle.semantic_model.specs.NodeTable.{belonging, node_tables}
use Rattle.walk_model.specs.Noted.{entries_of, pairs_of}
use Rattle.walk_model.proofs.once.NameTimes.{node_times}
use Rattle.walk_model.proofs.once.DeclaredBelow.{program_times}
use Rattle.walk_model.proofs.once.Weighing.{identifiers, identifier_times}
use Rattle.walk_model.proofs.once.NodeIds.{AreDistinct, FirstNumbered, first_numbered, root_numbered, noted_once}

absent : (x : ℕ) (ys : List ℕ) → times x ys ≡ 0 → contains ys x ≡ false
absent x [] e = refl
absent x (y ∷ ys) e = by (y == x) e (absent x ys)
  where
    by : (b : Bool) → cond b 1 0 + times x ys ≡ 0 → (times x ys ≡ 0 → contains ys x ≡ false) → (b || contains ys x) ≡ false
    by true q rest = absurd (omega (arith, q))
    by false q rest = rest (omega (arith, q))

-- numbers that stand in a list no more than once
pub distinct : (ys : List ℕ) → ((x : ℕ) → times x ys ≤ 1) → AreDistinct ys
distinct [] h = tt
distinct (y ∷ ys) h = (
  elim (eqb_tells y y) [
    | inl q ↦ (let first : cond {A = ℕ} (y == y) 1 0 ≡ 1 = rw q.0 refl in absent y ys (omega (arith, first, h y)))
    | inr q ↦ absurd (q.1 refl)
  ],
  distinct ys (λ x. omega (arith, h x)),
)

module _ (x : ℕ) where
  -- where the ids are the places in preorder
  record Numbered (k : ℕ) (f : Forest) : Type 0 where
    before : x < k → node_times x f ≡ 0
    behind : k + count f ≤ x → node_times x f ≡ 0
    once : node_times x f ≤ 1

  numbered_times : (k : ℕ) (f : Forest) → numbered k f ≡ f → Numbered k f
  numbered_times k nothing e = record { before = λ l. refl; behind = λ l. refl; once = omega arith }
  numbered_times k (tree r kd span text marks below id after) e =
      let g : FirstNumbered k id below after = first_numbered k r kd span text marks below id after e in
      let inner : Numbered (k + 1) below = numbered_times (k + 1) below g.inner in
      let others : Numbered (k + 1 + count below) after = numbered_times (k + 1 + count below) after g.others in
      elim (eqb_tells id x) [
        | inl q ↦ (let first : cond {A = ℕ} (id == x) 1 0 ≡ 1 = rw q.0 refl in record {
          before = λ l. absurd (omega (arith, l, q.1, g.first));
          behind = λ l. absurd (omega (arith, l, q.1, g.first));
          once = omega (arith, first, inner.before (omega (arith, q.1, g.first)), others.before (omega (arith, q.1, g.first)));
        })
        | inr q ↦ (let first : cond {A = ℕ} (id == x) 1 0 ≡ 0 = rw q.0 refl in record {
          before = λ l. omega (arith, first, inner.before (omega (arith, l)), others.before (omega (arith, l)));
          behind = λ l. omega (arith, first, inner.behind (omega (arith, l)), others.behind (omega (arith, l)));
          once = by first inner others;
        })
      ]
    where
      by : cond {A = ℕ} (id == x) 1 0 ≡ 0 → Numbered (k + 1) below → Numbered (k + 1 + count below) after → cond (id == x) 1 0 + node_times x below + node_times x after ≤ 1
      by first inner others = elim (leb_tells (k + 1 + count below) x) [
        | inl l ↦ omega (arith, first, inner.behind l.1, others.once)
        | inr l ↦ omega (arith, first, inner.once, others.before l.1)
      ]

  -- the nodes of the symbols that are made are the identifiers of their declarations
  pub nodes_are : (ms : List Made) → times x (map (λ b. b.node) (map belonging ms)) ≡ times x (identifiers ms)
  nodes_are [] = refl
  nodes_are (m ∷ ms) = omega (arith, nodes_are ms)

  pub symbols_times : (p : Tree) → first_fault p ≡ None → IsNumbered p.root → times x (map (λ b. b.node) (map belonging (run start (events (steps p))).made)) ≤ 1
  symbols_times p h e = omega (
    arith,
    nodes_are (run start (events (steps p))).made,
    identifier_times x p,
    program_times x p h,
    (numbered_times 1 p.root.children (root_numbered p e).1).once,
  )

-- so the table of symbols by node has each pair
pub symbols_noted_once : (p : Tree) → first_fault p ≡ None → IsNumbered p.root → entries_of (node_tables (steps p)).symbols ≡ pairs_of (node_tables (steps p)).symbols
symbols_noted_once p h e = noted_once (node_tables (steps p)).symbols (distinct (map (λ b. b.node) (node_tables (steps p)).symbols) (λ x. symbols_times x p h e))
