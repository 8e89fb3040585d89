-- In a numbered program each identifier is declared once: what is declared was not made before.
use Rattle.std.proofs.Common.{◌≡◌, ℕ, ◌≤◌, ◌==◌, List, [], ◌∷◌, ◌++◌, None, cond, inl, inr, refl, sym, ap, subst, ◌∙◌, arith}
use Rattle.std.proofs.lemmas.Bool.Decides.{eqb_tells}
use Rattle.std.proofs.lemmas.List.{append-nil, append_assoc}
use Rattle.semantic_tree.specs.Faults.{first_fault}
use Rattle.semantic_tree.specs.Tree.{Tree, IsNumbered}
use Rattle.semantic_model.specs.Declaration.{Declaration}
use Rattle.semantic_model.specs.Entries.{Among, times}
use Rattle.semantic_model.specs.Event.{Event, declares, takes_over, ends_header, events}
use Rattle.semantic_model.specs.Fold.{State, Made, start}
use Rattle.semantic_model.specs.Hoist.{act, run}
use Rattle.semantic_model.specs.Step.{steps}
use Rattle.semantic_model.proofs.fold.Orders.{Adds, adds}
use Rattle.walk_model.proofs.once.SymbolsOnce.{nodes_are, symbols_times}
use Rattle.walk_model.proofs.once.Weighing.{identifiers}

-- no identifier is declared twice
abbrev pub IsMadeOnce : List Made → Type 0
IsMadeOnce ms = (i : ℕ) → times i (identifiers ms) ≤ 1

pub made_once : (p : Tree) → first_fault p ≡ None → IsNumbered p.root → IsMadeOnce (run start (events (steps p))).made
made_once p h numbered i = subst (λ n. n ≤ 1) (nodes_are i (run start (events (steps p))).made) (symbols_times i p h numbered)

abbrev identifier : Made → ℕ
identifier m = m.declaration.naming.identifier

own_times : (i j : ℕ) → i ≡ j → cond {A = ℕ} (i == j) 1 0 ≡ 1
own_times i j e = elim (eqb_tells i j) [ inl q ↦ rw q.0 refl | inr q ↦ absurd (q.1 e) ]

there_times : (xs : List Made) (y : Made) (more : List Made) (i : ℕ) → identifier y ≡ i → 1 ≤ times i (identifiers ((xs ++ y ∷ []) ++ more))
there_times [] y more i e = omega (arith, own_times (identifier y) i e)
there_times (x ∷ xs) y more i e = omega (arith, there_times xs y more i e)

twice_times : (xs : List Made) (m y : Made) (more : List Made) (i : ℕ) → Among m xs → identifier m ≡ i → identifier y ≡ i → 2 ≤ times i (identifiers ((xs ++ y ∷ []) ++ more))
twice_times [] m y more i a e f = absurd a
twice_times (x ∷ xs) m y more i (inl q) e f = omega (arith, own_times (identifier x) i (ap identifier q ∙ e), there_times xs y more i f)
twice_times (x ∷ xs) m y more i (inr a) e f = omega (arith, twice_times xs m y more i a e f)

-- events add to what was made
made_more : (st : State) (es : List Event) → (more : List Made) × ((run st es).made ≡ st.made ++ more)
made_more st [] = ([], sym (append-nil st.made))
made_more st (declares d ∷ es) =
    let w : Adds st.made d (act st (declares d)).made = adds st d in
    let (more, e) = made_more (act st (declares d)) es in
    (record { declaration = d; symbol = w.symbol } ∷ more, e ∙ ap (λ ms. ms ++ more) w.adds ∙ append_assoc st.made (record { declaration = d; symbol = w.symbol } ∷ []) more)
made_more st (takes_over c b ∷ es) = made_more (act st (takes_over c b)) es
made_more st (ends_header c ∷ es) = made_more st es

pub not_yet : (st : State) (d : Declaration) (es : List Event) → IsMadeOnce (run st (declares d ∷ es)).made → (m : Made) → Among m st.made → m.declaration.naming.identifier ≡ d.naming.identifier → ⊥
not_yet st d es once m a e =
    let w : Adds st.made d (act st (declares d)).made = adds st d in
    let last : Made = record { declaration = d; symbol = w.symbol } in
    let (more, q) = made_more (act st (declares d)) es in
    let whole : (run st (declares d ∷ es)).made ≡ (st.made ++ last ∷ []) ++ more = q ∙ ap (λ ms. ms ++ more) w.adds in
    let two : 2 ≤ times d.naming.identifier (identifiers (run st (declares d ∷ es)).made) = subst (λ ms. 2 ≤ times d.naming.identifier (identifiers ms)) (sym whole) (twice_times st.made m last more d.naming.identifier a e refl) in
    absurd (omega (arith, two, once d.naming.identifier))
