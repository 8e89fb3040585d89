-- A name that one identifier binds has one declaration, which keeps clear of itself.
use Rattle.std.proofs.Common.{◌≡◌, ℕ, ◌+◌, ◌≤◌, ◌==◌, List, [], ◌∷◌, ◌++◌, None, true, cond, inl, inr, ◌⊎◌, refl, sym, ap, subst, ◌∙◌, map, arith}
use Rattle.std.proofs.lemmas.Bool.Decides.{eqb_tells}
use Rattle.semantic_syntax.specs.Tables.{Name}
use Rattle.semantic_tree.specs.Faults.{first_fault}
use Rattle.semantic_tree.specs.Tree.{Tree, IsNumbered}
use Rattle.semantic_model.specs.Declaration.{Declaration}
use Rattle.semantic_model.specs.Entries.{Among, times}
use Rattle.semantic_model.specs.Event.{Event, declares, takes_over, ends_header, declarations, events}
use Rattle.semantic_model.specs.Fold.{State, Made, start}
use Rattle.semantic_model.specs.Hoist.{act, run}
use Rattle.semantic_model.specs.NodeTable.{belonging}
use Rattle.semantic_model.specs.Step.{steps}
use Rattle.semantic_model.proofs.fold.Orders.{Adds, adds}
use Rattle.semantic_model.proofs.once.ListedUnder.{name_tells}
use Rattle.walk_model.proofs.once.SymbolsOnce.{symbols_times}
use Rattle.language_ties.specs.Bound.{Bound, written}
use Rattle.language_ties.specs.ClearNames.{IsBoundOnce}
use Rattle.language_ties.specs.EcmaScript.{is_ecmascript}
use Rattle.language_ties.specs.SharedSymbols.{AllKeepClear}
use Rattle.language_ties.proofs.UndeclaredNames.{each_identifier}

abbrev pub identifier_of : Declaration → ℕ
identifier_of d = d.naming.identifier

abbrev made_identifiers : List Made → List ℕ
made_identifiers ms = map (λ b. b.node) (map belonging ms)

times_pushed : (n : ℕ) (ms : List Made) (m : Made) → times n (made_identifiers (ms ++ m ∷ [])) ≡ times n (made_identifiers ms) + cond (m.declaration.naming.identifier == n) 1 0
times_pushed n [] m = omega arith
times_pushed n (y ∷ ms) m = omega (arith, times_pushed n ms m)

-- each declaration is made once
times_run : (n : ℕ) (st : State) (es : List Event) → times n (made_identifiers (run st es).made) ≡ times n (made_identifiers st.made) + times n (map identifier_of (declarations es))
times_run n st [] = omega arith
times_run n st (declares d ∷ es) =
    let w : Adds st.made d (act st (declares d)).made = adds st d in
    let pushed : times n (made_identifiers (act st (declares d)).made) ≡ times n (made_identifiers (st.made ++ record { declaration = d; symbol = w.symbol } ∷ [])) = ap (λ ms. times n (made_identifiers ms)) w.adds in
    omega (arith, times_run n (act st (declares d)) es, pushed, times_pushed n st.made (record { declaration = d; symbol = w.symbol }))
times_run n st (takes_over c b ∷ es) = times_run n (act st (takes_over c b)) es
times_run n st (ends_header c ∷ es) = times_run n st es

listed : (d : Declaration) (ds : List Declaration) → Among d ds → 1 ≤ times (identifier_of d) (map identifier_of ds)
listed d [] a = absurd a
listed d (e ∷ ds) (inl q) = elim (eqb_tells (identifier_of e) (identifier_of d)) [ inl k ↦ rw k.0 (omega arith) | inr k ↦ absurd (k.1 (ap identifier_of q)) ]
listed d (e ∷ ds) (inr a) = omega (arith, listed d ds a)

here : (d : Declaration) (i : ℕ) → identifier_of d ≡ i → cond {A = ℕ} (identifier_of d == i) 1 0 ≡ 1
here d i q = elim (eqb_tells (identifier_of d) i) [ inl k ↦ rw k.0 refl | inr k ↦ absurd (k.1 q) ]

-- two declarations of one identifier are one
alone : (x : Name) (i : ℕ) (ds : List Declaration) → ((d : Declaration) → Among d ds → d.naming.name ≡ x → identifier_of d ≡ i) → times i (map identifier_of ds) ≤ 1 → AllKeepClear x ds
alone x i [] h t = tt
alone x i (d ∷ ds) h t = (
  (λ n e a m. let first : cond {A = ℕ} (identifier_of d == i) 1 0 ≡ 1 = here d i (h d (inl refl) n) in
      let second : 1 ≤ times i (map identifier_of ds) = subst (λ k. 1 ≤ times k (map identifier_of ds)) (h e (inr a) m) (listed e ds a) in
      absurd (omega (arith, first, second, t))),
  alone x i ds (λ e a. h e (inr a)) (omega (arith, t)),
)

-- one behind another has another identifier
pub differ : (d e : Declaration) (ds : List Declaration) → Among e ds → times (identifier_of d) (map identifier_of (d ∷ ds)) ≤ 1 → identifier_of d ≡ identifier_of e → ⊥
differ d e ds a t q =
    let first : cond {A = ℕ} (identifier_of d == identifier_of d) 1 0 ≡ 1 = here d (identifier_of d) refl in
    let second : 1 ≤ times (identifier_of d) (map identifier_of ds) = subst (λ k. 1 ≤ times k (map identifier_of ds)) (sym q) (listed e ds a) in
    omega (arith, first, second, t)

pub fewer : (i : ℕ) (d : Declaration) (ds : List Declaration) → times i (map identifier_of (d ∷ ds)) ≤ 1 → times i (map identifier_of ds) ≤ 1
fewer i d ds t = omega (arith, t)

none_named : (x : Name) (ds : List Declaration) → ((d : Declaration) → Among d ds → d.naming.name ≡ x → ⊥) → AllKeepClear x ds
none_named x [] h = tt
none_named x (d ∷ ds) h = ((λ n e a m. absurd (h d (inl refl) n)), none_named x ds (λ e a. h e (inr a)))

-- the identifier by which the name is bound, if any is
find : (x : Name) (ws : List Bound) → ((b : Bound) × Among b ws × (b.name ≡ x)) ⊎ ((b : Bound) → Among b ws → b.name ≡ x → ⊥)
find x [] = inr (λ b a. absurd a)
find x (w ∷ ws) = elim (name_tells w.name x) [
  | inl k ↦ inl (w, inl refl, k.1)
  | inr k ↦ elim (find x ws) [
    | inl c ↦ inl (c.0, inr c.1, c.2)
    | inr c ↦ inr (λ b a n. elim a [ inl q ↦ k.1 (ap (λ i. i.name) q ∙ n) | inr q ↦ c b q n ])
  ]
]

-- two of one identifier are the same
pub same_declaration : (d e : Declaration) (ds : List Declaration) → Among d ds → Among e ds → identifier_of d ≡ identifier_of e → times (identifier_of d) (map identifier_of ds) ≤ 1 → d ≡ e
same_declaration d e [] a b q t = absurd a
same_declaration d e (y ∷ ds) (inl i) (inl j) q t = sym i ∙ j
same_declaration d e (y ∷ ds) (inl i) (inr b) q t =
    let first : cond {A = ℕ} (identifier_of y == identifier_of d) 1 0 ≡ 1 = here y (identifier_of d) (ap identifier_of i) in
    let second : 1 ≤ times (identifier_of d) (map identifier_of ds) = subst (λ k. 1 ≤ times k (map identifier_of ds)) (sym q) (listed e ds b) in
    absurd (omega (arith, first, second, t))
same_declaration d e (y ∷ ds) (inr a) (inl j) q t =
    let first : cond {A = ℕ} (identifier_of y == identifier_of d) 1 0 ≡ 1 = here y (identifier_of d) (ap identifier_of j ∙ sym q) in
    absurd (omega (arith, first, listed d ds a, t))
same_declaration d e (y ∷ ds) (inr a) (inr b) q t = same_declaration d e ds a b q (omega (arith, t))

-- each identifier is declared once
pub declared_once : (p : Tree) (i : ℕ) → first_fault p ≡ None → IsNumbered p.root → times i (map identifier_of (declarations (events (steps p)))) ≤ 1
declared_once p i h numbered = omega (arith, times_run i start (events (steps p)), symbols_times i p h numbered)

pub single_clear : (p : Tree) (x : Name) → first_fault p ≡ None → is_ecmascript p ≡ true → IsNumbered p.root → IsBoundOnce p x → AllKeepClear x (declarations (events (steps p)))
single_clear p x h e numbered once = elim (find x (written p.source_type (steps p))) [
  | inl c ↦ (let all : (d : Declaration) → Among d (declarations (events (steps p))) → d.naming.name ≡ x → identifier_of d ≡ c.0.identifier = each_identifier p.source_type x (λ i. i ≡ c.0.identifier) p h e (λ b a n. once b c.0 a c.1 n c.2) in
      alone x c.0.identifier (declarations (events (steps p))) all (declared_once p c.0.identifier h numbered))
  | inr c ↦ none_named x (declarations (events (steps p))) (each_identifier p.source_type x (λ i. ⊥) p h e c)
]
