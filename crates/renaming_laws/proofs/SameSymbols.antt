-- Where two programs have the same events but for names, and mean the same, their declarations get the same symbols.
use Rattle.std.proofs.Common.{◌≡◌, ℕ, ◌<◌, ◌≤◌, ◌==◌, List, [], ◌∷◌, ◌++◌, Some, None, cond, inl, inr, map, refl, sym, ap, subst, subst₂, ◌∙◌, arith, eq-eqb}
use Rattle.std.proofs.lemmas.Bool.Decides.{eqb_tells}
use Rattle.semantic_tree.specs.Children.{node_count}
use Rattle.semantic_tree.specs.Faults.{first_fault}
use Rattle.semantic_tree.specs.Tree.{Tree, IsNumbered}
use Rattle.semantic_tree.specs.declared.node.Node.{Node}
use Rattle.semantic_model.specs.Analysis.{analysis_of, symbol_at}
use Rattle.semantic_model.specs.Entries.{Among, times}
use Rattle.semantic_model.specs.Event.{Event, declares, takes_over, ends_header, events}
use Rattle.semantic_model.specs.Fold.{Made, State, start}
use Rattle.semantic_model.specs.Hoist.{act, run}
use Rattle.semantic_model.specs.Naming.{Naming}
use Rattle.semantic_model.specs.NodeTable.{Belongs, belonging, number_of}
use Rattle.semantic_model.specs.Step.{steps}
use Rattle.semantic_model.specs.TablesOf.{made_of}
use Rattle.semantic_model.proofs.fits.NothingInvented.{belongs_made}
use Rattle.walk_model.proofs.once.SymbolsOnce.{symbols_times}
use Rattle.program_laws.proofs.DeclaredNodes.{IsOf, of_name, of_member}
use Rattle.program_laws.proofs.NodeNames.{made_of_node}
use Rattle.program_laws.proofs.TreeNodes.{nodes_from, ids_between}
use Rattle.rename_model.specs.Same.{Same}
use Rattle.rename_model.proofs.NamedNodes.{some_is}
use Rattle.renaming_laws.proofs.Looks.{gets, made_by}
use Rattle.renaming_laws.proofs.SameConflicts.{symbols_in}
use Rattle.renaming_laws.proofs.Twins.{unnamed, TwinEvents}

-- ---- the declarations that are made, one by one

abbrev pub Paired : List Made → List Made → Type 0
Paired [] [] = Unit {0}
Paired (m ∷ ms) (n ∷ ns) = (unnamed m.declaration.naming ≡ unnamed n.declaration.naming) × Paired ms ns
Paired _ _ = ⊥

paired_more : (ms ns : List Made) (m n : Made) → Paired ms ns → unnamed m.declaration.naming ≡ unnamed n.declaration.naming → Paired (ms ++ m ∷ []) (ns ++ n ∷ [])
paired_more [] [] m n h e = (e, tt)
paired_more [] (y ∷ ns) m n h e = absurd h
paired_more (x ∷ ms) [] m n h e = absurd h
paired_more (x ∷ ms) (y ∷ ns) m n h e = (h.0, paired_more ms ns m n h.1 e)

pub paired_run : (es fs : List Event) (st sw : State) → TwinEvents es fs → Paired st.made sw.made → Paired (run st es).made (run sw fs).made
paired_run [] [] st sw t h = h
paired_run [] (y ∷ fs) st sw t h = absurd t
paired_run (x ∷ es) [] st sw t h = absurd t
paired_run (declares d ∷ es) (declares e ∷ fs) st sw t h =
    paired_run es fs (act st (declares d)) (act sw (declares e)) t.1
    (subst₂ Paired (sym (made_by d.how st d)) (sym (made_by e.how sw e))
    (paired_more st.made sw.made (record { declaration = d; symbol = gets d.how st d }) (record { declaration = e; symbol = gets e.how sw e }) h t.0))
paired_run (takes_over c b ∷ es) (takes_over c' b' ∷ fs) st sw t h = paired_run es fs (act st (takes_over c b)) (act sw (takes_over c' b')) t.1 h
paired_run (ends_header c ∷ es) (ends_header c' ∷ fs) st sw t h = paired_run es fs st sw t.1 h
paired_run (_ ∷ es) (_ ∷ fs) st sw t h = absurd t.0

-- ---- the symbols of the nodes

same_nodes : (ms ns : List Made) → Paired ms ns → map (λ b. b.node) (map belonging ms) ≡ map (λ b. b.node) (map belonging ns)
same_nodes [] [] h = refl
same_nodes [] (y ∷ ns) h = absurd h
same_nodes (x ∷ ms) [] h = absurd h
same_nodes (x ∷ ms) (y ∷ ns) h = λ i. (h.0 i).identifier ∷ same_nodes ms ns h.1 i

among_times : (bs : List Belongs) (id s : ℕ) → Among (record { node = id; number = s }) bs → 1 ≤ times id (map (λ b. b.node) bs)
among_times [] id s a = absurd a
among_times (b ∷ bs) id s (inl e) = let first : cond {A = ℕ} (b.node == id) 1 0 ≡ 1 = ap (λ t. cond t 1 0) (eq-eqb b.node id (ap (λ x. x.node) e)) in omega (arith, first)
among_times (b ∷ bs) id s (inr a) = omega (arith, among_times bs id s a)

-- the number of a node that stands there once
pub number_there : (bs : List Belongs) (id s : ℕ) → times id (map (λ b. b.node) bs) ≤ 1 → Among (record { node = id; number = s }) bs → number_of bs id ≡ Some s
number_there [] id s h a = absurd a
number_there (b ∷ bs) id s h (inl e) =
    ap (λ (x : Belongs). cond (x.node == id) (Some x.number) (number_of bs id)) e ∙ ap (λ t. cond t (Some s) (number_of bs id)) (eq-eqb id id refl)
number_there (b ∷ bs) id s h (inr a) = elim (eqb_tells b.node id) [
  | inl q ↦ (let first : cond {A = ℕ} (b.node == id) 1 0 ≡ 1 = rw q.0 refl in absurd (omega (arith, first, among_times bs id s a, h)))
  | inr q ↦ (let first : cond {A = ℕ} (b.node == id) 1 0 ≡ 0 = rw q.0 refl in ap (λ t. cond t (Some b.number) (number_of bs id)) q.0 ∙ number_there bs id s (omega (arith, first, h)) a)
]

-- the ids of a numbered program
pub id_within : (p : Tree) → IsNumbered p.root → (x : Node) → Among x (nodes_from p.root) → x.node_id < node_count p.root
id_within p h x (inl e) = let first : 0 ≡ p.root.node_id = ap (λ n. n.node_id) h in let here : p.root.node_id ≡ x.node_id = ap (λ n. n.node_id) e in omega (arith, first, here)
id_within p h x (inr b) = let (low, high) = ids_between 1 p.root.children x (ap (λ n. n.children) h) b in omega (arith, high)

-- the node of what is made has the symbol
pub symbol_there : (p : Tree) → first_fault p ≡ None → IsNumbered p.root → (m : Made) → Among m (made_of p) → symbol_at (analysis_of p) m.declaration.naming.identifier ≡ Some m.symbol
symbol_there p h n m a =
    number_there (map belonging (made_of p)) m.declaration.naming.identifier m.symbol (symbols_times m.declaration.naming.identifier p h n) (belongs_made m (made_of p) a)

module _ (p q : Tree) (faultless : first_fault p ≡ None) (numbered : IsNumbered p.root) (same : Same p q) where
  -- what is made has a node of the program
  inside : (m : Made) → Among m (made_of p) → m.declaration.naming.identifier < node_count p.root
  inside m a = by (made_of_node p m a)
    where
      by : IsOf (nodes_from p.root) m.declaration → m.declaration.naming.identifier < node_count p.root
      by (of_name x w e f) = subst (λ n. n < node_count p.root) (sym e) (id_within p numbered x w.among)
      by (of_member x w k e) = subst (λ n. n < node_count p.root) (sym e) (id_within p numbered x w)

  module _ (paired : Paired (made_of p) (made_of q)) where
    same_symbol : (m n : Made) → Among m (made_of p) → Among n (made_of q) → unnamed m.declaration.naming ≡ unnamed n.declaration.naming → m.symbol ≡ n.symbol
    same_symbol m n a b e =
        let id : ℕ = m.declaration.naming.identifier in
        let id' : id ≡ n.declaration.naming.identifier = ap (λ (x : Naming). x.identifier) e in
        let once : times id (map (λ b. b.node) (map belonging (made_of p))) ≤ 1 = symbols_times id p faultless numbered in
        let once' : times id (map (λ b. b.node) (map belonging (made_of q))) ≤ 1 = subst (λ ns. times id ns ≤ 1) (same_nodes (made_of p) (made_of q) paired) once in
        let there : symbol_at (analysis_of p) id ≡ Some m.symbol = symbol_there p faultless numbered m a in
        let there' : symbol_at (analysis_of q) id ≡ Some n.symbol = number_there (map belonging (made_of q)) id n.symbol once' (subst (λ x. Among (record { node = x; number = n.symbol }) (map belonging (made_of q))) (sym id') (belongs_made n (made_of q) b)) in
        some_is m.symbol n.symbol (sym there ∙ (same id (inside m a)).symbol ∙ there')

    each_same : (ms ns : List Made) → Paired ms ns → ((m : Made) → Among m ms → Among m (made_of p)) → ((n : Made) → Among n ns → Among n (made_of q)) → symbols_in ms ≡ symbols_in ns
    each_same [] [] h a b = refl
    each_same [] (y ∷ ns) h a b = absurd h
    each_same (x ∷ ms) [] h a b = absurd h
    each_same (x ∷ ms) (y ∷ ns) h a b = λ i. same_symbol x y (a x (inl refl)) (b y (inl refl)) h.0 i ∷ each_same ms ns h.1 (λ m c. a m (inr c)) (λ n c. b n (inr c)) i

  pub same_symbols : TwinEvents (events (steps p)) (events (steps q)) → symbols_in (made_of p) ≡ symbols_in (made_of q)
  same_symbols t =
      let paired : Paired (made_of p) (made_of q) = paired_run (events (steps p)) (events (steps q)) start start t tt in
      each_same paired (made_of p) (made_of q) paired (λ m a. a) (λ n a. a)
