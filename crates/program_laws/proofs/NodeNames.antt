-- The nodes to which symbols belong, and those that are tied to symbols, have their names.
use Rattle.std.proofs.Common.{◌≡◌, ℕ, List, [], ◌∷◌, Option, Some, None, cond, Bool, true, false, ◌⊎◌, inl, inr, refl, sym, ap, subst, subst₂, ◌∙◌}
use Rattle.std.specs.List.{cons_option}
use Rattle.semantic_kinds.specs.declared.kind.AstType.TheVariants as kind
use Rattle.semantic_syntax.specs.Tables.{Name}
use Rattle.semantic_tree.specs.Tree.{Tree, IsNumbered}
use Rattle.semantic_tree.specs.declared.node.Node.{Node}
use Rattle.semantic_model.specs.Entries.{Among}
use Rattle.semantic_model.specs.Event.{events}
use Rattle.semantic_model.specs.Fold.{Made, start}
use Rattle.semantic_model.specs.Hoist.{run}
use Rattle.semantic_model.specs.NodeTable.{belonging}
use Rattle.semantic_tree.specs.Views.{is}
use Rattle.semantic_model.specs.Place as model
use Rattle.semantic_model.specs.Reference.{Occurrence, reference_at, entered_reference, references}
use Rattle.semantic_model.specs.Step.{Step, entering, opening, header_ending, closing, leaving, steps}
use Rattle.semantic_model.specs.TablesOf.{tables_of, entry_of, made_of}
use Rattle.semantic_model.proofs.form.Clauses.{kind_is}
use Rattle.semantic_model.proofs.fits.NothingInvented.{made_declared}
use Rattle.semantic_model.proofs.fold.Orders.{HasForm}
use Rattle.semantic_model.proofs.once.SettledOnce.{tie_reference}
use Rattle.program_laws.specs.SymbolNames.{IsNamed, NodesHaveNames, TiedNodesHaveNames}
use Rattle.program_laws.proofs.DeclaredNodes.{among_map, IsOf, of_name, of_member, declaration_of}
use Rattle.program_laws.proofs.TiedNames.{all_ties, tie_named, declarations_have_names}
use Rattle.program_laws.proofs.TreeNodes.{nodes_from, placed_node, one_node}
use Rattle.program_laws.proofs.Walked.{steps_within}

-- what is made is of a node
pub made_of_node : (p : Tree) (m : Made) → Among m (made_of p) → IsOf (nodes_from p.root) m.declaration
made_of_node p m a = elim (made_declared m start (events (steps p)) a) [ inl k ↦ absurd k | inr k ↦ declaration_of p m.declaration k ]

pub nodes_have_names : (p : Tree) → HasForm p → IsNumbered p.root → NodesHaveNames p
nodes_have_names p f n place x s a b =
    let (m, c, e) = among_map belonging (made_of p) (record { node = x.node_id; number = s }) b in
    let named : IsNamed (tables_of p) m.symbol m.declaration.naming.name = declarations_have_names p f m c in
    go m (ap (λ y. y.node) e) (ap (λ y. y.number) e) named (made_of_node p m c)
  where
    go : (m : Made) → m.declaration.naming.identifier ≡ x.node_id → m.symbol ≡ s → IsNamed (tables_of p) m.symbol m.declaration.naming.name → IsOf (nodes_from p.root) m.declaration → ((x.kind ≡ kind.BindingIdentifier) × IsNamed (tables_of p) s x.text) ⊎ (x.kind ≡ kind.TSEnumMember)
    go m i j named (of_name y w e h) =
        let same : y ≡ x = one_node p.root y x n w.among (placed_node p.root place x a) (sym e ∙ i) in
        inl (sym (ap (λ z. z.kind) same) ∙ w.binds, subst₂ (λ (r : ℕ) (t : Name). IsNamed (tables_of p) r t) j (h ∙ ap (λ z. z.text) same) named)
    go m i j named (of_member y w k e) =
        let same : y ≡ x = one_node p.root y x n w (placed_node p.root place x a) (sym e ∙ i) in
        inr (sym (ap (λ z. z.kind) same) ∙ k)

-- a reference is of a node
pub record IsAt (all : List Node) (r : Occurrence) : Type 0 where
  pub node : Node
  pub among : Among node all
  pub refers : node.kind ≡ kind.IdentifierReference
  pub id : r.node ≡ node.node_id
  pub name : r.name ≡ node.text

among_cons : {A : Type 0} → (o : Option A) (xs : List A) (x : A) → Among x (cons_option o xs) → (o ≡ Some x) ⊎ Among x xs
among_cons None xs x a = inr a
among_cons (Some y) xs x (inl e) = inl (ap Some e)
among_cons (Some y) xs x (inr a) = inr a

entered_at : (q : model.Place) (r : Occurrence) → entered_reference (entering q) ≡ Some r → (q.node.kind ≡ kind.IdentifierReference) × (reference_at q ≡ r)
entered_at q r e = go (is kind.IdentifierReference q.node) refl e
  where
    go : (b : Bool) → is kind.IdentifierReference q.node ≡ b → cond b (Some (reference_at q)) None ≡ Some r → (q.node.kind ≡ kind.IdentifierReference) × (reference_at q ≡ r)
    go true h k = (kind_is q.node.kind kind.IdentifierReference h, cc)
    go false h k = absurd cc

none_entered : (r : Occurrence) → ◌≡◌ {A = Option Occurrence} None (Some r) → ⊥
none_entered r e = cc

at_step : (p : Tree) (s : Step) (r : Occurrence) → Among s (steps p) → entered_reference s ≡ Some r → IsAt (nodes_from p.root) r
at_step p (entering q) r a e = let (k, h) = entered_at q r e in record {
  node = q.node;
  among = steps_within p (entering q) a q.node (inl refl);
  refers = k;
  id = sym (ap (λ x. x.node) h);
  name = sym (ap (λ x. x.name) h);
}
at_step p (opening q o) r a e = absurd (none_entered r e)
at_step p (header_ending q o) r a e = absurd (none_entered r e)
at_step p (closing q o) r a e = absurd (none_entered r e)
at_step p (leaving q) r a e = absurd (none_entered r e)

among_taken : (ss : List Step) (r : Occurrence) → Among r (references ss) → (s : Step) × Among s ss × (entered_reference s ≡ Some r)
among_taken [] r a = absurd a
among_taken (s ∷ ss) r a = elim (among_cons (entered_reference s) (references ss) r a) [
  | inl e ↦ (s, inl refl, e)
  | inr b ↦ (let (q, c, e) = among_taken ss r b in (q, inr c, e))
]

pub reference_of : (p : Tree) (r : Occurrence) → Among r (references (steps p)) → IsAt (nodes_from p.root) r
reference_of p r a = let (s, b, e) = among_taken (steps p) r a in at_step p s r b e

pub tied_nodes_have_names : (p : Tree) → HasForm p → IsNumbered p.root → TiedNodesHaveNames p
tied_nodes_have_names p f n place x s e a b i j =
    let (t, c, h) = among_map entry_of (all_ties p) e b in
    let at : IsAt (nodes_from p.root) t.reference = reference_of p t.reference (tie_reference (run start (events (steps p))) (events (steps p)) 0 (references (steps p)) t c) in
    let same : at.node ≡ x = one_node p.root at.node x n at.among (placed_node p.root place x a) (sym at.id ∙ ap (λ y. y.node_id) h ∙ i) in
    (sym (ap (λ z. z.kind) same) ∙ at.refers, subst (IsNamed (tables_of p) s) (at.name ∙ ap (λ z. z.text) same) (tie_named p f t s c (ap (λ y. y.symbol_id) h ∙ j)))
