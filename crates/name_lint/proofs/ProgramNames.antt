-- What is gathered from a program, by its tables and what belongs to its nodes.
use Rattle.std.proofs.Common.{◌≡◌, ◌==◌, ℕ, List, [], ◌∷◌, Option, None, Some, cond, inl, inr, refl, sym, ap, subst, ◌∙◌, length, map, nat_eq, eq-eqb}
use Rattle.std.specs.Map.{lookup}
use Rattle.std.proofs.lemmas.List.{length-map}
use Rattle.std.proofs.lemmas.Bool.{eqb-true, false_from_ne_true}
use Rattle.std.proofs.lemmas.Bool.Decides.{eqb_tells}
use Rattle.semantic_syntax.specs.Tables.{Name, Tables}
use Rattle.semantic_tree.specs.Faults.{first_fault}
use Rattle.semantic_tree.specs.Tree.{Tree}
use Rattle.semantic_tree.specs.declared.view.AstKind.{AstKind}
use Rattle.semantic_syntax.specs.NodeEntries.{NodeEntries}
use Rattle.semantic_model.specs.NodeTable.{Belongs, node_tables, number_of}
use Rattle.semantic_model.specs.Step.{steps}
use Rattle.semantic_model.specs.TablesOf.{tables_of}
use Rattle.semantic.specs.Shown.{entries}
use Rattle.semantic_model.specs.Analysis.{analysis_of, symbol_at}
use Rattle.name_lint.specs.Gathered.{Gathered, nothing_gathered, symbol_at_node, text_of, gathered_from, gathered_by}
use Rattle.name_lint.specs.Live.{AreOutsideSet, AreUnused, directly_exported}
use Rattle.name_lint.specs.Undeclared.{undeclared_from, undeclared, reference_names}
use Rattle.name_lint.specs.Uses.{owners}
use Rattle.name_lint.specs.Within.{LiveIn, OwnersAreSymbols}
use Rattle.name_lint.proofs.Passed.{passed}
use Rattle.name_lint.proofs.Bounded.{names_count, are_symbols}

flip : (a b : ℕ) → nat_eq a b ≡ (b == a)
flip a b = elim (eqb_tells a b) [
  | inl k ↦ k.0 ∙ sym (eq-eqb b a (sym k.1))
  | inr k ↦ k.0 ∙ sym (false_from_ne_true (b == a) (λ t. k.1 (sym (eqb-true b a t))))
]

-- the symbol that belongs to a node, by pairs and by the definition
numbers_told : (bs : List Belongs) (node : ℕ) → lookup (nat_eq node) (entries bs) ≡ number_of bs node
numbers_told [] node = refl
numbers_told (b ∷ bs) node = rw (flip node b.node) (ap (λ o. cond (b.node == node) (Some b.number) o) (numbers_told bs node))

module _ (p : Tree) (nodes : NodeEntries) (is_nodes : nodes.symbols ≡ entries (node_tables (steps p)).symbols) where
  symbols_told : symbol_at_node nodes ≡ symbol_at (analysis_of p)
  symbols_told = λ i node. (ap (lookup (nat_eq node)) is_nodes ∙ numbers_told (node_tables (steps p)).symbols node) i

  -- the pass gathers what the definitions take from the program
  pub pass_told : (g : Gathered) → g ≡ gathered_from (symbol_at_node nodes) None p.root nothing_gathered → g ≡ gathered_by (analysis_of p) (steps p)
  pass_told g e = e ∙ ap (λ (f : ℕ → Option ℕ). gathered_from f None p.root nothing_gathered) symbols_told ∙ passed (analysis_of p) p

  module _ (t : Tables) (is_tables : t ≡ tables_of p) (exported : List ℕ) (os : List (Option ℕ)) (is_exports : exported ≡ directly_exported (steps p)) (is_owners : os ≡ owners (analysis_of p) (steps p)) where
    pub all_symbols : first_fault p ≡ None → OwnersAreSymbols t (symbol_at_node nodes) exported os
    all_symbols h =
        subst (λ (x : Tables). OwnersAreSymbols x (symbol_at_node nodes) exported os) (sym is_tables)
        (subst (λ (f : ℕ → Option ℕ). OwnersAreSymbols (tables_of p) f exported os) (sym symbols_told)
        (subst (λ (x : List ℕ). OwnersAreSymbols (tables_of p) (symbol_at (analysis_of p)) x os) (sym is_exports)
        (subst (λ (x : List (Option ℕ)). OwnersAreSymbols (tables_of p) (symbol_at (analysis_of p)) (directly_exported (steps p)) x) (sym is_owners) (are_symbols p h))))

    pub unused_told : (xs : List ℕ) → AreOutsideSet (length t.symbols) (LiveIn t (symbol_at_node nodes) exported os) xs → AreUnused p xs
    unused_told xs h =
        subst (λ (x : List (Option ℕ)). AreOutsideSet (length (tables_of p).symbols) (LiveIn (tables_of p) (symbol_at (analysis_of p)) (directly_exported (steps p)) x) xs) is_owners
        (subst (λ (x : List ℕ). AreOutsideSet (length (tables_of p).symbols) (LiveIn (tables_of p) (symbol_at (analysis_of p)) x os) xs) is_exports
        (subst (λ (f : ℕ → Option ℕ). AreOutsideSet (length (tables_of p).symbols) (LiveIn (tables_of p) f exported os) xs) symbols_told
        (subst (λ (x : Tables). AreOutsideSet (length x.symbols) (LiveIn x (symbol_at_node nodes) exported os) xs) is_tables h)))

module _ (p : Tree) (t : Tables) (is_tables : t ≡ tables_of p) (references : List AstKind) (are_names : map text_of references ≡ reference_names (steps p)) where
  pub as_many : first_fault p ≡ None → length references ≡ length t.references
  as_many h = sym (length-map references text_of) ∙ ap length are_names ∙ names_count p h ∙ ap (λ (x : Tables). length x.references) (sym is_tables)

  pub undeclared_told : (known : List Name) → undeclared_from known t 0 (map text_of references) t.references ≡ undeclared known p
  undeclared_told known =
      ap (λ (names : List Name). undeclared_from known t 0 names t.references) are_names
      ∙ ap (λ (x : Tables). undeclared_from known x 0 (reference_names (steps p)) x.references) is_tables
