-- A new name for a symbol whose name belongs to it alone makes no difference.
use Rattle.std.proofs.Common.{◌≡◌, ◌||◌, ℕ, [], Bool, true, false, Option, Some, None, Err, inl, inr, refl, sym, ap, ◌∙◌, bytes_eq, codes}
use Rattle.std.specs.Prelude.{slice_get}
use Rattle.semantic_syntax.specs.Tables.{Name, Symbol}
use Rattle.semantic_tree.specs.Children.{node_count}
use Rattle.semantic_tree.specs.Faults.{first_fault}
use Rattle.semantic_tree.specs.Tree.{Tree, IsNumbered}
use Rattle.semantic_model.specs.Step.{steps}
use Rattle.semantic_model.specs.Swap.{IsSwappable}
use Rattle.semantic_model.specs.TablesOf.{tables_of}
use Rattle.semantic_model.proofs.form.Shape.{has_form}
use Rattle.semantic_model.proofs.once.ListedUnder.{name_tells}
use Rattle.rename_model.proofs.NameShape.{no_fault_made, numbers_kept}
use Rattle.semantic_model.specs.Analysis.{analysis_of}
use Rattle.semantic_model.specs.Exported.{exported_names}
use Rattle.rename_model.specs.Alone.{BelongsTo, IsUnused}
use Rattle.rename_model.specs.Refusal.{differs, is_bad_name, first_fixed, compared, unless_fixed, unless_bad, rename}
use Rattle.rename_model.specs.Renamed.{bears_name, program_renamed}
use Rattle.rename_model.specs.Same.{Same, first_difference}
use Rattle.rename_model.proofs.AloneNames.{are_identifiers, some_name, stands_alone}
use Rattle.rename_model.proofs.Differences.{complete}
use Rattle.rename_model.proofs.Swaps.{alone_means_same}

other_way : (t u : Name) → bytes_eq t u ≡ false → bytes_eq u t ≡ false
other_way t u h = elim (name_tells u t) [ inr k ↦ k.0 | inl k ↦ elim (name_tells t u) [ inr q ↦ absurd (q.1 (sym k.1)) | inl q ↦ (let w : true ≡ false = sym q.0 ∙ h in absurd cc) ] ]

not_empty : (t : Name) → (t ≡ [] → ⊥) → bytes_eq [] t ≡ false
not_empty t h = elim (name_tells [] t) [ inr k ↦ k.0 | inl k ↦ absurd (h (sym k.1)) ]

-- a name that may be given
pub good : (name : Name) → is_bad_name name ≡ false → (bytes_eq name [] ≡ false) × (bytes_eq name (codes "arguments") ≡ false) × (bytes_eq name (codes "eval") ≡ false)
good name h = go (bytes_eq name []) (bytes_eq name (codes "arguments")) (bytes_eq name (codes "eval")) h
  where
    go : (a b c : Bool) → (a || b || c) ≡ false → (a ≡ false) × (b ≡ false) × (c ≡ false)
    go true b c e = absurd cc
    go false true c e = absurd cc
    go false false true e = absurd cc
    go false false false e = (refl, refl, refl)

module _ (p : Tree) (faultless : first_fault p ≡ None) (numbered : IsNumbered p.root) (s : ℕ) (y : Symbol) (there : slice_get (tables_of p).symbols s ≡ Some y) where
  -- what is compared has no fault
  pub no_fault_renamed : (new : Name) → is_bad_name new ≡ false → first_fixed (exported_names (steps p)) (bears_name (analysis_of p) s) (steps p) ≡ None → (first_fault (program_renamed p (analysis_of p) s new) ≡ None) × IsNumbered (program_renamed p (analysis_of p) s new).root
  no_fault_renamed new bad free =
      (no_fault_made (bears_name (analysis_of p) s) new (good new bad).0 p (are_identifiers p faultless numbered s y there free) faultless, numbers_kept (bears_name (analysis_of p) s) new p numbered)

  swappable : (name : Name) → (name ≡ [] → ⊥) → bytes_eq name (codes "arguments") ≡ false → bytes_eq name (codes "eval") ≡ false → IsSwappable name
  swappable name some a e = record { not_empty = not_empty name some; not_arguments = other_way name (codes "arguments") a; not_eval = other_way name (codes "eval") e }

  module _ (new : Name) (arguments : bytes_eq y.name (codes "arguments") ≡ false) (eval : bytes_eq y.name (codes "eval") ≡ false) (alone : BelongsTo p s y.name) (unused : IsUnused p new) where
    abbrev chosen : ℕ → Bool
    chosen = bears_name (analysis_of p) s

    means_same : is_bad_name new ≡ false → first_fixed (exported_names (steps p)) chosen (steps p) ≡ None → Same p (program_renamed p (analysis_of p) s new)
    means_same bad free =
        let g : (bytes_eq new [] ≡ false) × (bytes_eq new (codes "arguments") ≡ false) × (bytes_eq new (codes "eval") ≡ false) = good new bad in
        alone_means_same chosen y.name new p (sym (has_form p faultless).root)
        (swappable y.name (some_name p faultless numbered s y there free) arguments eval)
        (swappable new (λ e. (let w : bytes_eq new [] ≡ true = ap (λ t. bytes_eq t []) e in let q : false ≡ true = sym g.0 ∙ w in absurd cc)) g.1 g.2)
        (stands_alone p faultless numbered s y there free new alone unused)

    pub never_differs : (node : ℕ) → rename p s new ≡ Err (differs node) → ⊥
    never_differs node h = go (is_bad_name new) refl h
      where
        by_difference : (q : Tree) (o : Option ℕ) → o ≡ None → compared p (analysis_of p) q o ≡ Err (differs node) → ⊥
        by_difference q None e k = absurd cc
        by_difference q (Some n) e k = absurd cc

        by_fixed : is_bad_name new ≡ false → (o : Option ℕ) → first_fixed (exported_names (steps p)) (bears_name (analysis_of p) s) (steps p) ≡ o → unless_fixed p (analysis_of p) (bears_name (analysis_of p) s) new o ≡ Err (differs node) → ⊥
        by_fixed bad (Some n) e k = absurd cc
        by_fixed bad None e k =
            let q : Tree = program_renamed p (analysis_of p) s new in
            by_difference q (first_difference (analysis_of p) (analysis_of q) 0 (node_count p.root)) (complete p q (means_same bad e)) k

        go : (b : Bool) → is_bad_name new ≡ b → unless_bad b p (steps p) (analysis_of p) s new ≡ Err (differs node) → ⊥
        go true e k = absurd cc
        go false e k = by_fixed e (first_fixed (exported_names (steps p)) (bears_name (analysis_of p) s) (steps p)) refl k
