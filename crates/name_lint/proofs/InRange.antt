-- The numbers that are found are numbers of symbols and of references.
use Rattle.std.proofs.Common.{◌≡◌, ◌<◌, ◌+◌, ℕ, List, [], ◌∷◌, Bool, true, false, All, cond, length, sym, subst, arith}
use Rattle.std.proofs.lemmas.List.Elements.{All-nil, All-cons}
use Rattle.semantic_syntax.specs.declared.references.Reference.{Reference}
use Rattle.semantic_syntax.specs.Tables.{Name, Tables}
use Rattle.semantic_tree.specs.Tree.{Tree}
use Rattle.semantic_model.specs.Step.{steps}
use Rattle.semantic_model.specs.TablesOf.{tables_of}
use Rattle.reachability.proofs.Within.{all_from}
use Rattle.name_lint.specs.Live.{AreUnused}
use Rattle.name_lint.specs.Undeclared.{is_undeclared, undeclared_from, undeclared, reference_names}

-- unused symbols are symbols
pub unused_below : (p : Tree) (t : Tables) (unused : List ℕ) → t ≡ tables_of p → AreUnused p unused → All (λ y. y < length t.symbols) unused
unused_below p t unused is found =
    subst (λ (x : Tables). All (λ y. y < length x.symbols) unused) (sym is) (all_from (λ y. y < length (tables_of p).symbols) unused (λ y among. ((found.exact y).0 among).0))

-- of references that are numbered from n on
below_from : (known : List Name) (t : Tables) (n bound : ℕ) (names : List Name) (rs : List Reference) → n + length names ≡ bound → All (λ r. r < bound) (undeclared_from known t n names rs)
below_from known t n bound [] [] is = All-nil (λ r. r < bound)
below_from known t n bound [] (r ∷ rs) is = All-nil (λ r. r < bound)
below_from known t n bound (name ∷ names) [] is = All-nil (λ r. r < bound)
below_from known t n bound (name ∷ names) (r ∷ rs) is = by (is_undeclared known t name r) (omega (arith, is)) (below_from known t (n + 1) bound names rs (omega (arith, is)))
  where
    by : (c : Bool) → n < bound → All (λ x. x < bound) (undeclared_from known t (n + 1) names rs) → All (λ x. x < bound) (cond c (n ∷ undeclared_from known t (n + 1) names rs) (undeclared_from known t (n + 1) names rs))
    by true first later = All-cons (λ x. x < bound) n (undeclared_from known t (n + 1) names rs) first later
    by false first later = later

-- undeclared references are references
pub undeclared_below : (known : List Name) (p : Tree) (found : List ℕ) (bound : ℕ) → length (reference_names (steps p)) ≡ bound → found ≡ undeclared known p → All (λ r. r < bound) found
undeclared_below known p found bound is same =
    subst (λ xs. All (λ r. r < bound) xs) (sym same) (below_from known (tables_of p) 0 bound (reference_names (steps p)) (tables_of p).references (omega (arith, is)))
