-- Which symbols are in use: a least set.
use Rattle.std.specs.Prelude.{◌<◌, ◌↔◌, ℕ, ◌+◌, List, [], ◌∷◌, ◌++◌, Bool, ◌||◌, Option, Some, None, cond, length, filter_map}
use Rattle.semantic_syntax.specs.declared.scope_flags.TheConstants.ScopeFlags as scope
use Rattle.semantic_syntax.specs.declared.symbol_flags.TheConstants.SymbolFlags as symbol
use Rattle.semantic_syntax.specs.Sets.{meets}
use Rattle.semantic_syntax.specs.Tables.{Tables, Symbol}
use Rattle.semantic_syntax.specs.Reading.{scope_flags}
use Rattle.semantic_tree.specs.Tree.{Tree}
use Rattle.semantic_model.specs.Step.{Step, steps}
use Rattle.semantic_model.specs.TablesOf.{tables_of}
use Rattle.reachability.specs.Rows.{Among, Reached, rows_from_pairs}
use Rattle.semantic_model.specs.Analysis.{Analysis, analysis_of, symbol_at}
use Rattle.semantic_model.specs.Exported.{exported_names, default_exported_names}
use Rattle.name_lint.specs.Uses.{OwnedUse, uses_by, owners}

-- whether a symbol counts as used whatever refers to it: a member of an enum, the name of a function expression, one that is only declared, or one that a direct call of `eval` may name
abbrev pub is_sure : Tables → Symbol → Bool
is_sure t y =
    meets y.flags.bits symbol.EnumMember.bits || meets y.flags.bits symbol.FunctionExpression.bits || meets y.flags.bits symbol.Ambient.bits
    || meets (scope_flags t y.scope) scope.DirectEval.bits

-- the numbers of such symbols, of those that are numbered from n on
abbrev pub sure_from : Tables → ℕ → List Symbol → List ℕ
sure_from t n [] = []
sure_from t n (y ∷ ys) = cond (is_sure t y) (n ∷ sure_from t (n + 1) ys) (sure_from t (n + 1) ys)

-- what a use outside of declarations uses
abbrev pub free_use : OwnedUse → Option ℕ
free_use u = elim u.owner [ None ↦ Some u.used | Some o ↦ None ]

-- the symbols that are in use whatever else is: sure ones, exported ones, and those that are used outside of declarations
abbrev pub at_once : Tables → (ℕ → Option ℕ) → (exported : List ℕ) → List (Option ℕ) → List ℕ
at_once t symbol exported os = sure_from t 0 t.symbols ++ filter_map symbol exported ++ filter_map free_use (uses_by os t.references)

-- the binding identifiers bound by declarations directly under exports
abbrev pub directly_exported : List Step → List ℕ
directly_exported walk = exported_names walk ++ default_exported_names walk

abbrev pub live_at_once : Analysis → List Step → List ℕ
live_at_once a walk = at_once a.tables (symbol_at a) (directly_exported walk) (owners a walk)

-- an owner, and a symbol that it uses
abbrev pub owned_use : OwnedUse → Option (ℕ × ℕ)
owned_use u = elim u.owner [ None ↦ None | Some o ↦ Some (o, u.used) ]

abbrev pub owned_by : Tables → List (Option ℕ) → List (ℕ × ℕ)
owned_by t os = filter_map owned_use (uses_by os t.references)

abbrev pub owned_uses : Analysis → List Step → List (ℕ × ℕ)
owned_uses a walk = owned_by a.tables (owners a walk)

-- the least set that has those, and with an owner what it uses
abbrev pub LiveBy : Analysis → List Step → ℕ → Type 0
LiveBy a walk s = Reached (rows_from_pairs (length a.tables.symbols) (owned_uses a walk)) (live_at_once a walk) s

-- the symbol is in use in the program
abbrev pub Live : Tree → ℕ → Type 0
Live p s = LiveBy (analysis_of p) (steps p) s

-- ---- what is not

-- the numbers rise
abbrev pub IsRising : List ℕ → Type 0
IsRising [] = Unit {0}
IsRising (x ∷ xs) = ((y : ℕ) → Among y xs → x < y) × IsRising xs

-- the numbers below a bound that are not in the set, ascending
pub record AreOutsideSet (bound : ℕ) (Set : ℕ → Type 0) (xs : List ℕ) : Type 0 where
  pub rises : IsRising xs
  pub exact : (x : ℕ) → Among x xs ↔ ((x < bound) × (Set x → ⊥))

-- the symbols of the program that are not in use, ascending
abbrev pub AreUnused : Tree → List ℕ → Type 0
AreUnused p xs = AreOutsideSet (length (tables_of p).symbols) (Live p) xs

-- the numbers of the marks that are not set, of those that are numbered from n on
abbrev pub unmarked_from : ℕ → List Bool → List ℕ
unmarked_from n [] = []
unmarked_from n (b ∷ bs) = cond b (unmarked_from (n + 1) bs) (n ∷ unmarked_from (n + 1) bs)
