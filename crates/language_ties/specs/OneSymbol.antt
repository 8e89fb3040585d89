-- The symbols of the identifiers by which an environment binds a name.
use Rattle.std.specs.Prelude.{◌≡◌, ℕ, List, [], ◌∷◌, false, Some, cond}
use Rattle.semantic_syntax.specs.Tables.{Name}
use Rattle.semantic_tree.specs.Tree.{Tree}
use Rattle.semantic_model.specs.Analysis.{analysis_of, symbol_at}
use Rattle.semantic_model.specs.Entries.{Among}
use Rattle.semantic_model.specs.Place.{Place}
use Rattle.semantic_model.specs.Step.{entering, steps}
use Rattle.language_ties.specs.AgreeingNames.{leaves_block}
use Rattle.language_ties.specs.Bound.{Bound, bound_by_node, is_bound_as, written}
use Rattle.language_ties.specs.Environments.{Environment}
use Rattle.language_ties.specs.ToldNames.{may_leave_block}
use Rattle.language_ties.specs.declared.bound_as.BoundAs.TheVariants as bound

-- a node binds it, neither as a function that may leave its block nor as the own name of an expression
pub record IsBoundByNode (p : Tree) (b : Bound) : Type 0 where
  pub place : Place
  pub entered : Among (entering place) (steps p)
  pub no_leaving : may_leave_block p.source_type place.node place.path ≡ false
  pub no_own_name : is_bound_as bound.OwnName b ≡ false
  pub binds : Among b (bound_by_node place.node.kind p.source_type place.node place.path)

-- both identifiers have one symbol
pub record HaveOneSymbol (p : Tree) (b c : Bound) : Type 0 where
  pub symbol : ℕ
  pub first : symbol_at (analysis_of p) b.identifier ≡ Some symbol
  pub second : symbol_at (analysis_of p) c.identifier ≡ Some symbol

-- any two by which the environments of one node bind the name
abbrev pub EnvironmentsHaveOneSymbol : Tree → Name → Type 0
EnvironmentsHaveOneSymbol p name =
    (b c : Bound) → IsBoundByNode p b → IsBoundByNode p c → b.name ≡ name → c.name ≡ name → b.environment.maker ≡ c.environment.maker → HaveOneSymbol p b c

abbrev pub first_or : Environment → List Environment → Environment
first_or d [] = d
first_or d (e ∷ es) = e

-- where it is bound, and a function that leaves its block, where its variable is
abbrev pub last_environment : Bound → Environment
last_environment b = cond (leaves_block b) (first_or b.environment b.also) b.environment

-- any two by which the environments of one node bind the name so
abbrev pub VariablesHaveOneSymbol : Tree → Name → Type 0
VariablesHaveOneSymbol p name =
    (b c : Bound) → Among b (written p.source_type (steps p)) → Among c (written p.source_type (steps p)) → b.name ≡ name → c.name ≡ name → is_bound_as bound.OwnName b ≡ false → is_bound_as bound.OwnName c ≡ false
    → (last_environment b).maker ≡ (last_environment c).maker → HaveOneSymbol p b c
