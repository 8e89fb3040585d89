-- What a program has declared wherever its events stop, and what a renaming keeps of it.
use Rattle.std.specs.Prelude.{◌≡◌, ℕ, ◌==◌, Some, cond, map, slice_get, take}
use Rattle.semantic_syntax.specs.Tables.{Name, Symbol}
use Rattle.semantic_tree.specs.Tree.{Tree}
use Rattle.semantic_model.specs.Event.{events}
use Rattle.semantic_model.specs.Fold.{State, start}
use Rattle.semantic_model.specs.Hoist.{run}
use Rattle.semantic_model.specs.Step.{steps}
use Rattle.check_model.specs.SightOf.{symbol_pair}
use Rattle.renaming_laws.specs.KeptConflicts.{AreRenamedConflicts}
use Rattle.renaming_laws.specs.KeptDeclarations.{declared_as}

-- what the first n events make
abbrev pub state_after : Tree → ℕ → State
state_after p n = run start (take n (events (steps p)))

-- by then as many symbols, each declared as it was, of which one has the new name; the same identifiers with the same symbols; and the same conflicts
pub record KeepsSoFar (p q : Tree) (s : ℕ) (new : Name) (n : ℕ) : Type 0 where
  pub symbols : map declared_as (state_after q n).symbols ≡ map declared_as (state_after p n).symbols
  pub names : (r : ℕ) (y z : Symbol) → slice_get (state_after p n).symbols r ≡ Some y → slice_get (state_after q n).symbols r ≡ Some z → z.name ≡ cond (r == s) new y.name
  pub declared : map symbol_pair (state_after q n).made ≡ map symbol_pair (state_after p n).made
  pub conflicts : AreRenamedConflicts p s new (state_after p n).conflicts (state_after q n).conflicts
