-- The tables of a walk show a state of the fold over what a program declares.
use Rattle.std.specs.Prelude.{◌≡◌, ℕ, List, [], ◌∷◌, None, cond, fold, length}
use Rattle.std.specs.Ordering.{nat_cmp}
use Rattle.std.specs.BTreeSet.{insert_key}
use Rattle.semantic_syntax.specs.Reading.{bindings_of}
use Rattle.semantic_model.specs.Binding.{Binding, get, bound_by}
use Rattle.semantic_model.specs.Fold.{State, Made}
use Rattle.semantic_model.specs.NodeTable.{symbols_of}
use Rattle.walk_model.specs.Noted.{entries_of}
use Rattle.walk_model.specs.WalkState.{WalkState}

-- no scope binds a name twice
abbrev pub BindsOnce : List Binding → Type 0
BindsOnce [] = Unit {0}
BindsOnce (b ∷ bs) = (get bs b.scope b.name ≡ None) × BindsOnce bs

-- the symbols without side effects, as they are declared
abbrev pub pure_of : List Made → List ℕ
pure_of ms = fold (λ ys m. cond m.declaration.naming.is_pure (insert_key nat_cmp ys m.symbol) ys) [] ms

-- bindings by their scopes, symbols and all that is noted of declarations are those of the state
pub record ShowsFold (w : WalkState) (st : State) : Type 0 where
  pub scopes : length w.tables.bindings ≡ length w.tables.scopes
  pub bindings : (c : ℕ) → bindings_of w.tables c ≡ bound_by st.bindings c
  pub once : BindsOnce st.bindings
  pub symbols : w.tables.symbols ≡ st.symbols
  pub uses : length w.tables.uses ≡ length st.symbols
  pub pure_symbols : w.tables.pure_symbols ≡ pure_of st.made
  pub nodes : w.nodes.symbols ≡ entries_of (symbols_of st)
  pub remembered : w.remembered ≡ st.remembered
  pub conflicts : w.conflicts ≡ st.conflicts
