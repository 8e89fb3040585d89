-- Declarations of one name that keep clear of each other, and the symbols that they share.
use Rattle.std.specs.Prelude.{◌≡◌, ℕ, List, [], ◌∷◌, Bool, true, false, ◌⊎◌, Some, map}
use Rattle.semantic_syntax.specs.Members.{contains}
use Rattle.semantic_syntax.specs.Reading.{bound_in}
use Rattle.semantic_syntax.specs.Sets.{meets}
use Rattle.semantic_syntax.specs.Tables.{Name}
use Rattle.semantic_syntax.specs.declared.symbol_flags.TheConstants.SymbolFlags as symbol
use Rattle.semantic_tree.specs.Tree.{Tree}
use Rattle.semantic_model.specs.Declaration.{Declaration, Meets, hoisted, moved, caught, home}
use Rattle.semantic_model.specs.Entries.{Among}
use Rattle.semantic_model.specs.Event.{events, declarations}
use Rattle.semantic_model.specs.NodeTable.{node_tables}
use Rattle.semantic_model.specs.Step.{steps}
use Rattle.semantic_model.specs.TablesOf.{tables_of}

-- the name of a function expression, which each other declaration in its scope hides
abbrev pub is_own_name : Declaration → Bool
is_own_name d = meets d.naming.flags symbol.FunctionExpression.bits

-- the scopes that bind it in turn: its target, and the body that takes over a clause
abbrev pub IsBoundIn : Declaration → ℕ → Type 0
IsBoundIn d c = (d.route.target.number ≡ c) ⊎ (d.route.target.body ≡ Some c)

-- as a `var` it passes no scope that binds the other, as a function it meets the other on no way out of its block, and as a plain catch name it has its clause to itself
pub record KeepsClear (d e : Declaration) : Type 0 where
  pub as_variable : d.how ≡ hoisted → (c : ℕ) → contains (map (λ s. s.number) d.route.passed) c ≡ true → IsBoundIn e c → ⊥
  pub as_function : d.how ≡ moved → Meets d e → ⊥
  pub as_catch_name : d.how ≡ caught → IsBoundIn e d.route.target.number → ⊥

-- each of the two keeps clear of the other
abbrev pub KeepClear : Declaration → Declaration → Type 0
KeepClear d e = KeepsClear d e × KeepsClear e d

-- any two declarations of the name do
abbrev pub AllKeepClear : Name → List Declaration → Type 0
AllKeepClear name [] = Unit {0}
AllKeepClear name (d ∷ ds) = (d.naming.name ≡ name → (e : Declaration) → Among e ds → e.naming.name ≡ name → KeepClear d e) × AllKeepClear name ds

-- the symbol of the declaration is the one that its home binds
pub record HasHomesSymbol (p : Tree) (d : Declaration) : Type 0 where
  pub symbol : ℕ
  pub declared : Among (record { node = d.naming.identifier; number = symbol }) (node_tables (steps p)).symbols
  pub bound : bound_in (tables_of p) (home d) d.naming.name ≡ Some symbol

-- a declaration of the name whose home is the scope and whose symbol it is
pub record IsDeclaredAt (p : Tree) (name : Name) (scope symbol : ℕ) : Type 0 where
  pub declaration : Declaration
  pub among : Among declaration (declarations (events (steps p)))
  pub named : declaration.naming.name ≡ name
  pub stands : home declaration ≡ scope
  pub is : Among (record { node = declaration.naming.identifier; number = symbol }) (node_tables (steps p)).symbols

-- all declarations of the name with one home have one symbol, which that scope binds; the name of a function expression may have another, which they hide; and no other scope binds the name
pub record ShareSymbols (p : Tree) (name : Name) : Type 0 where
  pub share : (d : Declaration) → Among d (declarations (events (steps p))) → d.naming.name ≡ name → is_own_name d ≡ false → HasHomesSymbol p d
  pub bound : (c s : ℕ) → bound_in (tables_of p) c name ≡ Some s → IsDeclaredAt p name c s
