-- What the events of a program make: bindings, symbols and conflicts.
use Rattle.std.specs.Prelude.{ℕ, zero, suc, List, [], ◌∷◌, ◌++◌, Option, Some, None, cond, length, slice_get}
use Rattle.std.specs.Option.{unwrap_or}
use Rattle.semantic_syntax.specs.declared.spans.Span.{Span}
use Rattle.semantic_syntax.specs.declared.symbol_flags.TheConstants.SymbolFlags as symbol
use Rattle.semantic_syntax.specs.Sets.{meets, union}
use Rattle.semantic_syntax.specs.declared.references.Redeclaration.{Redeclaration}
use Rattle.semantic_syntax.specs.Tables.{Name, Symbol}
use Rattle.semantic_syntax.specs.Reading.{own_entry}
use Rattle.semantic_model.specs.Naming.{Naming}
use Rattle.semantic_model.specs.Declaration.{Declaration}
use Rattle.semantic_model.specs.Binding.{Binding, get, put}

-- a name is declared although it may not be: the span of its symbol, and that of the new declaration
pub record Conflict : Type 0 where
  pub name : Name
  pub earlier : Span
  pub later : Span

-- a declaration and its symbol
pub record Made : Type 0 where
  pub declaration : Declaration
  pub symbol : ℕ

pub record State : Type 0 where
  pub bindings : List Binding
  -- names that a scope doesn't bind, but knows of
  pub remembered : List Binding
  pub symbols : List Symbol
  pub made : List Made
  pub conflicts : List Conflict

abbrev pub start : State
start = record { bindings = []; remembered = []; symbols = []; made = []; conflicts = [] }

abbrev pub update : (Symbol → Symbol) → List Symbol → ℕ → List Symbol
update f [] n = []
update f (y ∷ ys) zero = f y ∷ ys
update f (y ∷ ys) (suc n) = y ∷ update f ys n

abbrev pub flags_or_none : Option Symbol → ℕ
flags_or_none None = 0
flags_or_none (Some y) = y.flags.bits

abbrev pub flags_of : State → ℕ → ℕ
flags_of st s = flags_or_none (slice_get st.symbols s)

abbrev pub or_else : Option ℕ → Option ℕ → Option ℕ
or_else (Some s) o = Some s
or_else None o = o

-- the symbol, unless it is a function expression's, by the flags of each
abbrev pub unless_expression : (ℕ → ℕ) → Option ℕ → Option ℕ
unless_expression flags None = None
unless_expression flags (Some s) = cond (meets (flags s) symbol.FunctionExpression.bits) None (Some s)

-- the symbol that a scope binds to the name, else the one that it remembers; the name of a function expression counts as none
abbrev pub found : State → ℕ → Name → Option ℕ
found st c x = unless_expression (flags_of st) (or_else (get st.bindings c x) (get st.remembered c x))

abbrev pub redeclaration_of : Naming → Redeclaration
redeclaration_of n = record { span = n.span; declaration = n.node; flags = record { bits = n.flags } }

-- one more declaration of the symbol; without a list, its own goes first
abbrev pub redeclared : Naming → Symbol → Symbol
redeclared n y = record y { redeclarations = Some (unwrap_or y.redeclarations (own_entry y ∷ []) ++ redeclaration_of n ∷ []) }

abbrev pub united : ℕ → Symbol → Symbol
united flags y = record y { flags = record { bits = union y.flags.bits flags } }

abbrev pub in_scope : ℕ → Symbol → Symbol
in_scope c y = record y { scope = c }

abbrev pub new_symbol : ℕ → Naming → Symbol
new_symbol c n = record { name = n.name; span = n.span; flags = record { bits = n.flags }; scope = c; node = n.node; redeclarations = None }

-- the declaration gets the symbol
abbrev pub note_symbol : State → Declaration → ℕ → State
note_symbol st d s = record st { made = st.made ++ record { declaration = d; symbol = s } ∷ [] }

-- a new symbol, bound in the scope
abbrev pub make : State → ℕ → Declaration → State
make st c d =
    note_symbol (record st { bindings = put st.bindings c d.naming.name (length st.symbols); symbols = st.symbols ++ new_symbol c d.naming ∷ [] })
    d (length st.symbols)

-- a conflict where the symbol's flags meet the excluded ones
abbrev pub conflict_of : Naming → Symbol → List Conflict
conflict_of n y = cond (meets y.flags.bits n.excluded) (record { name = n.name; earlier = y.span; later = n.span } ∷ []) []

abbrev pub conflict_with : Naming → Option Symbol → List Conflict
conflict_with n None = []
conflict_with n (Some y) = conflict_of n y

-- a conflict with the symbol is noted
abbrev pub against : State → Declaration → ℕ → State
against st d s = record st { conflicts = st.conflicts ++ conflict_with d.naming (slice_get st.symbols s) }

-- declared in a scope, by what was found there
abbrev pub declare_in : State → ℕ → Declaration → Option ℕ → State
declare_in st c d None = make st c d
declare_in st c d (Some s) =
    let noted : State = against st d s in
    note_symbol (record noted { symbols = update (λ y. united d.naming.flags (redeclared d.naming y)) noted.symbols s }) d s

-- the symbol that a declaration gets then
abbrev pub chosen : State → Option ℕ → ℕ
chosen st None = length st.symbols
chosen st (Some s) = s
