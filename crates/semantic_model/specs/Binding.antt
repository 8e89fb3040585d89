-- The bindings of all scopes, in one list of triples.
use Rattle.std.specs.Prelude.{ℕ, ◌==◌, List, [], ◌∷◌, Bool, ◌&&◌, Option, Some, None, cond, bytes_eq}
use Rattle.semantic_syntax.specs.Tables.{Name, Bindings}

-- a scope binds a name to a symbol
pub record Binding : Type 0 where
  pub scope : ℕ
  pub name : Name
  pub symbol : ℕ

abbrev pub is_binding_of : ℕ → Name → Binding → Bool
is_binding_of c x b = b.scope == c && bytes_eq b.name x

-- the symbol to which scope c binds the name
abbrev pub get : List Binding → ℕ → Name → Option ℕ
get [] c x = None
get (b ∷ bs) c x = cond (is_binding_of c x b) (Some b.symbol) (get bs c x)

-- a bound name changes its symbol in place, a new one goes last
abbrev pub put : List Binding → ℕ → Name → ℕ → List Binding
put [] c x s = record { scope = c; name = x; symbol = s } ∷ []
put (b ∷ bs) c x s = cond (is_binding_of c x b) (record b { symbol = s } ∷ bs) (b ∷ put bs c x s)

-- the others keep their order
abbrev pub remove : List Binding → ℕ → Name → List Binding
remove [] c x = []
remove (b ∷ bs) c x = cond (is_binding_of c x b) (remove bs c x) (b ∷ remove bs c x)

-- the name moves from scope c to scope d, if c binds it
abbrev pub move : List Binding → ℕ → ℕ → Name → List Binding
move bs c d x = elim (get bs c x) [ None ↦ bs | Some s ↦ put (remove bs c x) d x s ]

-- all that scope c binds is bound by scope d
abbrev pub take_over : List Binding → ℕ → ℕ → List Binding
take_over [] c d = []
take_over (b ∷ bs) c d = cond (b.scope == c) (record b { scope = d }) b ∷ take_over bs c d

-- what scope c binds, in order
abbrev pub bound_by : List Binding → ℕ → Bindings
bound_by [] c = []
bound_by (b ∷ bs) c = cond (b.scope == c) ((b.name, b.symbol) ∷ bound_by bs c) (bound_by bs c)
