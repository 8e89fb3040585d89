-- What a reference sees of the scopes around it, in terms of declarations: of a scope whose header holds it, not those in the body.
use Rattle.std.specs.Prelude.{◌≡◌, ℕ, ◌==◌, List, ◌&&◌, ◌||◌, Bool, Option, Some, None, cond, map, filter, fold, option_map, bytes_eq, slice_get}
use Rattle.semantic_syntax.specs.declared.symbol_flags.TheConstants.SymbolFlags as symbol
use Rattle.semantic_syntax.specs.declared.references.Reference.{Reference}
use Rattle.semantic_syntax.specs.Lookup.{Seen, Asked, lookup}
use Rattle.semantic_syntax.specs.Reading.{bound_in, symbol_flags}
use Rattle.semantic_syntax.specs.Sets.{meets, union}
use Rattle.semantic_syntax.specs.Tables.{Name, Tables}
use Rattle.semantic_tree.specs.Tree.{Tree}
use Rattle.semantic_model.specs.Declaration.{Declaration}
use Rattle.semantic_model.specs.Fold.{Made}
use Rattle.semantic_model.specs.Place.{OpenScope}
use Rattle.semantic_model.specs.Reference.{Occurrence, references}
use Rattle.semantic_model.specs.Step.{steps}
use Rattle.semantic_model.specs.TablesOf.{tables_of, made_of}
use Rattle.semantic_model.specs.Tie.{symbol_by}

-- whether it declares the own name of a function expression
abbrev pub is_own_name : Declaration → Bool
is_own_name d = meets d.naming.flags symbol.FunctionExpression.bits

-- whether it declares in the scope without standing in its body: in the header, or as the function's own name
abbrev pub stands_before_body : ℕ → Declaration → Bool
stands_before_body c d = d.route.target.number == c && (d.route.target.in_header || is_own_name d)

-- and declares the name
abbrev pub is_before_body : ℕ → Name → Made → Bool
is_before_body c x m = stands_before_body c m.declaration && bytes_eq m.declaration.naming.name x

abbrev pub seen_alone : Made → Seen
seen_alone m = record { symbol = m.symbol; flags = m.declaration.naming.flags }

-- one more declaration: it adds its flags to its symbol, or hides another symbol
abbrev pub with_declaration : Option Seen → Made → Option Seen
with_declaration None m = Some (seen_alone m)
with_declaration (Some s) m = Some (cond (s.symbol == m.symbol) (record s { flags = union s.flags m.declaration.naming.flags }) (seen_alone m))

-- the symbol that declarations of one name bind in a scope, with the flags that they give to it
abbrev pub bound_by_all : List Made → Option Seen
bound_by_all ms = fold with_declaration None ms

-- what the scope binds the name to by the declarations that don't stand in its body
abbrev pub bound_before_body : Tree → ℕ → Name → Option Seen
bound_before_body p c x = bound_by_all (filter (is_before_body c x) (made_of p))

abbrev pub seen_with_flags : Tables → ℕ → Seen
seen_with_flags t s = record { symbol = s; flags = symbol_flags t s }

-- what the scope binds the name to in the end
abbrev pub bound_in_end : Tree → ℕ → Name → Option Seen
bound_in_end p c x = option_map (seen_with_flags (tables_of p)) (bound_in (tables_of p) c x)

-- a scope round a reference, and what that sees of it
abbrev pub asked_of : Tree → Name → OpenScope → Asked
asked_of p x s = record { scope = s.number; flags = s.flags; bound = cond s.in_header (bound_before_body p s.number x) (bound_in_end p s.number x) }

-- the symbol of the first scope outward in which the name is bound to one that the reference may mean
abbrev pub first_seen : Tree → Occurrence → Option ℕ
first_seen p r = symbol_by (lookup r.name r.way (map (asked_of p r.name) r.chain))

-- each reference has that symbol, and none is free but for want of it
abbrev pub TiesAreOutward : Tree → Type 0
TiesAreOutward p = (n : ℕ) (r : Occurrence) (e : Reference) → slice_get (references (steps p)) n ≡ Some r → slice_get (tables_of p).references n ≡ Some e → e.symbol_id ≡ first_seen p r
