-- What an analysis becomes by what is written behind a part that it lent.
use Rattle.std.specs.Prelude.{[]}
use Rattle.std.specs.Borrow.{Lends, MutBor, Fml}
use mir.Syntax.{named}
use Rattle.semantic_syntax.specs.Tables.{Tables}
use Rattle.scoping.specs.contracts.scoping.Scoping as scoping
use Rattle.semantic_queries.specs.declared.semantic.Semantic.{Semantic}
use Rattle.semantic_queries.specs.contracts.semantic.Semantic as semantic

-- the analysis ends with the last scopes, symbols, bindings and references behind the reference
abbrev pub LendsScoping : MutBor Semantic → MutBor Tables → Fml
LendsScoping s lent =
    Lends (semantic.the_row (record { mir = named 1; lft = [] })) scoping.the_row s lent
    (λ t. record s.now { scoping = t })
