-- What a store of nodes becomes by what is written behind a part that it lent.
use Rattle.std.specs.Prelude.{ℕ, [], slice_set}
use Rattle.std.specs.Borrow.{Lends, MutBor, Fml}
use mir.Syntax.{named}
use Rattle.semantic_syntax.specs.declared.node_flags.NodeFlags.{NodeFlags}
use Rattle.semantic_syntax.specs.contracts.node_flags.NodeFlags.{the_row as flags_row}
use Rattle.node_store.specs.NodeList.{NodeList}
use Rattle.node_store.specs.contracts.nodes.AstNodes.{the_row as nodes_row}

-- the store ends with the last flags behind the reference
abbrev pub LendsFlags : MutBor NodeList → ℕ → MutBor NodeFlags → Fml
LendsFlags s n r =
    Lends (nodes_row (record { mir = named 1; lft = [] })) flags_row s r
    (λ w. record s.now { flags = slice_set s.now.flags n w })
