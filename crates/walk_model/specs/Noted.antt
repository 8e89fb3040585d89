-- What belongs to nodes, as entries that are noted one by one.
use Rattle.std.specs.Prelude.{ℕ, List, [], map, fold, nat_eq}
use Rattle.indexmap.specs.IndexMap.{insert_entry}
use Rattle.semantic_model.specs.NodeTable.{Belongs}

abbrev pub with_entry : List (ℕ × ℕ) → Belongs → List (ℕ × ℕ)
with_entry es b = insert_entry nat_eq es b.node b.number

-- a node that is noted twice has the later number
abbrev pub entries_of : List Belongs → List (ℕ × ℕ)
entries_of bs = fold with_entry [] bs

-- nodes and numbers as they are
abbrev pub pairs_of : List Belongs → List (ℕ × ℕ)
pairs_of bs = map (λ b. (b.node, b.number)) bs
