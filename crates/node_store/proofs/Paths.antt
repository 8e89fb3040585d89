-- The path to a node of a store.
use Rattle.std.proofs.Common.{ℕ, zero, suc, ◌<◌, List, [], ◌∷◌, length, arith}
use Rattle.std.proofs.lemmas.Option.{slice_get-get_or}
use Rattle.node_store.specs.NodeList.{NodeList, SeenNode}
use Rattle.node_store.specs.PathIn.{path_in}

pub some_first : (nodes : List SeenNode) → 0 < length nodes → SeenNode
some_first [] h = absurd (omega arith)
some_first (s ∷ ss) h = s

-- a path in a store has a first node
pub has_first : (list : NodeList) (n : ℕ) → n < length list.nodes → 0 < length (path_in list n)
has_first list zero h =
    rw (slice_get-get_or list.nodes zero (some_first list.nodes (omega arith)) h) (omega arith)
has_first list (suc n) h =
    rw (slice_get-get_or list.nodes (suc n) (some_first list.nodes (omega arith)) h) (omega arith)
