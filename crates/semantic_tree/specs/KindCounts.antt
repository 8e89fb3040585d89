-- How many nodes of each kind there are.
use Rattle.std.specs.Prelude.{◌≡◌, ℕ, ◌+◌, ◌≤◌, List, [], ◌∷◌, Bool, cond, get_or}
use denote.Enum.Declared.{tag_of}
use Rattle.semantic_kinds.specs.declared.kind.AstType.{AstType}
use Rattle.semantic_kinds.specs.contracts.kind.AstType.{the_type as the_kinds}
use Rattle.semantic_kinds.specs.Kinds.{same_kind}
use Rattle.semantic_tree.specs.Forest.{Forest, nothing, tree}
use Rattle.semantic_tree.specs.declared.kind_counts.KindCounts.{KindCounts}

-- how many nodes of the forest are of the kind
abbrev pub kind_count : AstType → Forest → ℕ
kind_count k nothing = 0
kind_count k (tree role kind span text marks below id after) =
    cond (same_kind k kind) 1 0 + kind_count k below + kind_count k after

-- how many nodes of the forest are of a kind that passes the test
abbrev pub how_many : (AstType → Bool) → Forest → ℕ
how_many test nothing = 0
how_many test (tree role kind span text marks below id after) =
    cond (test kind) 1 0 + how_many test below + how_many test after

-- how many nodes of the forest are of those of some kinds that pass the test
abbrev pub among_kinds : (AstType → Bool) → Forest → List AstType → ℕ
among_kinds test f [] = 0
among_kinds test f (k ∷ ks) = cond (test k) (kind_count k f) 0 + among_kinds test f ks

-- how many of the kind were counted
abbrev pub counted : KindCounts → AstType → ℕ
counted counts k = get_or counts.counts (tag_of the_kinds k) 0

-- at most so many of each kind were counted
abbrev pub CountsAreWithin : ℕ → KindCounts → Type 0
CountsAreWithin n counts = (k : AstType) → counted counts k ≤ n

-- the nodes of the forest were counted, too
abbrev pub AddsKinds : KindCounts → KindCounts → Forest → Type 0
AddsKinds old new f = (k : AstType) → counted new k ≡ counted old k + kind_count k f

-- the counts of the forest
abbrev pub AreKindsOf : KindCounts → Forest → Type 0
AreKindsOf counts f = (k : AstType) → counted counts k ≡ kind_count k f
