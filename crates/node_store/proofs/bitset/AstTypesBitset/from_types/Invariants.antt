use Rattle.std.proofs.Common.{◌≡◌, take}
use Rattle.std.specs.List.{list_any}
use Rattle.semantic_kinds.specs.declared.kind.AstType.{AstType}
use Rattle.semantic_kinds.specs.Kinds.{same_kind}
use Rattle.node_store.specs.KindSets.{set_has_kind}
use Rattle.node_store.proofs.bitset.AstTypesBitset.from_types.Given as goal

-- the kinds so far are set
abbrev pub invariant-loop-ty : goal.invariant-loop-ty
invariant-loop-ty l = (k : AstType) → set_has_kind l.made k ≡ list_any (same_kind k) (take l.ty-index l.types)
