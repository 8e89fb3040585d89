-- Sets of kinds.
use Rattle.std.specs.Prelude.{List, Bool, false, get_or, filter}
use denote.Enum.Declared.{tag_of}
use Rattle.semantic_kinds.specs.declared.kind.AstType.{AstType}
use Rattle.semantic_kinds.specs.contracts.kind.AstType.{the_type as the_kinds}
use Rattle.semantic_kinds.specs.Kinds.{all_kinds}
use Rattle.node_store.specs.declared.bitset.AstTypesBitset.{AstTypesBitset}
use Rattle.node_store.specs.declared.bitset.AstTypesIter.{AstTypesIter}

-- the kind is set
abbrev pub set_has_kind : AstTypesBitset → AstType → Bool
set_has_kind set kind = get_or set.bits (tag_of the_kinds kind) false

-- the kinds that are set, in their order
abbrev pub kinds_in : AstTypesBitset → List AstType
kinds_in set = filter (set_has_kind set) all_kinds

-- the kinds that are left
abbrev pub kinds_left : AstTypesIter → List AstType
kinds_left it = filter (set_has_kind it.set.now) it.left.now
