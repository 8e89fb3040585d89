use Rattle.std.proofs.Common.{◌≡◌}
use Rattle.std.specs.List.{list_all}
use Rattle.node_store.specs.KindSets.{set_has_kind, kinds_in, kinds_left}
use Rattle.node_store.proofs.bitset.AstTypesBitset.contains.Given as goal

-- the kinds that are left decide
abbrev pub invariant-loop-ty : goal.invariant-loop-ty
invariant-loop-ty l = list_all (set_has_kind l.self) (kinds_left l.ty-iterator) ≡ list_all (set_has_kind l.self) (kinds_in l.other)
