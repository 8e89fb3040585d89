use Rattle.std.proofs.Common.{◌≡◌}
use Rattle.std.specs.List.{list_any}
use Rattle.node_store.specs.KindSets.{set_has_kind, kinds_in, kinds_left}
use Rattle.node_store.proofs.bitset.AstTypesBitset.intersects.Given as goal

-- the kinds that are left decide
abbrev pub invariant-loop-ty : goal.invariant-loop-ty
invariant-loop-ty l = list_any (set_has_kind l.other) (kinds_left l.ty-iterator) ≡ list_any (set_has_kind l.other) (kinds_in l.self)
