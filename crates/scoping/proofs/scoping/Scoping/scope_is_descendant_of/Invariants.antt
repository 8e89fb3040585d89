use Rattle.std.proofs.Common.{◌≡◌, nat_eq, drop}
use Rattle.std.specs.List.{list_any}
use Rattle.semantic_syntax.specs.Reading.{chain}
use Rattle.scoping.proofs.scoping.Scoping.scope_is_descendant_of.Given as goal

abbrev pub invariant-loop-around : goal.invariant-loop-around
invariant-loop-around l = list_any (nat_eq l.ancestor) (drop 1 (chain l.self.scopes l.fn.scope)) ≡ list_any (nat_eq l.ancestor) l.around-iterator
