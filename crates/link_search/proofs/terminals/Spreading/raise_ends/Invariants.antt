use Rattle.std.proofs.Common.{◌≡◌, drop, length}
use Rattle.link_search.specs.Reached.{with_ends}
use Rattle.link_search.proofs.terminals.Spreading.raise_ends.Given as goal

abbrev pub invariant-loop-a : goal.invariant-loop-a
invariant-loop-a l = (length l.self.values ≡ length l.fn.self.values) × (with_ends l.self (drop l.a-index l.ends) ≡ with_ends l.fn.self l.ends)
