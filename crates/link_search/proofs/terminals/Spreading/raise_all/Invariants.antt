use Rattle.std.proofs.Common.{◌≡◌, drop, length}
use Rattle.link_search.specs.Reached.{raised_all}
use Rattle.link_search.proofs.terminals.Spreading.raise_all.Given as goal

abbrev pub invariant-loop-a : goal.invariant-loop-a
invariant-loop-a l = (length l.self.values ≡ length l.fn.self.values) × (raised_all l.self (drop l.a-index l.numbers) l.reached ≡ raised_all l.fn.self l.numbers l.reached)
