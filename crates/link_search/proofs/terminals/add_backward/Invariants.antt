use Rattle.std.proofs.Common.{◌≡◌, ◌++◌, map, take}
use Rattle.link_search.proofs.terminals.add_backward.Given as goal

abbrev pub invariant-loop-to : goal.invariant-loop-to
invariant-loop-to l = l.pairs.items ≡ l.fn.pairs.items ++ map (λ b. (b, l.from)) (take l.to-index l.row)
