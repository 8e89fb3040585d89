use Rattle.std.proofs.Common.{◌≡◌, length}
use Rattle.semantic_tree.specs.NameIter.{names_below}
use Rattle.semantic_tree.proofs.bound_names.BoundNames.next_below.Given as goal

-- the names that are left stay
abbrev pub invariant-loop-role : goal.invariant-loop-role
invariant-loop-role l = record { names : names_below l.self ≡ names_below l.initial.self; own : l.self.own ≡ l.initial.self.own }

abbrev pub decreases-loop-role : goal.decreases-loop-role
decreases-loop-role l = length l.self.left.now
