use Rattle.std.proofs.Common.{◌≡◌, ◌||◌, ℕ, nat_eq, drop}
use Rattle.std.specs.HashSet.{contains as has_key}
use Rattle.semantic_syntax.specs.Members.{contains}
use Rattle.mangler.proofs.seen.set_of.Given as goal

-- the set has the ids but those that are left
abbrev pub invariant-loop-id : goal.invariant-loop-id
invariant-loop-id l = (q : ℕ) → (has_key nat_eq l.set q || contains (drop l.id-index l.ids) q) ≡ contains l.ids q
