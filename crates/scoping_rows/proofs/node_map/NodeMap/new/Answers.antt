use Rattle.std.proofs.Common.{ℕ, List, ◌++◌, nat_eq, subst, sym, arith}
use Rattle.std.specs.List.{IsDistinct}
use Rattle.std.specs.Map.{keys_of}
use Rattle.scoping_rows.proofs.Apart.{no_keys}
use Rattle.scoping_rows.proofs.node_map.NodeMap.new.Goals as goal

pub invariant_of-result : goal.invariant_of-result
invariant_of-result g c = (
  (λ i j less within. absurd (grind (arith, c.new.ensures.items))),
  subst (λ (es : List (ℕ × g.row.T.Denot)). IsDistinct nat_eq (keys_of (es ++ c.new-2.result.entries))) (sym c.new.ensures.items)
      (subst (λ (fs : List (ℕ × g.row.T.Denot)). IsDistinct nat_eq (keys_of fs)) (sym c.new-2.ensures.empty) no_keys),
)
