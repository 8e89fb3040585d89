use Rattle.scoping_rows.proofs.Clones.{clones_shown, clones_same}
use Rattle.scoping_rows.proofs.free_table.FreeTableClone.clone.Goals as goal

pub returns : goal.returns
returns c = record {
  cases = rw (← c.self.view_is) (clones_shown _ (λ e. (e.0, e.1.items)) (λ x y h. λ j. (h.0 j, clones_same _ (λ r q e. e) x.1.items y.1.items h.1.0 j)) c.self.inside.lists.entries c.in_ok-clone.field-0.entries c.in_ok-clone.ensures.cases);
}
