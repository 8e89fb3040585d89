use Rattle.std.proofs.Common.{map, ap}
use Rattle.scoping_rows.specs.Flat.{filled}
use Rattle.scoping_rows.proofs.Clones.{clones_same}
use Rattle.scoping_rows.proofs.binding_table.BindingTableClone.clone.Goals as goal

pub invariant_of-result : goal.invariant_of-result
invariant_of-result c =
    let a = c.self.inside in
    let positions = clones_same _ (λ x y h. λ j. ((h.0.0 j, h.0.1 j), h.1 j)) a.positions.entries c.in_ok-clone.field-0.entries c.in_ok-clone.ensures.cases in
    let scopes = clones_same _ (λ x y h. h) a.scopes.items c.in_ok-clone-2.field-0.items c.in_ok-clone-2.ensures.cases.0 in
    rw (positions, scopes) c.self.invariant

pub returns : goal.returns
returns c = record {
  cases = rw (← c.self.view_is) (ap (map filled) (clones_same _ (λ x y h. h) c.self.inside.scopes.items c.in_ok-clone-2.field-0.items c.in_ok-clone-2.ensures.cases.0));
}
