use Rattle.scoping_rows.proofs.Near.{one_scope_more}
use Rattle.scoping_rows.proofs.binding_table.BindingTable.add_scope.Goals as goal

pub invariant_of-self : goal.invariant_of-self
invariant_of-self c = rw c.in_err-push.ensures.items c.self.invariant

pub invariant_of-self-2 : goal.invariant_of-self-2
invariant_of-self-2 c = rw (c.in_ok-push.ensures.items, c.new.ensures) (one_scope_more c.self.inside.positions.entries c.self.inside.scopes.items c.self.invariant)
