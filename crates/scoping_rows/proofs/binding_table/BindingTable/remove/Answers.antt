use Rattle.std.proofs.Common.{sym, subst, nat_eq}
use Rattle.std.proofs.lemmas.List.{length-map}
use Rattle.indexmap.specs.IndexMap.{shift_remove_entry}
use Rattle.scoping_rows.proofs.Indexed.{row_read, row_changed}
use Rattle.scoping_rows.specs.Flat.{IsIndexed}
use Rattle.scoping_rows.proofs.Near.{all_indexed}
use Rattle.scoping_rows.proofs.binding_table.BindingTable.remove.Goals as goal

pub returns : goal.returns
returns c =
    let within = rw length-map at (rw (← c.self.view_is) at c.requires) in
    rw (← c.self.view_is)
    (row_changed c.self.inside.scopes.items c.args.scope c.index.result c.index_mut.result.now c.unbind.new.slots c.index.ensures within c.index_mut.ensures.value (shift_remove_entry (nat_eq c.args.number)) c.unbind.ensures.gone)

pub unbind-requires : goal.unbind-requires
unbind-requires c =
    let within = rw length-map at (rw (← c.self.view_is) at c.requires) in
    let read = row_read c.self.inside.scopes.items c.args.scope c.index.result c.index_mut.result.now c.index.ensures within c.index_mut.ensures.value in
    subst (IsIndexed c.self.inside.positions.entries c.args.scope) (sym read) (c.self.invariant c.args.scope)

pub invariant_of-self : goal.invariant_of-self
invariant_of-self c =
    let within = rw length-map at (rw (← c.self.view_is) at c.requires) in
    rw c.index.ensures
    (all_indexed c.self.inside.positions.entries c.unbind.new.positions.entries c.self.inside.scopes.items c.self.invariant c.args.scope c.unbind.new.slots within c.unbind.ensures.positions c.unbind.ensures.elsewhere)
