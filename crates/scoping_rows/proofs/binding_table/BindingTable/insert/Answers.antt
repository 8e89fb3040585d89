use Rattle.std.proofs.Common.{sym, subst, nat_eq, ◌∙◌}
use Rattle.std.proofs.lemmas.List.{length-map}
use Rattle.indexmap.specs.IndexMap.{insert_entry}
use Rattle.scoping_rows.proofs.Indexed.{row_read, row_changed, row_kept}
use Rattle.scoping_rows.specs.Flat.{IsIndexed}
use Rattle.scoping_rows.proofs.Near.{all_indexed}
use Rattle.semantic_syntax.proofs.Results.{on_ok_then, on_err_then}
use Rattle.scoping_rows.proofs.binding_table.BindingTable.insert.Goals as goal

pub returns-clause-ok : goal.returns-clause-ok
returns-clause-ok c =
    let within = rw length-map at (rw (← c.self.view_is) at c.requires) in
    rw (← c.self.view_is)
    (on_ok_then c.bind.result (row_changed c.self.inside.scopes.items c.args.scope c.index.result c.index_mut.result.now c.bind.new.slots c.index.ensures within c.index_mut.ensures.value (λ b. insert_entry nat_eq b c.args.number c.args.symbol))
    c.bind.ensures.ok)

pub returns-clause-err : goal.returns-clause-err
returns-clause-err c =
    let within = rw length-map at (rw (← c.self.view_is) at c.requires) in
    on_err_then c.bind.result (λ is. row_kept c.self.inside.scopes.items c.args.scope c.index.result c.index_mut.result.now c.bind.new.slots c.index.ensures within c.index_mut.ensures.value is ∙ c.self.view_is)
    c.bind.ensures.err

pub bind-requires : goal.bind-requires
bind-requires c =
    let within = rw length-map at (rw (← c.self.view_is) at c.requires) in
    let read = row_read c.self.inside.scopes.items c.args.scope c.index.result c.index_mut.result.now c.index.ensures within c.index_mut.ensures.value in
    subst (IsIndexed c.self.inside.positions.entries c.args.scope) (sym read) (c.self.invariant c.args.scope)

pub invariant_of-self : goal.invariant_of-self
invariant_of-self c =
    let within = rw length-map at (rw (← c.self.view_is) at c.requires) in
    rw c.index.ensures
    (all_indexed c.self.inside.positions.entries c.bind.new.positions.entries c.self.inside.scopes.items c.self.invariant c.args.scope c.bind.new.slots within c.bind.ensures.positions c.bind.ensures.elsewhere)
