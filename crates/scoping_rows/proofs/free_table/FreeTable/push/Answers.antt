use Rattle.std.proofs.Common.{nat_eq, sym, ◌∙◌, ap}
use Rattle.indexmap.specs.IndexMap.{insert_entry}
use Rattle.semantic_syntax.proofs.Results.{on_err}
use Rattle.scoping_rows.proofs.Entries.{by_value, lookup-by_value, insert-by_value, set_value-kept, set_value-inserts}
use Rattle.scoping_rows.proofs.free_table.FreeTable.push.Goals as goal

pub returns-in_err-push-clause-err : goal.returns-in_err-push-clause-err
returns-in_err-push-clause-err c =
    let written = (c.get_mut.follows.holds c.push.new.self).0 in
    rw (← c.self.view_is) (on_err c.from_residual.result
    (ap (by_value (λ v. v.items)) written ∙ set_value-kept (λ v. v.items) (nat_eq c.args.number) c.in-Some.list.now c.push.new.self c.in_err-push.ensures.items c.self.inside.lists.entries (sym c.in-Some.ensures.value)))

pub returns-in-Some-clause-ok : goal.returns-in-Some-clause-ok
returns-in-Some-clause-ok c =
    let written = (c.get_mut.follows.holds c.push.new.self).0 in
    let there = sym c.in-Some.ensures.value in
    let es = c.self.inside.lists.entries in
    rw (← c.self.view_is, lookup-by_value (λ v. v.items) (nat_eq c.args.number) es, there)
    (ap (by_value (λ v. v.items)) (written ∙ set_value-inserts nat_eq c.args.number c.in-Some.list.now c.push.new.self es there)
    ∙ insert-by_value (λ v. v.items) nat_eq es c.args.number c.push.new.self
    ∙ ap (insert_entry nat_eq (by_value (λ v. v.items) es) c.args.number) c.in_ok-push.ensures.items)

pub returns-clause-ok : goal.returns-clause-ok
returns-clause-ok c =
    let es = c.self.inside.lists.entries in
    let none = sym c.in_default.ensures.value in
    rw (← c.self.view_is, c.in_ok-insert.ensures.entries, c.get_mut.follows.holds-at-none, lookup-by_value (λ v. v.items) (nat_eq c.args.number) es, none)
    (insert-by_value (λ v. v.items) nat_eq es c.args.number c.in_ok-list.list
    ∙ ap (insert_entry nat_eq (by_value (λ v. v.items) es) c.args.number) c.in_ok-list.ensures.items)
