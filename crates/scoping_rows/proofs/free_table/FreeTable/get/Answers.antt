use Rattle.std.proofs.Common.{ap, nat_eq, Some, option_map}
use Rattle.scoping_rows.proofs.Entries.{lookup-by_value}
use Rattle.scoping_rows.proofs.free_table.FreeTable.get.Goals as goal

pub returns-in_err-list : goal.returns-in_err-list
returns-in_err-list c =
    rw (← c.self.view_is, lookup-by_value (λ v. v.items) (nat_eq c.args.number) c.self.inside.lists.entries, ← c.in_err-list.ensures.value) (ap (option_map (λ list. list.now)) c.from_residual.ensures)

pub returns : goal.returns
returns c =
    rw (← c.self.view_is, lookup-by_value (λ v. v.items) (nat_eq c.args.number) c.self.inside.lists.entries, ← c.in_ok-list.ensures.value) (ap (λ l. Some l) c.as_slice.ensures.value)
