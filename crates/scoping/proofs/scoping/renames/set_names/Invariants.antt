use Rattle.std.proofs.Common.{◌≡◌, fold, take}
use Rattle.scoping_rows.specs.Row.{row_named}
use Rattle.scoping.proofs.scoping.renames.set_names.Given as goal

abbrev pub invariant-loop-id : goal.invariant-loop-id
invariant-loop-id l = l.rows.items ≡ fold (row_named l.number) l.initial.rows.items (take l.id-index l.ids)
