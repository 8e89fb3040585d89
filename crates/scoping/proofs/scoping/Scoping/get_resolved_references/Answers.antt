use Rattle.std.proofs.Common.{ℕ, ◌<◌, [], length, subst}
use Rattle.std.specs.List.{AllByRecursion}
use Rattle.semantic_syntax.proofs.Every.{every-or}
use Rattle.scoping_rows.proofs.Rows.{rows, row_at}
use Rattle.scoping.proofs.Shown.{uses_index, uses_within}
use Rattle.scoping.proofs.scoping.Scoping.get_resolved_references.Goals as goal

pub new-requires : goal.new-requires
new-requires c =
    let within = uses_within c.self.inside c.self.invariant c.args.symbol (rw (← c.self.view_is) at c.requires) in
    let known : ℕ → Type 0 = λ r. r < length c.self.inside.references.items in
    let list = subst (λ xs. AllByRecursion known xs)
    (row_at c.self.inside.uses.items c.args.symbol c.index.result c.index-2.result.now c.index-2.result.now c.index.ensures within c.index-2.ensures)
    (every-or (AllByRecursion known) [] (rows c.self.inside.uses.items) c.args.symbol c.self.invariant.uses tt) in
    rw (c.as_slice.ensures.value, c.as_slice-2.ensures) list

pub index-requires-2 : goal.index-requires-2
index-requires-2 c = uses_index c.self.inside c.self.invariant c.args.symbol c.index.result c.index.ensures (rw (← c.self.view_is) at c.requires)
