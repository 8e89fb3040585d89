use Rattle.std.proofs.Common.{ℕ, ◌<◌, nat_eq, [], length, refl}
use Rattle.std.specs.List.{AllByRecursion}
use Rattle.std.proofs.lemmas.List.{length-set}
use Rattle.indexmap.specs.IndexMap.{swap_remove_by}
use Rattle.semantic_syntax.proofs.Every.{every-set, every-or}
use Rattle.scoping.proofs.Every.{every-swapped}
use Rattle.scoping_rows.proofs.Rows.{rows, rows_changed}
use Rattle.scoping.proofs.Shown.{uses_index, tables_eq, uses_within, sound_uses}
use Rattle.scoping.proofs.scoping.Scoping.delete_resolved_reference.Goals as goal

pub invariant_of-self : goal.invariant_of-self
invariant_of-self c =
    let before = c.self.invariant in
    let within = uses_within c.self.inside before c.args.symbol (rw (← c.self.view_is) at c.requires) in
    let changed = rows_changed c.self.inside.uses.items c.args.symbol c.index.result c.index_mut.result.now c.take_out_use.new.references c.index.ensures within c.index_mut.ensures.value (swap_remove_by (nat_eq c.args.reference)) c.take_out_use.ensures in
    let known : ℕ → Type 0 = λ r. r < length c.self.inside.references.items in
    sound_uses c.self.inside before _ (length-set c.self.inside.uses.items c.index.result c.take_out_use.new.references)
    (rw changed (every-set (AllByRecursion known) _ (rows c.self.inside.uses.items) c.args.symbol before.uses
    (every-swapped known (nat_eq c.args.reference) _ (every-or (AllByRecursion known) [] (rows c.self.inside.uses.items) c.args.symbol before.uses tt))))

pub returns : goal.returns
returns c =
    let within = uses_within c.self.inside c.self.invariant c.args.symbol (rw (← c.self.view_is) at c.requires) in
    rw (← c.self.view_is)
    (tables_eq _ _ refl refl refl refl
    (rows_changed c.self.inside.uses.items c.args.symbol c.index.result c.index_mut.result.now c.take_out_use.new.references c.index.ensures within c.index_mut.ensures.value (swap_remove_by (nat_eq c.args.reference)) c.take_out_use.ensures)
    refl refl)

pub index_mut-requires : goal.index_mut-requires
index_mut-requires c = uses_index c.self.inside c.self.invariant c.args.symbol c.index.result c.index.ensures (rw (← c.self.view_is) at c.requires)
