use Rattle.std.proofs.Common.{◌<◌, length, map, sym, ap, refl, subst, ◌∙◌, arith}
use Rattle.std.proofs.lemmas.List.{map-set, length-map}
use Rattle.scoping_rows.specs.Flat.{SlotList, filled, IsIndexed, KeepsElsewhere}
use Rattle.scoping_rows.specs.Kept.{rows_without_types}
use Rattle.scoping_rows.proofs.Indexed.{row_read, shown_row}
use Rattle.scoping_rows.proofs.Near.{all_indexed}
use Rattle.scoping_rows.proofs.Sweeps.{swept_more, swept_map}
use Rattle.scoping_rows.proofs.binding_table.pack_each.Goals as goal

pub loop-scope-preserved : goal.loop-scope-preserved
loop-scope-preserved c =
    let rows = c.loop-scope.scopes.items in
    let was = c.args.scopes.now.items in
    let s = c.loop-scope.scope in
    let es = c.loop-scope.positions.entries in
    let slots = c.pack.new.slots in
    let count = c.loop-scope.invariant.swept.count in
    let within : s < length rows = omega (arith, c.len-scope-end.ensures, count, length-map rows filled, length-map was filled) in
    let is = c.pack.ensures.kept
    ∙ ap (λ (r : SlotList). rows_without_types c.args.rows.now (filled r)) (row_read rows s s c.index_mut.result.now refl within c.index_mut.ensures.value)
    ∙ ap (rows_without_types c.args.rows.now) (sym (shown_row rows s)) in
    record {
      positions = all_indexed es c.pack.new.positions.entries rows c.loop-scope.invariant.positions s slots within
          (subst (λ k. IsIndexed c.pack.new.positions.entries k slots) c.new.ensures c.pack.ensures.positions)
          (subst (λ k. KeepsElsewhere es c.pack.new.positions.entries k) c.new.ensures c.pack.ensures.elsewhere);
      swept = rw map-set (swept_more (λ _. rows_without_types c.args.rows.now) (map filled was) (map filled rows) s (filled slots) (omega (arith, within, count, length-map rows filled)) is c.loop-scope.invariant.swept);
    }

pub returns-clause-kept : goal.returns-clause-kept
returns-clause-kept c =
    let was = c.args.scopes.now.items in
    swept_map (rows_without_types c.args.rows.now) _ _ c.loop-scope.scope (omega (arith, c.len-scope-end.ensures, length-map was filled)) c.loop-scope.invariant.swept

pub pack-requires : goal.pack-requires
pack-requires c =
    let rows = c.loop-scope.scopes.items in
    let s = c.loop-scope.scope in
    let es = c.loop-scope.positions.entries in
    let count = c.loop-scope.invariant.swept.count in
    let within : s < length rows = omega (arith, c.len-scope-end.ensures, count, length-map rows filled, length-map c.args.scopes.now.items filled) in
    let read = row_read rows s s c.index_mut.result.now refl within c.index_mut.ensures.value in
    subst (λ k. IsIndexed es k c.index_mut.result.now) (sym c.new.ensures) (subst (IsIndexed es s) (sym read) (c.loop-scope.invariant.positions s))
