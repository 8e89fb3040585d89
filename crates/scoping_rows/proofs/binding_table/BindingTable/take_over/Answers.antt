use Rattle.std.proofs.Common.{[], map, get_or, sym, ap, subst, ◌∙◌}
use Rattle.std.proofs.Math.ListN.{set}
use Rattle.std.proofs.lemmas.List.{length-map, map-set}
use Rattle.scoping_rows.specs.Flat.{SlotList, filled, far, HasPositions, IsOnce, IsRekeyed}
use Rattle.scoping_rows.proofs.Indexed.{rekeyed_all, shown_row, row_read}
use Rattle.scoping_rows.proofs.Near.{taken_indexed, indexed_empty, positions_empty, length_far}
use Rattle.scoping_rows.proofs.binding_table.BindingTable.take_over.Goals as goal

pub invariant_of-self : goal.invariant_of-self
invariant_of-self c = rw c.reserve.ensures.entries c.self.invariant

pub rekey-requires-clause-from : goal.rekey-requires-clause-from
rekey-requires-clause-from c =
    let rows = c.self.inside.scopes.items in
    let source = rw length-map at (rw (← c.self.view_is) at c.requires.from) in
    let read = c.replace-slots.ensures.value ∙ row_read rows c.args.from c.index-3.result c.index_mut.result.now c.index-3.ensures source c.index_mut.ensures.value in
    rw c.in_ok-reserve.ensures.entries
    (subst (λ (r : SlotList). HasPositions c.self.inside.positions.entries c.args.from (far r)) (sym read) (c.self.invariant c.args.from).places)

pub rekey-requires-clause-to : goal.rekey-requires-clause-to
rekey-requires-clause-to c =
    let rows = c.self.inside.scopes.items in
    let empty = sym (shown_row rows c.args.to) ∙ (rw (← c.self.view_is) at c.requires.empty) in
    rw c.in_ok-reserve.ensures.entries (positions_empty c.self.inside.positions.entries c.args.to (get_or rows c.args.to []) (c.self.invariant c.args.to) empty)

pub invariant_of-self-2 : goal.invariant_of-self-2
invariant_of-self-2 c =
    let rows = c.self.inside.scopes.items in
    let slots = c.replace-slots.result in
    let es = c.rekey.new.positions.entries in
    let source = rw length-map at (rw (← c.self.view_is) at c.requires.from) in
    let target = rw length-map at (rw (← c.self.view_is) at c.requires.to) in
    let read = c.replace-slots.ensures.value ∙ row_read rows c.args.from c.index-3.result c.index_mut.result.now c.index-3.ensures source c.index_mut.ensures.value in
    let all = rekeyed_all c.reserve.new.self.entries es c.args.from c.args.to (far slots)
    (subst (λ k. IsRekeyed c.reserve.new.self.entries es c.args.from c.args.to (far slots) k) (sym (length_far slots)) c.rekey.ensures) in
    rw (c.index-3.ensures, c.index-4.ensures, c.replace-slots.ensures.after, c.new-empty.ensures)
    (taken_indexed c.self.inside.positions.entries es rows c.args.from c.args.to slots source target c.self.invariant
    (indexed_empty es c.args.from all.0)
    (record { places = all.1; once = subst IsOnce (sym read) (c.self.invariant c.args.from).once })
    (rw c.in_ok-reserve.ensures.entries at c.rekey.ensures.elsewhere))

pub returns-clause-ok : goal.returns-clause-ok
returns-clause-ok c =
    let rows = c.self.inside.scopes.items in
    let source = rw length-map at (rw (← c.self.view_is) at c.requires.from) in
    let inner = set rows c.index-3.result c.replace-slots.new.dest in
    let moved = ap filled (c.replace-slots.ensures.value ∙ row_read rows c.args.from c.index-3.result c.index_mut.result.now c.index-3.ensures source c.index_mut.ensures.value) ∙ sym (shown_row rows c.args.from) in
    rw (← c.self.view_is)
    (map-set filled inner c.index-4.result c.replace-slots.result
    ∙ ap (λ b. set b c.index-4.result (filled c.replace-slots.result)) (map-set filled rows c.index-3.result c.replace-slots.new.dest)
    ∙ (λ j. set (set (map filled rows) (c.index-3.ensures j) (filled ((c.replace-slots.ensures.after ∙ c.new-empty.ensures) j))) (c.index-4.ensures j) (moved j)))
