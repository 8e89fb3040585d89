use Rattle.std.proofs.Common.{◌<◌, ◌≤◌, ◌+◌, length, sym, ◌∙◌, arith}
use Rattle.indexmap.specs.IndexMap.{spare}
use Rattle.scoping_rows.specs.Flat.{far}
use Rattle.scoping_rows.proofs.Indexed.{rekeyed_none, rekeyed_past, rekeyed_more}
use Rattle.scoping_rows.proofs.Near.{length_far}
use Rattle.semantic_syntax.proofs.Results.{from_ok}
use Rattle.scoping_rows.proofs.binding_table.rekey.Goals.{in-Some, in_default}
use Rattle.scoping_rows.proofs.binding_table.rekey.Goals as goal

pub loop-position-init : goal.loop-position-init
loop-position-init c = record {
  room = omega (arith, c.requires.room);
  moved = rekeyed_none c.args.positions.now.entries c.args.from c.args.to c.requires.apart (far c.args.slots.now) c.requires.from c.requires.to;
}

pub loop-position-preserved : goal.loop-position-preserved
loop-position-preserved c =
    let slots = c.args.slots.now in
    let xs = far slots in
    let old = c.args.positions.now.entries in
    let es = c.loop-position.positions.entries in
    let k = c.loop-position.position in
    let within : k < length xs = omega (arith, c.loop-position-test.true, c.len-position-end.ensures, length_far slots) in
    let room : length slots ≤ spare c.loop-position.positions + k = c.loop-position.invariant.room in
    elim c.match-far.branch [
      | in-Some w ↦
          let kept : spare c.loop-position.positions ≤ spare w.swap_remove-position.new.self = w.swap_remove-position.ensures.room.0 in
          let some : 0 < spare w.swap_remove-position.new.self = omega (arith, within, room, kept, length_far slots) in
          let used : spare w.swap_remove-position.new.self ≤ spare w.insert-previous.new.self + 1 = w.insert-previous.ensures.spare in
          let put = from_ok w.insert-previous.result (w.insert-previous.ensures.succeeds some) w.insert-previous.ensures.updates in
          rw w.positions-is (record {
            room = omega (arith, room, kept, used);
            moved = rekeyed_more old c.args.from c.args.to c.requires.apart xs c.requires.from es k within c.loop-position.invariant.moved w.in-Some.number w.in-Some.field-0-1 (sym c.far.ensures ∙ w.in-Some.is)
                w.swap_remove-position.new.self.entries w.insert-previous.new.self.entries w.swap_remove-position.ensures.updates.0 put.0;
          })
      | in_default w ↦
          rw w.positions-is (record {
            room = omega (arith, room);
            moved = rekeyed_past old c.args.from c.args.to c.requires.apart xs c.requires.from es k within c.loop-position.invariant.moved (sym c.far.ensures ∙ w.in_default.is);
          })
    ]
