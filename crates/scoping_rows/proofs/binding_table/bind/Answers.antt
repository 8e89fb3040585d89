use Rattle.std.proofs.Common.{◌≤◌, None, Some, length, get_or, arith}
use Rattle.scoping_rows.specs.Flat.{near, Retells}
use Rattle.scoping_rows.proofs.Filled.{at_position, filled-fill, filled-push}
use Rattle.scoping_rows.proofs.Indexed.{slot_of, slot_within, told_elsewhere}
use Rattle.scoping_rows.proofs.Near.{indexed_again, indexed_near, indexed_far}
use Rattle.semantic_syntax.proofs.Results.{from_ok}
use Rattle.scoping_rows.proofs.binding_table.bind.Goals as goal

pub rebind-requires : goal.rebind-requires
rebind-requires c = slot_within c.args.slots.now c.in-Some.position c.args.number (at_position c.args.slots.now c.args.number c.in-Some.position c.in-Some.ensures)

pub returns-in-Some-clause-positions : goal.returns-in-Some-clause-positions
returns-in-Some-clause-positions c =
    let xs = c.args.slots.now in
    let was = slot_of c.args.number (get_or xs c.in-Some.position None) (at_position xs c.args.number c.in-Some.position c.in-Some.ensures) in
    rw (c.rebind.ensures c.args.number was.0 was.1) (indexed_again c.args.positions.now.entries c.args.scope xs c.requires c.args.number c.args.symbol c.in-Some.position c.in-Some.ensures)

pub returns-in-Some-clause-ok : goal.returns-in-Some-clause-ok
returns-in-Some-clause-ok c =
    let xs = c.args.slots.now in
    let was = slot_of c.args.number (get_or xs c.in-Some.position None) (at_position xs c.args.number c.in-Some.position c.in-Some.ensures) in
    rw (c.rebind.ensures c.args.number was.0 was.1) (filled-fill c.args.number c.args.symbol c.in-Some.position xs c.in-Some.ensures)

pub returns-then-position-lt-NEAR-clause-positions :
    goal.returns-then-position-lt-NEAR-clause-positions
returns-then-position-lt-NEAR-clause-positions c =
    rw c.in_ok-push.ensures.ok
    (indexed_near c.args.positions.now.entries c.args.scope c.args.slots.now c.requires c.args.number c.args.symbol c.in_default.ensures (omega (arith, c.len-position.ensures, c.if-position-lt-NEAR.true)))

pub returns-then-position-lt-NEAR-clause-ok : goal.returns-then-position-lt-NEAR-clause-ok
returns-then-position-lt-NEAR-clause-ok c = rw c.in_ok-push.ensures.ok (filled-push c.args.number c.args.slots.now c.in_default.ensures c.args.symbol)

pub returns-clause-positions : goal.returns-clause-positions
returns-clause-positions c =
    let put = from_ok c.insert-previous.result (c.insert-previous.ensures.succeeds (omega (arith, c.in_ok-reserve.ensures.ok))) c.insert-previous.ensures.updates in
    let told : Retells c.args.positions.now.entries c.insert-previous.new.self.entries (c.args.scope, c.args.number) (Some c.len-position.result) =
    (λ q. rw c.in_ok-reserve.ensures.entries at (put.0 q)) in
    let behind : near ≤ length c.args.slots.now = omega (arith, c.len-position.ensures, c.if-position-lt-NEAR.false) in
    rw c.in_ok-push-2.ensures.ok
    (indexed_far c.args.positions.now.entries c.args.scope c.args.slots.now c.requires c.args.number c.args.symbol c.in_default.ensures c.insert-previous.new.self.entries behind (rw c.len-position.ensures at told))

pub returns-clause-elsewhere : goal.returns-clause-elsewhere
returns-clause-elsewhere c =
    let put = from_ok c.insert-previous.result (c.insert-previous.ensures.succeeds (omega (arith, c.in_ok-reserve.ensures.ok))) c.insert-previous.ensures.updates in
    let told : Retells c.args.positions.now.entries c.insert-previous.new.self.entries (c.args.scope, c.args.number) (Some c.len-position.result) =
    (λ q. rw c.in_ok-reserve.ensures.entries at (put.0 q)) in
    told_elsewhere c.args.positions.now.entries c.insert-previous.new.self.entries c.args.scope c.args.number (Some c.len-position.result) told

pub returns-clause-ok : goal.returns-clause-ok
returns-clause-ok c = rw c.in_ok-push-2.ensures.ok (filled-push c.args.number c.args.slots.now c.in_default.ensures c.args.symbol)
