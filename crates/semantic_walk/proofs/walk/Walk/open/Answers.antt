use Rattle.std.proofs.Common.{refl}
use Rattle.table_building.specs.Growth.{Goes}
use Rattle.table_building.proofs.Growing.{goes-trans}
use Rattle.semantic_walk.proofs.Going.{stands_on, goes_past}
use Rattle.semantic_walk.proofs.RoomAt.{ids_opened}
use Rattle.semantic_walk.proofs.Opening.{opened_after}
use Rattle.semantic_walk.proofs.walk.Walk.open.Goals as goal

pub declare-requires : goal.declare-requires
declare-requires c = λ inside.
    ids_opened c.args.self.now _ _ c.go_to.new.self c.args.role c.args.kind.node.now c.in_ok-scope.scope _ c.in_ok-scope.ensures.made c.in_ok-take_over.ensures.made c.go_to.ensures (c.requires.names inside)

pub returns-clause-opens : goal.returns-clause-opens
returns-clause-opens c = λ ds p same in_role within shown var.
    opened_after c.args.self.now p c.args.role c.args.kind.node.now same in_role within shown var ds _ _ _ _ c.in_ok-scope.scope
    c.in_ok-scope.ensures.number c.in_ok-scope.ensures.made c.in_ok-take_over.ensures.made c.go_to.ensures
    (λ inside. c.in_ok-declare.ensures.opening ds p _ same refl inside)

pub go_to-requires : goal.go_to-requires
go_to-requires c = stands_on c.make_scope.new.self.made.tables c.take_over.new.self.made.tables c.in_ok-scope.scope c.in_ok-take_over.ensures.goes.tables c.in_ok-scope.ensures.within

pub returns-clause-within : goal.returns-clause-within
returns-clause-within c =
    let g : Goes c.make_scope.new.self.made c.declare.new.self.made = goes_past c.make_scope.new.self c.take_over.new.self c.go_to.new.self c.declare.new.self c.in_ok-scope.scope c.in_ok-take_over.ensures.goes c.go_to.ensures c.in_ok-declare.ensures.goes in
    stands_on c.make_scope.new.self.made.tables c.declare.new.self.made.tables c.in_ok-scope.scope g.tables c.in_ok-scope.ensures.within

pub returns-clause-goes : goal.returns-clause-goes
returns-clause-goes c =
    goes-trans c.args.self.now.made c.make_scope.new.self.made c.declare.new.self.made c.in_ok-scope.ensures.goes
    (goes_past c.make_scope.new.self c.take_over.new.self c.go_to.new.self c.declare.new.self c.in_ok-scope.scope c.in_ok-take_over.ensures.goes c.go_to.ensures c.in_ok-declare.ensures.goes)
