use Rattle.std.proofs.Common.{◌≡◌, ◌<◌, length, refl, sym, subst, IfOk}
use Rattle.table_building.specs.Growth.{Goes}
use Rattle.semantic_walk.specs.Walker.{Walker}
use Rattle.semantic_walk.proofs.Opening.{new_binds_nothing, apart_from}
use Rattle.semantic_walk.proofs.Counting.{on_success}
use Rattle.semantic_walk.proofs.walk.Walk.make_scope.Goals as goal

pub returns-clause-empty : goal.returns-clause-empty
returns-clause-empty c = new_binds_nothing c.open.result c.self.inside.declared c.open.new.self _ c.scoping.result.now refl c.scoping.ensures c.attest.ensures.counted c.open.ensures.made c.open.ensures.number

pub returns-clause-apart : goal.returns-clause-apart
returns-clause-apart c = apart_from c.open.result c.self.inside.current_scope _ c.self.invariant c.open.ensures.number

pub returns-clause-goes : goal.returns-clause-goes
returns-clause-goes c = on_success c.open.result (subst (λ (w : Walker). Goes w.made c.open.new.self) c.self.view_is c.open.ensures.goes)

pub returns-clause-within : goal.returns-clause-within
returns-clause-within c = c.open.ensures.within

pub returns-clause-number : goal.returns-clause-number
returns-clause-number c = subst (λ (w : Walker). IfOk c.open.result (λ s. s ≡ length w.made.tables.scopes)) c.self.view_is c.open.ensures.number

pub open-requires-clause-room : goal.open-requires-clause-room
open-requires-clause-room c = subst (λ (w : Walker). length w.made.tables.scopes < 4294967295) (sym c.self.view_is) c.requires

pub open-requires-clause-outer : goal.open-requires-clause-outer
open-requires-clause-outer c = c.self.invariant
