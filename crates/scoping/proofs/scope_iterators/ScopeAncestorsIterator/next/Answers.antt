use Rattle.std.proofs.Common.{◌<◌, sym, ap, ◌∙◌, length, map, arith, []}
use Rattle.std.specs.Option.{option_map_or}
use Rattle.std.proofs.lemmas.List.{length-map}
use Rattle.semantic_syntax.specs.Reading.{chain}
use Rattle.scoping.specs.View.{scope_of_row}
use Rattle.scoping.proofs.Parents.{chain-next, parent_of-read}
use Rattle.scoping.proofs.scope_iterators.ScopeAncestorsIterator.next.Goals as goal

pub invariant_of-self : goal.invariant_of-self
invariant_of-self c =
    let rows = c.self.inside.scopes.now in
    let within : c.in_ok-scope.scope < length rows = rw c.in_ok-scope.was at c.self.invariant.within in
    let parent = parent_of-read rows c.in_ok-scope.scope c.index.result c.index-self-index.result c.parent-self-inside.result (rw length-map within) c.index.ensures c.index-self-index.is
    (ap (λ x. x.parent) c.index-self-index.is ∙ sym c.parent-self-inside.ensures) in
    let exist = c.self.invariant.forest.exist c.in_ok-scope.scope in
    record { forest = c.self.invariant.forest; within = rw (parent, length-map) at exist }

pub returns-clause-steps : goal.returns-clause-steps
returns-clause-steps c =
    let rows = c.self.inside.scopes.now in
    let within : c.in_ok-scope.scope < length rows = rw c.in_ok-scope.was at c.self.invariant.within in
    let shown : c.in_ok-scope.scope < length (map scope_of_row rows) = rw length-map within in
    let parent = parent_of-read rows c.in_ok-scope.scope c.index.result c.index-self-index.result c.parent-self-inside.result shown c.index.ensures c.index-self-index.is
    (ap (λ x. x.parent) c.index-self-index.is ∙ sym c.parent-self-inside.ensures) in
    rw (← c.self.view_is)
    (ap (λ o. option_map_or (chain (map scope_of_row rows)) o []) c.in_ok-scope.was
    ∙ chain-next (map scope_of_row rows) c.in_ok-scope.scope c.parent-self-inside.result c.self.invariant.forest shown parent)

pub returns-clause-goes : goal.returns-clause-goes
returns-clause-goes c = let steps = returns-clause-steps c in record { on = λ finite. (tt, tt, omega (arith, ap length steps)); keeps = tt; rests = λ finite. tt }
