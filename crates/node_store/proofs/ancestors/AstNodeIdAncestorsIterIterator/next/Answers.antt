use Rattle.std.proofs.Common.{◌<◌, ◌∷◌, length, ap, sym, subst, ◌∙◌}
use Rattle.std.specs.Option.{IfSome}
use Rattle.node_store.specs.Outward.{outward_from}
use Rattle.node_store.proofs.Ways.{outward_steps, parent_within}
use Rattle.node_store.proofs.ancestors.AstNodeIdAncestorsIterIterator.next.Goals as goal

pub parent_above-self-inside-requires : goal.parent_above-self-inside-requires
parent_above-self-inside-requires c = subst (λ next. IfSome next (λ n. n < length c.self.inside.parents.now)) c.in_ok-n.was c.self.invariant.1

pub invariant_of-self : goal.invariant_of-self
invariant_of-self c =
    let parents = c.self.inside.parents.now in
    let within : c.in_ok-n.n < length parents = subst (λ next. IfSome next (λ n. n < length parents)) c.in_ok-n.was c.self.invariant.1 in
    (c.self.invariant.0, parent_within parents c.in_ok-n.n c.parent_above-self-inside.result c.self.invariant.0 within c.parent_above-self-inside.ensures)

pub returns-clause-steps : goal.returns-clause-steps
returns-clause-steps c =
    let parents = c.self.inside.parents.now in
    let within : c.in_ok-n.n < length parents = subst (λ next. IfSome next (λ n. n < length parents)) c.in_ok-n.was c.self.invariant.1 in
    sym c.self.view_is ∙ ap (outward_from parents) c.in_ok-n.was ∙ outward_steps parents c.in_ok-n.n c.self.invariant.0 within
    ∙ ap (λ up. c.in_ok-n.n ∷ outward_from parents up) (sym c.parent_above-self-inside.ensures)
