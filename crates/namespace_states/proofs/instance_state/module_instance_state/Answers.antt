use Rattle.std.proofs.Common.{ap, sym, subst, ◌∙◌}
use Rattle.semantic_model.specs.Namespace.{InstanceState}
use Rattle.namespace_states.specs.Reaches.{IsGreatestReached, statement_at}
use Rattle.namespace_states.specs.StatesByMarks.{state_in}
use Rattle.namespace_states.proofs.instance_state.module_instance_state.Goals as goal

pub returns-clause-reached : goal.returns-clause-reached
returns-clause-reached c = λ place a e.
    subst (λ (s : InstanceState). IsGreatestReached (statement_at place) s) (ap (λ n. state_in c.in_ok-states.states n) e ∙ sym c.state.ensures) (c.in_ok-states.ensures.reached place a)

pub returns-clause-searched : goal.returns-clause-searched
returns-clause-searched c = λ place a e. c.state.ensures ∙ ap (λ n. state_in c.in_ok-states.states n) (sym e) ∙ c.in_ok-states.ensures.searched place a
