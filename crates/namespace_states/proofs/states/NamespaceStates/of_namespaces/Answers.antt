use Rattle.std.proofs.Common.{arith}
use Rattle.namespace_states.proofs.NoNamespaces.{no-namespace}
use Rattle.namespace_states.proofs.states.NamespaceStates.of_namespaces.Goals as goal

pub returns-else-count_of-gt0-clause-reached : goal.returns-else-count_of-gt0-clause-reached
returns-else-count_of-gt0-clause-reached c = λ p a t. absurd (no-namespace c.args.program.now (omega (arith, c.count_of.ensures)) p a t)

pub returns-else-count_of-gt0-clause-searched : goal.returns-else-count_of-gt0-clause-searched
returns-else-count_of-gt0-clause-searched c = λ p a t. absurd (no-namespace c.args.program.now (omega (arith, c.count_of.ensures)) p a t)
