use Rattle.std.proofs.Common.{◌≡◌}
use Rattle.std.specs.List.{list_any}
use Rattle.name_lint.specs.Undeclared.{has_arguments, is_in_function}
use Rattle.name_lint.proofs.scope_questions.is_within_function.Given as goal

abbrev pub invariant-loop-around : goal.invariant-loop-around
invariant-loop-around l = is_in_function l.scoping l.fn.scope ≡ list_any (has_arguments l.scoping) l.around-iterator
