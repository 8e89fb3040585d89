use Rattle.std.proofs.Common.{◌≡◌, ◌<◌, Some, length, map}
use Rattle.std.specs.List.{AllByRecursion, list_any}
use Rattle.std.specs.Str.{chars}
use Rattle.check_model.specs.Classes.{defines_private}
use Rattle.check_model.specs.Context.{classes_from, seen_class}
use Rattle.expression_checks.proofs.private_names.is_defined.Given as goal

-- the classes that are left decide
abbrev pub invariant-loop-around : goal.invariant-loop-around
invariant-loop-around l = record {
  rest : list_any (defines_private (chars l.name.text.now)) (map (seen_class l.classes) l.around-iterator) ≡ list_any (defines_private (chars l.name.text.now)) (classes_from l.classes (Some l.fn.class));
  within : AllByRecursion (λ c. c < length l.classes.nodes) l.around-iterator;
}
