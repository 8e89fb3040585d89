use Rattle.std.proofs.Common.{◌≡◌, ◌++◌, drop, map}
use Rattle.tree_json.specs.Views.{characters}
use Rattle.module_entries.proofs.LineTurns.{all_locals}
use Rattle.module_entries.proofs.locals.locals_of.Given as goal

-- with those of the modules that are left, all names are there
abbrev pub invariant-loop-module : goal.invariant-loop-module
invariant-loop-module l = map characters l.locals.items ++ all_locals (drop l.module-index l.list) ≡ all_locals l.list
