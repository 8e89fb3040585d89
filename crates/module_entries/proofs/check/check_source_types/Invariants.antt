use Rattle.std.proofs.Common.{◌≡◌, drop}
use Rattle.link_model.specs.Module.{all_analysed}
use Rattle.link_model.specs.Refusal.{first_not_module}
use Rattle.module_entries.proofs.check.check_source_types.Given as goal

-- what is found among those that are left is found among all
abbrev pub invariant-loop-number : goal.invariant-loop-number
invariant-loop-number l = first_not_module l.number (all_analysed (drop l.number l.list)) ≡ first_not_module 0 (all_analysed l.list)
