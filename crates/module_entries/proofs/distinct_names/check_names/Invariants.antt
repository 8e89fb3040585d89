use Rattle.std.proofs.Common.{◌≡◌, ◌++◌, [], drop, map}
use Rattle.tree_json.specs.Views.{characters, IsSpelled}
use Rattle.tree_json.specs.Written.{Each}
use Rattle.link_model.specs.Module.{all_analysed, module_names}
use Rattle.link_model.specs.Refusal.{first_twice}
use Rattle.module_entries.proofs.distinct_names.check_names.Given as goal

-- what is found among those that are left is found among all, and their names are those that lack
abbrev pub invariant-loop-number : goal.invariant-loop-number
invariant-loop-number l = record {
  found : first_twice (map characters l.names.keys) l.number (module_names (all_analysed (drop l.number l.list))) ≡ first_twice [] 0 (module_names (all_analysed l.list));
  taken : map characters l.names.keys ++ module_names (all_analysed (drop l.number l.list)) ≡ module_names (all_analysed l.list);
  spelled : Each IsSpelled l.names.keys;
}
