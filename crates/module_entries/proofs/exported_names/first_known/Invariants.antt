use Rattle.std.proofs.Common.{◌≡◌, drop, map}
use Rattle.tree_json.specs.Views.{characters, IsSpelled}
use Rattle.tree_json.specs.Written.{Each}
use Rattle.link_model.specs.Refusal.{repeated}
use Rattle.module_entries.specs.Views.{shown_export}
use Rattle.module_entries.proofs.exported_names.first_known.Given as goal

-- what is found among those that are left is found among all
abbrev pub invariant-loop-export : goal.invariant-loop-export
invariant-loop-export l = record {
  found : repeated (map characters l.names.keys) (map shown_export (drop l.export-index l.exports)) ≡ repeated (map characters l.initial.names.keys) (map shown_export l.exports);
  spelled : Each IsSpelled l.names.keys;
}
