use Rattle.std.proofs.Common.{◌≡◌, map}
use Rattle.node_rules.specs.BoundIdentifiers.{names_left}
use Rattle.semantic_model.specs.Names.{bound_names}
use Rattle.module_entries.specs.Views.{export_of}
use Rattle.module_entries.specs.Entries.{seen, with_exports}
use Rattle.module_entries.proofs.entries.ModuleEntries.gather_bound.Given as goal

-- with the names that are left, all are exported
abbrev pub invariant-loop-name : goal.invariant-loop-name
invariant-loop-name l =
    with_exports (seen l.self) (map (export_of l.statement) (names_left l.name-iterator)) ≡ with_exports (seen l.initial.self) (map (export_of l.statement) (bound_names l.node.node.now))
