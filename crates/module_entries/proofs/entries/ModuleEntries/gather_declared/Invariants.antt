use Rattle.std.proofs.Common.{◌≡◌, map, flat_map}
use Rattle.semantic_tree.specs.ChildIter.{left_of}
use Rattle.semantic_model.specs.Names.{bound_names}
use Rattle.semantic_model.specs.Exported.{declared_names}
use Rattle.module_entries.specs.Views.{export_of}
use Rattle.module_entries.specs.Entries.{seen, with_exports}
use Rattle.module_entries.proofs.entries.ModuleEntries.gather_declared.Given as goal

-- with the names of the declarations that are left, all are there
abbrev pub invariant-loop-declaration : goal.invariant-loop-declaration
invariant-loop-declaration l =
    with_exports (seen l.self) (map (export_of l.statement) (flat_map bound_names (left_of l.declaration-iterator))) ≡ with_exports (seen l.initial.self) (map (export_of l.statement) (declared_names l.statement))
