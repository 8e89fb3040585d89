use Rattle.std.proofs.Common.{◌≡◌, map}
use Rattle.semantic_kinds.specs.declared.role.Role.TheVariants as role
use Rattle.semantic_tree.specs.ChildIter.{left_of}
use Rattle.semantic_tree.specs.Views.{children_of}
use Rattle.module_entries.specs.Views.{export_of}
use Rattle.module_entries.specs.Entries.{seen, with_exports}
use Rattle.module_entries.proofs.entries.ModuleEntries.gather_specifiers.Given as goal

-- with the specifiers that are left, all are there
abbrev pub invariant-loop-specifier : goal.invariant-loop-specifier
invariant-loop-specifier l =
    with_exports (seen l.self) (map (export_of l.statement) (left_of l.specifier-iterator)) ≡ with_exports (seen l.initial.self) (map (export_of l.statement) (children_of role.Specifiers l.statement.children))
