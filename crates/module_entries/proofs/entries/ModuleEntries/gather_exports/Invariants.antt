use Rattle.std.proofs.Common.{◌≡◌, flat_map}
use Rattle.semantic_tree.specs.ChildIter.{left_of}
use Rattle.link_model.specs.Exports.{exports_of_node}
use Rattle.module_entries.specs.Entries.{seen, with_exports, exports_in}
use Rattle.module_entries.proofs.entries.ModuleEntries.gather_exports.Given as goal

-- with the exports of the statements that are left, all are there
abbrev pub invariant-loop-statement : goal.invariant-loop-statement
invariant-loop-statement l =
    with_exports (seen l.self) (flat_map exports_of_node (left_of l.statement-iterator)) ≡ with_exports (seen l.initial.self) (exports_in l.root)
