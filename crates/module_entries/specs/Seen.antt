-- What contracts see of what modules export.
use Rattle.std.specs.Prelude.{List, map}
use Rattle.semantic_tree.specs.ChildIter.{shown}
use Rattle.semantic_tree.specs.declared.node.Node.{Node}
use Rattle.link_model.specs.Exports.{Export}
use Rattle.module_entries.specs.Views.{shown_export}
use Rattle.module_entries.specs.declared.entries.ModuleEntries.{ModuleEntries}

-- the nodes of a module that export names
abbrev pub exports_seen : ModuleEntries → List Export
exports_seen e = map shown_export e.exports.items

-- its star exports
abbrev pub stars_seen : ModuleEntries → List Node
stars_seen e = map shown e.stars.items
