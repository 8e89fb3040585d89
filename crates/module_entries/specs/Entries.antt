-- The imports and exports that stand in a tree.
use Rattle.std.specs.Prelude.{Bool, List, [], ◌∷◌, ◌++◌, Option, Some, None, map, flat_map, filter_map}
use Rattle.std.specs.Option.{is_some}
use Rattle.semantic_tree.specs.ChildIter.{shown}
use Rattle.semantic_tree.specs.Forest.{Forest, nothing, tree}
use Rattle.semantic_tree.specs.declared.node.Node.{Node}
use Rattle.link_model.specs.Exports.{Export, star_at, exports_of_node, statements_of}
use Rattle.link_model.specs.Imports.{Import, wanted_by, import_at}
use Rattle.link_model.specs.Module.{Below, nodes_below}
use Rattle.module_entries.specs.declared.entries.ModuleEntries.{ModuleEntries}
use Rattle.module_entries.specs.Views.{shown_import, shown_export}

pub record EntryLists : Type 0 where
  pub imports : List Import
  pub exports : List Export
  pub stars : List Node

-- what contracts see of the entries of a module
abbrev pub seen : ModuleEntries → EntryLists
seen e = record { imports = map shown_import e.imports.items; exports = map shown_export e.exports.items; stars = map shown e.stars.items }

abbrev pub no_entries : EntryLists
no_entries = record { imports = []; exports = []; stars = [] }

-- the import specifiers of a module with this root, in preorder
abbrev pub imports_in : Node → List Import
imports_in root = filter_map import_at (nodes_below root root.children)

-- its exporting nodes, in order
abbrev pub exports_in : Node → List Export
exports_in root = flat_map exports_of_node (statements_of root)

-- its star exports
abbrev pub stars_in : Node → List Node
stars_in root = filter_map star_at (nodes_below root root.children)

abbrev pub with_import : Option Import → EntryLists → EntryLists
with_import None e = e
with_import (Some i) e = record e { imports = e.imports ++ i ∷ [] }

abbrev pub with_star : Option Node → EntryLists → EntryLists
with_star None e = e
with_star (Some s) e = record e { stars = e.stars ++ s ∷ [] }

-- the node is a specifier of an import
abbrev pub is_specifier : Node → Bool
is_specifier node = is_some (wanted_by node.kind node)

-- with what the node is
abbrev pub with_below : Below → EntryLists → EntryLists
with_below b e = with_star (star_at b) (with_import (import_at b) e)

-- with the imports and star exports below a node
abbrev pub entered_below : Node → Forest → EntryLists → EntryLists
entered_below parent nothing e = e
entered_below parent (tree r kind span text marks below id after) e =
    let node : Node = record { kind = kind; span = span; text = text; marks = marks; children = below; node_id = id } in
    entered_below parent after (entered_below node below (with_below (record { parent = parent; node = node }) e))

-- with these exports
abbrev pub with_exports : EntryLists → List Export → EntryLists
with_exports e xs = record e { exports = e.exports ++ xs }
