use Rattle.std.proofs.Common.{◌≡◌, ◌++◌, map, filter, drop}
use Rattle.serde_json.specs.View.{view as data_of}
use Rattle.semantic_kinds.specs.MarkSets.{has_mark}
use Rattle.tree_json.specs.Written.{mark_data}
use Rattle.tree_json.proofs.values.names_of.Given as goal

-- the names so far, with those of the marks that are left, are all
abbrev pub invariant-loop-mark : goal.invariant-loop-mark
invariant-loop-mark l = map data_of l.names.items ++ map mark_data (filter (has_mark l.marks) (drop l.mark-index l.list)) ≡ map mark_data (filter (has_mark l.marks) l.list)
