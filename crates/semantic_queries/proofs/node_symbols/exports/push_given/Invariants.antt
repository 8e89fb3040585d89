use Rattle.std.proofs.Common.{◌≡◌, ◌++◌}
use Rattle.semantic_tree.specs.ChildIter.{left_of}
use Rattle.semantic_queries.specs.Given.{names_given, names_exported_by}
use Rattle.semantic_queries.proofs.node_symbols.exports.push_given.Given as goal

-- with those of the declarations that are left, all names are there
abbrev pub invariant-loop-declaration : goal.invariant-loop-declaration
invariant-loop-declaration l =
    l.names.items ++ names_given l.export (left_of l.declaration-iterator) ≡ l.initial.names.items ++ names_exported_by l.export l.node.node.now
