-- What one pass over a tree notes of names.
use Rattle.std.specs.Prelude.{List, ◌++◌}
use Rattle.scoping_rows.specs.Names.{name_of}
use Rattle.semantic_tree.specs.Forest.{Forest, nothing, tree}
use Rattle.semantic_tree.specs.declared.node.Node.{Node}
use Rattle.tangle_model.specs.Mention.{Mention, noted_by}
use Rattle.tangle_model.specs.Surroundings.{around_in}
use Rattle.tangle_model.specs.declared.around.Around.{Around}
use Rattle.tangled_names.specs.declared.mention.Mention as stored

-- what is seen of it
abbrev pub noted_of : stored.Mention → Mention
noted_of m = record { what = m.what; home = m.home; name = name_of m.name }

-- what is noted in a forest, whose trees stand there, after what was noted before
abbrev pub mentions_below : Around → Forest → List Mention → List Mention
mentions_below a nothing ms = ms
mentions_below a (tree r k span text marks below id after) ms =
    let node : Node = record { kind = k; span = span; text = text; marks = marks; children = below; node_id = id } in
    mentions_below a after (mentions_below (around_in a node) below (ms ++ noted_by k a node))

-- what is noted in the node and all below it
abbrev pub mentions_from : Around → Node → List Mention → List Mention
mentions_from a node ms = mentions_below (around_in a node) node.children (ms ++ noted_by node.kind a node)
