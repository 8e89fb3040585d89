-- What an iterator over keys that set the prototype has left.
use Rattle.std.specs.Prelude.{List, filter_map}
use Rattle.semantic_tree.specs.ChildIter.{left_of}
use Rattle.semantic_tree.specs.declared.node.Node.{Node}
use Rattle.check_model.specs.Expressions.{proto_key}
use Rattle.expression_checks.specs.declared.objects.ProtoKeys.{ProtoKeys}

-- the keys that are left
abbrev pub keys_left : ProtoKeys → List Node
keys_left keys = filter_map proto_key (left_of keys.properties)
