-- The lengths of names, node by node.
use Rattle.std.specs.Prelude.{ℕ, ◌+◌, Option, Some, cond, bytes_eq}
use Rattle.semantic_tree.specs.declared.node.Node.{Node}
use Rattle.mangle_model.specs.Written.{size_of}

-- how long the other name is with ` as `, where it isn't the local one
abbrev pub other_size_of : Option Node → Option Node → ℕ
other_size_of (Some x) (Some y) = cond (bytes_eq x.text y.text) 0 (size_of x.text + 4)
other_size_of _ _ = 0
