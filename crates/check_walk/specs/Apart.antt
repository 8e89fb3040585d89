-- References by the nodes that they are.
use Rattle.std.specs.Prelude.{nat_eq}
use Rattle.std.specs.List.{IsDistinct}
use Rattle.std.specs.Map.{keys_of}
use Rattle.walk_model.specs.WalkState.{WalkState}

-- no node has two entries among the references
abbrev pub HasApart : WalkState → Type 0
HasApart w = IsDistinct nat_eq (keys_of w.nodes.references)
