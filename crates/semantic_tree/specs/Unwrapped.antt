-- Nodes without what is wrapped round them.
use Rattle.std.specs.Prelude.{Bool, if◌then◌else◌}
use Rattle.semantic_kinds.specs.Roles.{same_role}
use Rattle.semantic_kinds.specs.declared.kind.AstType.{AstType}
use Rattle.semantic_kinds.specs.declared.role.Role.{Role}
use Rattle.semantic_kinds.specs.declared.role.Role.TheVariants as roles
use Rattle.semantic_tree.specs.Forest.{Forest, nothing, tree}
use Rattle.semantic_tree.specs.KindGroups.{is_parentheses, is_wrapper}
use Rattle.semantic_tree.specs.declared.node.Node.{Node}

-- what the first tree in the role is without wrappers, or the outer node where there is none
abbrev pub unwrapped_in : (AstType → Bool) → Role → Node → Forest → Node
unwrapped_in wraps inner outer nothing = outer
unwrapped_in wraps inner outer (tree role kind span text marks below id after) =
    if same_role role inner
    then (let found : Node = record { kind = kind; span = span; text = text; marks = marks; children = below; node_id = id } in if wraps kind then unwrapped_in wraps inner found below else found)
    else unwrapped_in wraps inner outer after

-- what is left of a node when wrappers are taken off, each by its child in the role
abbrev pub unwrapped : (AstType → Bool) → Role → Node → Node
unwrapped wraps inner node = if wraps node.kind then unwrapped_in wraps inner node node.children else node

-- the expression without parentheses
abbrev pub without_parentheses : Node → Node
without_parentheses = unwrapped is_parentheses roles.Expression

-- the expression without parentheses and TypeScript's wrappers
abbrev pub inner_expression : Node → Node
inner_expression = unwrapped is_wrapper roles.Expression
