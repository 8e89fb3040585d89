-- Where code is only declared: inside a node marked `declare`, and in a definition file.
use Rattle.std.specs.Prelude.{Bool, ◌&&◌, ◌||◌, not, [], ◌∷◌, cond}
use Rattle.semantic_kinds.specs.Roles.{same_role}
use Rattle.semantic_kinds.specs.declared.kind.AstType.TheVariants as kind
use Rattle.semantic_kinds.specs.declared.role.Role.{Role}
use Rattle.semantic_kinds.specs.declared.role.Role.TheVariants as role
use Rattle.semantic_kinds.specs.declared.mark.Mark.TheVariants as mark
use Rattle.semantic_tree.specs.declared.node.Node.{Node}
use Rattle.semantic_tree.specs.Views.{is, has}
use Rattle.semantic_kinds.specs.Classes.{holds_kind}

-- whether code is ambient inside a node, given whether it is around it
abbrev pub ambient_inside : Node → Bool → Bool
ambient_inside node around = around || (has mark.Declare node && not (is kind.AccessorProperty node))

-- whether code is ambient round a child in the role: a class's or property's own mark doesn't reach its decorators
abbrev pub ambient_round : Node → Bool → Role → Bool
ambient_round node around r =
    cond (holds_kind (kind.Class ∷ kind.PropertyDefinition ∷ []) node.kind && same_role r role.Decorators) around (ambient_inside node around)
