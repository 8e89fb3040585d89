-- Where a node fixes a name that others see, by its place in the tree.
use Rattle.std.specs.Prelude.{ℕ, Bool, ◌&&◌, ◌||◌}
use Rattle.semantic_kinds.specs.Kinds.{same_kind}
use Rattle.semantic_kinds.specs.Roles.{same_role}
use Rattle.semantic_kinds.specs.declared.kind.AstType.{AstType}
use Rattle.semantic_kinds.specs.declared.kind.AstType.TheVariants as kind
use Rattle.semantic_kinds.specs.declared.role.Role.TheVariants as role
use Rattle.semantic_tree.specs.Rules.{is_that_kind}
use Rattle.semantic_tree.specs.declared.node.Node.{Node}
use Rattle.semantic_tree.specs.declared.place.Place.{Place}

-- the text of a node is also the name of a property or of a member
abbrev pub names_property_at : Place → AstType → Bool
names_property_at place k = same_kind k kind.TSEnumMember || (same_role place.role role.Binding && is_that_kind place.parent kind.AssignmentTargetPropertyIdentifier)

-- a chosen node whose text is such a name, or is exported
abbrev pub fixes_at : (exported chosen : ℕ → Bool) → Place → Node → Bool
fixes_at exported chosen place node = chosen node.node_id && (names_property_at place node.kind || exported node.node_id)
