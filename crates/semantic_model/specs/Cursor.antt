-- The cursor: the flags that the next identifier reference gets. Each rule acts on coming to a child, to a node, or on leaving one.
use Rattle.std.specs.Prelude.{ℕ, ◌==◌, [], ◌∷◌, Bool, ◌&&◌, ◌||◌, not, cond, codes}
use Rattle.bitflags.specs.Sets.{without}
use Rattle.semantic_tree.specs.Forest.{Forest, nothing, tree}
use Rattle.semantic_kinds.specs.Roles.{same_role}
use Rattle.semantic_kinds.specs.declared.kind.AstType.{AstType}
use Rattle.semantic_kinds.specs.declared.kind.AstType.TheVariants as kind
use Rattle.semantic_kinds.specs.declared.role.Role.{Role}
use Rattle.semantic_kinds.specs.declared.role.Role.TheVariants as role
use Rattle.semantic_kinds.specs.declared.mark.Mark.TheVariants as mark
use Rattle.semantic_tree.specs.declared.node.Node.{Node}
use Rattle.semantic_syntax.specs.declared.reference_flags.TheConstants.ReferenceFlags as way
use Rattle.semantic_syntax.specs.Sets.{meets, union}
use Rattle.semantic_tree.specs.Views.{is, has, has_text, child_of, holds}
use Rattle.semantic_tree.specs.Unwrapped.{inner_expression}
use Rattle.semantic_model.specs.Ambient.{ambient_inside, ambient_round}
use Rattle.semantic_kinds.specs.Classes.{is_member, is_simple_target, holds_kind}

-- a name or a type name that is used as a value or a type
abbrev pub read_or_type : ℕ
read_or_type = union way.Read.bits way.TypeFlag.bits

-- the places where an assignment writes
abbrev pub is_write_place : AstType → Role → Bool
is_write_place kind.AssignmentExpression r = same_role r role.Left
is_write_place kind.ForInStatement r = same_role r role.Left
is_write_place kind.ForOfStatement r = same_role r role.Left
is_write_place kind.UpdateExpression r = same_role r role.Argument
is_write_place kind.ArrayAssignmentTarget r = same_role r role.Elements || same_role r role.Binding
is_write_place _ r = same_role r role.Binding

-- a target that isn't yet written becomes written
abbrev pub way_written : AstType → Role → Node → ℕ → ℕ
way_written parent r child cursor =
    cond (is_write_place parent r && is_simple_target child.kind && not (meets cursor way.Write.bits)) way.Write.bits cursor

-- a member, or a chain of one, as `a?.b`
abbrev pub is_member_or_chain : Node → Bool
is_member_or_chain node = is_member node.kind || (is kind.ChainExpression node && holds (λ x. is_member x.kind) (child_of role.Expression node))

-- what is exported: a type alone where it is marked so
abbrev pub way_exported : Node → Node → ℕ
way_exported parent child = cond (has mark.TypeOnly child || has mark.TypeOnly parent) way.TypeFlag.bits read_or_type

-- what an import of the form `import a = b` names
abbrev pub equated : Node → Node → ℕ
equated parent child =
    union (cond (has mark.TypeOnly parent) way.TypeFlag.bits read_or_type) (cond (is kind.IdentifierReference child) way.Namespace.bits 0)

-- the left part of a qualified name is a namespace
abbrev pub qualified : ℕ → ℕ
qualified cursor = union (cond (cursor == 0) read_or_type cursor) way.Namespace.bits

-- a computed key that is never run is only the type of a value
abbrev pub typed_key : Node → Bool → ℕ → ℕ
typed_key parent ambient cursor = cond (has mark.Computed parent && (has mark.Abstract parent || ambient)) way.ValueAsType.bits cursor

-- the cursor at a child, by its parent's kind; `ambient` says whether code inside the parent is
abbrev pub at_child : AstType → Node → Bool → Role → Node → ℕ → ℕ
at_child kind.AssignmentExpression parent ambient role.Left child cursor =
    cond (has_text (codes "=") parent) cursor way.Value.bits
at_child kind.UpdateExpression parent ambient role.Argument child cursor = way.Value.bits
at_child kind.UnaryExpression parent ambient role.Argument child cursor =
    cond (has_text (codes "delete") parent && is_member_or_chain (inner_expression child)) way.Write.bits cursor
at_child kind.ComputedMemberExpression parent ambient role.Expression child cursor = without 8 cursor way.MemberWriteTarget.bits
at_child kind.ConditionalExpression parent ambient role.Test child cursor = without 8 cursor way.MemberWriteTarget.bits
at_child kind.AssignmentTargetPropertyIdentifier parent ambient role.Binding child cursor = way.Write.bits
at_child kind.ExportDefaultDeclaration parent ambient r child cursor = cond (is kind.IdentifierReference child) read_or_type cursor
at_child kind.TSExportAssignment parent ambient r child cursor = cond (is kind.IdentifierReference child) read_or_type cursor
at_child kind.ExportNamedDeclaration parent ambient role.Specifiers child cursor = way_exported parent child
at_child kind.TSPropertySignature parent ambient role.Key child cursor =
    cond (holds_kind (kind.IdentifierName ∷ kind.PrivateIdentifier ∷ []) child.kind) cursor way.ValueAsType.bits
at_child kind.TSMethodSignature parent ambient role.Key child cursor = cond (has mark.Computed parent) way.ValueAsType.bits cursor
at_child kind.MethodDefinition parent ambient role.Key child cursor = typed_key parent ambient cursor
at_child kind.PropertyDefinition parent ambient role.Key child cursor = typed_key parent ambient cursor
at_child kind.Class parent ambient role.Heritage child cursor = cond ambient way.ValueAsType.bits cursor
at_child kind.TSImportEqualsDeclaration parent ambient role.Reference child cursor = equated parent child
at_child kind.TSQualifiedName parent ambient role.Left child cursor = qualified cursor
at_child kind.TSInterfaceHeritage parent ambient role.Name child cursor = way.TypeFlag.bits
at_child kind.TSClassImplements parent ambient role.Name child cursor = way.TypeFlag.bits
at_child kind.TSTypeReference parent ambient role.Name child cursor = way.TypeFlag.bits
at_child _ parent ambient r child cursor = cursor

-- the cursor on coming to a child
abbrev pub cursor_before : Node → Bool → Role → Node → ℕ → ℕ
cursor_before parent ambient r child cursor = way_written parent.kind r child (at_child parent.kind parent ambient r child cursor)

-- the cursor after a child, from those before and behind it
abbrev pub cursor_behind : AstType → Role → ℕ → ℕ → ℕ
cursor_behind kind.ConditionalExpression role.Test before behind = before
cursor_behind kind.TSMethodSignature role.Key before behind = 0
cursor_behind kind.MethodDefinition role.Key before behind = 0
cursor_behind kind.PropertyDefinition role.Key before behind = 0
cursor_behind kind.Class role.Heritage before behind = 0
cursor_behind kind.TSImportEqualsDeclaration role.Reference before behind = 0
cursor_behind _ r before behind = behind

-- an object whose member is written is read
abbrev pub target_of_write : ℕ → ℕ
target_of_write cursor = cond (meets cursor way.Write.bits) (union way.Read.bits way.MemberWriteTarget.bits) cursor

-- the cursor on entering a node
abbrev pub on_entering : AstType → ℕ → ℕ
on_entering kind.TSTypeQuery cursor = way.ValueAsType.bits
on_entering kind.ComputedMemberExpression cursor = target_of_write cursor
on_entering kind.StaticMemberExpression cursor = target_of_write cursor
on_entering kind.PrivateFieldExpression cursor = target_of_write cursor
on_entering _ cursor = cursor

-- the nodes that leave the cursor empty
abbrev pub on_leaving : AstType → ℕ → ℕ
on_leaving kind.IdentifierReference cursor = 0
on_leaving kind.TSTypeQuery cursor = 0
on_leaving kind.TSPropertySignature cursor = 0
on_leaving kind.ComputedMemberExpression cursor = 0
on_leaving kind.StaticMemberExpression cursor = 0
on_leaving kind.PrivateFieldExpression cursor = 0
on_leaving _ cursor = cursor

-- the cursor after the children that are left of a node; `around` says whether code around the node is ambient
abbrev pub cursor_after : Node → Bool → ℕ → Forest → ℕ
cursor_after parent around cursor nothing = cursor
cursor_after parent around cursor (tree r k span text marks below id after) =
    let node : Node = record { kind = k; span = span; text = text; marks = marks; children = below; node_id = id } in
    let entered = on_entering k (cursor_before parent (ambient_inside parent around) r node cursor) in
    let left = on_leaving k (cursor_after node (ambient_round parent around r) entered below) in
    cursor_after parent around (cursor_behind parent.kind r cursor left) after

-- the way of a reference: it reads where nothing else is said
abbrev pub way_or_read : ℕ → ℕ
way_or_read cursor = cond (cursor == 0) way.Read.bits cursor
