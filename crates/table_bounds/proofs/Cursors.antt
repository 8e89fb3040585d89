-- The cursor has no flags but those that have names.
use Rattle.std.proofs.Common.{ℕ, ◌-◌, ◌^◌, ◌==◌, ◌&&◌, ◌||◌, not, codes, Bool, true, false, cond, if◌then◌else◌, ◌∷◌, [], lit<, arith}
use Rattle.bitflags.specs.Sets.{without}
use lib.Bits.{or_lt, and_le_l}
use Rattle.semantic_kinds.specs.Classes.{holds_kind, is_simple_target}
use Rattle.semantic_kinds.specs.declared.kind.AstType.{AstType}
use Rattle.semantic_kinds.specs.declared.kind.AstType.TheVariants as kind
use Rattle.semantic_kinds.specs.declared.mark.Mark.TheVariants as mark
use Rattle.semantic_kinds.specs.declared.role.Role.{Role}
use Rattle.semantic_kinds.specs.declared.role.Role.TheVariants as role
use Rattle.semantic_syntax.specs.FlagNames.{reference_flag_names}
use Rattle.semantic_syntax.specs.Sets.{meets, union}
use Rattle.semantic_syntax.specs.Usable.{settled}
use Rattle.semantic_syntax.specs.declared.reference_flags.TheConstants.ReferenceFlags as way
use Rattle.semantic_syntax.specs.declared.symbol_flags.TheConstants.SymbolFlags as symbol
use Rattle.semantic_tree.specs.Forest.{Forest, nothing, tree}
use Rattle.semantic_tree.specs.Unwrapped.{inner_expression}
use Rattle.semantic_tree.specs.Views.{is, has, has_text}
use Rattle.semantic_tree.specs.declared.node.Node.{Node}
use Rattle.semantic_model.specs.Ambient.{ambient_inside, ambient_round}
use Rattle.semantic_model.specs.Cursor.{read_or_type, is_write_place, is_member_or_chain, way_exported, equated, qualified, typed_key, at_child, cursor_before, cursor_behind, target_of_write, on_entering, on_leaving, cursor_after, way_or_read}
use Rattle.table_bounds.specs.Tellable.{HaveNames}

abbrev pub IsWay : ℕ → Type 0
IsWay bits = HaveNames reference_flag_names bits

either : (b : Bool) (x y : ℕ) → IsWay x → IsWay y → IsWay (cond b x y)
either true x y h k = h
either false x y h k = k

both : (x y : ℕ) → IsWay x → IsWay y → IsWay (union x y)
both x y h k = or_lt 6 x y h k

less : (x y : ℕ) → IsWay x → IsWay (without 8 x y)
less x y h = omega (arith, h, and_le_l x (2 ^ 8 - 1 - y))

zero_way : IsWay 0
zero_way = lit< tt

read : IsWay way.Read.bits
read = lit< tt

write : IsWay way.Write.bits
write = lit< tt

value : IsWay way.Value.bits
value = lit< tt

type_flag : IsWay way.TypeFlag.bits
type_flag = lit< tt

value_as_type : IsWay way.ValueAsType.bits
value_as_type = lit< tt

namespace_flag : IsWay way.Namespace.bits
namespace_flag = lit< tt

read_type : IsWay read_or_type
read_type = both way.Read.bits way.TypeFlag.bits read type_flag

target_write : IsWay (union way.Read.bits way.MemberWriteTarget.bits)
target_write = both way.Read.bits way.MemberWriteTarget.bits read (lit< tt)

exported_way : (parent child : Node) → IsWay (way_exported parent child)
exported_way parent child = either (has mark.TypeOnly child || has mark.TypeOnly parent) way.TypeFlag.bits read_or_type type_flag read_type

equated_way : (parent child : Node) → IsWay (equated parent child)
equated_way parent child =
    both (cond (has mark.TypeOnly parent) way.TypeFlag.bits read_or_type) (cond (is kind.IdentifierReference child) way.Namespace.bits 0)
    (either (has mark.TypeOnly parent) way.TypeFlag.bits read_or_type type_flag read_type) (either (is kind.IdentifierReference child) way.Namespace.bits 0 namespace_flag zero_way)

qualified_way : (cursor : ℕ) → IsWay cursor → IsWay (qualified cursor)
qualified_way cursor h = both (cond (cursor == 0) read_or_type cursor) way.Namespace.bits (either (cursor == 0) read_or_type cursor read_type h) namespace_flag

key_way : (parent : Node) (ambient : Bool) (cursor : ℕ) → IsWay cursor → IsWay (typed_key parent ambient cursor)
key_way parent ambient cursor h = either (has mark.Computed parent && (has mark.Abstract parent || ambient)) way.ValueAsType.bits cursor value_as_type h

child_way : (k : AstType) (parent : Node) (ambient : Bool) (r : Role) (child : Node) (cursor : ℕ) → IsWay cursor → IsWay (at_child k parent ambient r child cursor)
child_way kind.AssignmentExpression parent ambient role.Left child cursor h = either (has_text (codes "=") parent) cursor way.Value.bits h value
child_way kind.UpdateExpression parent ambient role.Argument child cursor h = value
child_way kind.UnaryExpression parent ambient role.Argument child cursor h =
    either (has_text (codes "delete") parent && is_member_or_chain (inner_expression child)) way.Write.bits cursor write h
child_way kind.ComputedMemberExpression parent ambient role.Expression child cursor h = less cursor way.MemberWriteTarget.bits h
child_way kind.ConditionalExpression parent ambient role.Test child cursor h = less cursor way.MemberWriteTarget.bits h
child_way kind.AssignmentTargetPropertyIdentifier parent ambient role.Binding child cursor h = write
child_way kind.ExportDefaultDeclaration parent ambient r child cursor h = either (is kind.IdentifierReference child) read_or_type cursor read_type h
child_way kind.TSExportAssignment parent ambient r child cursor h = either (is kind.IdentifierReference child) read_or_type cursor read_type h
child_way kind.ExportNamedDeclaration parent ambient role.Specifiers child cursor h = exported_way parent child
child_way kind.TSPropertySignature parent ambient role.Key child cursor h =
    either (holds_kind (kind.IdentifierName ∷ kind.PrivateIdentifier ∷ []) child.kind) cursor way.ValueAsType.bits h value_as_type
child_way kind.TSMethodSignature parent ambient role.Key child cursor h = either (has mark.Computed parent) way.ValueAsType.bits cursor value_as_type h
child_way kind.MethodDefinition parent ambient role.Key child cursor h = key_way parent ambient cursor h
child_way kind.PropertyDefinition parent ambient role.Key child cursor h = key_way parent ambient cursor h
child_way kind.Class parent ambient role.Heritage child cursor h = either ambient way.ValueAsType.bits cursor value_as_type h
child_way kind.TSImportEqualsDeclaration parent ambient role.Reference child cursor h = equated_way parent child
child_way kind.TSQualifiedName parent ambient role.Left child cursor h = qualified_way cursor h
child_way kind.TSInterfaceHeritage parent ambient role.Name child cursor h = type_flag
child_way kind.TSClassImplements parent ambient role.Name child cursor h = type_flag
child_way kind.TSTypeReference parent ambient role.Name child cursor h = type_flag
child_way _ parent ambient r child cursor h = h

pub before_way : (parent : Node) (ambient : Bool) (r : Role) (child : Node) (cursor : ℕ) → IsWay cursor → IsWay (cursor_before parent ambient r child cursor)
before_way parent ambient r child cursor h =
    let there : ℕ = at_child parent.kind parent ambient r child cursor in
    either (is_write_place parent.kind r && is_simple_target child.kind && not (meets (at_child parent.kind parent ambient r child cursor) way.Write.bits)) way.Write.bits (at_child parent.kind parent ambient r child cursor) write
    (child_way parent.kind parent ambient r child cursor h)

pub behind_way : (k : AstType) (r : Role) (before behind : ℕ) → IsWay before → IsWay behind → IsWay (cursor_behind k r before behind)
behind_way kind.ConditionalExpression role.Test before behind h k = h
behind_way kind.TSMethodSignature role.Key before behind h k = zero_way
behind_way kind.MethodDefinition role.Key before behind h k = zero_way
behind_way kind.PropertyDefinition role.Key before behind h k = zero_way
behind_way kind.Class role.Heritage before behind h k = zero_way
behind_way kind.TSImportEqualsDeclaration role.Reference before behind h k = zero_way
behind_way _ r before behind h k = k

target_way : (cursor : ℕ) → IsWay cursor → IsWay (target_of_write cursor)
target_way cursor h = either (meets cursor way.Write.bits) (union way.Read.bits way.MemberWriteTarget.bits) cursor target_write h

pub entering_way : (k : AstType) (cursor : ℕ) → IsWay cursor → IsWay (on_entering k cursor)
entering_way kind.TSTypeQuery cursor h = value_as_type
entering_way kind.ComputedMemberExpression cursor h = target_way cursor h
entering_way kind.StaticMemberExpression cursor h = target_way cursor h
entering_way kind.PrivateFieldExpression cursor h = target_way cursor h
entering_way _ cursor h = h

pub leaving_way : (k : AstType) (cursor : ℕ) → IsWay cursor → IsWay (on_leaving k cursor)
leaving_way kind.IdentifierReference cursor h = zero_way
leaving_way kind.TSTypeQuery cursor h = zero_way
leaving_way kind.TSPropertySignature cursor h = zero_way
leaving_way kind.ComputedMemberExpression cursor h = zero_way
leaving_way kind.StaticMemberExpression cursor h = zero_way
leaving_way kind.PrivateFieldExpression cursor h = zero_way
leaving_way _ cursor h = h

pub after_way : (parent : Node) (around : Bool) (cursor : ℕ) (f : Forest) → IsWay cursor → IsWay (cursor_after parent around cursor f)
after_way parent around cursor nothing h = h
after_way parent around cursor (tree r k span text marks below id after) h =
    let node : Node = record { kind = k; span = span; text = text; marks = marks; children = below; node_id = id } in
    let before : ℕ = cursor_before parent (ambient_inside parent around) r node cursor in
    let entered : ℕ = on_entering k before in
    let left : ℕ = on_leaving k (cursor_after node (ambient_round parent around r) entered below) in
    after_way parent around (cursor_behind parent.kind r cursor left) after
    (behind_way parent.kind r cursor left h
    (leaving_way k (cursor_after node (ambient_round parent around r) entered below)
    (after_way node (ambient_round parent around r) entered below (entering_way k before (before_way parent (ambient_inside parent around) r node cursor h)))))

pub reference_way : (cursor : ℕ) → IsWay cursor → IsWay (way_or_read cursor)
reference_way cursor h = either (cursor == 0) way.Read.bits cursor read h

pub settled_way : (w flags : ℕ) → IsWay w → IsWay (settled w flags)
settled_way w flags h = by (meets w way.Value.bits && meets flags symbol.ByValue.bits) (meets w way.Namespace.bits && meets w way.Read.bits)
  where
    by : (b c : Bool) → IsWay (if b then without 8 w way.TypeFlag.bits else if c then without 8 w way.TypeFlag.bits else way.TypeFlag.bits)
    by true c = less w way.TypeFlag.bits h
    by false true = less w way.TypeFlag.bits h
    by false false = type_flag
