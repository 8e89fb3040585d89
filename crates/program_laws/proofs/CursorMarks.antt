-- The cursor is the same with other marks, if those that are read are kept.
use Rattle.std.proofs.Common.{◌≡◌, ℕ, ◌∷◌, [], cond, Bool, true, false, not, ◌&&◌, ◌||◌, refl, ap, ◌∙◌, codes}
use Rattle.semantic_kinds.specs.Classes.{is_member, holds_kind}
use Rattle.semantic_kinds.specs.Roles.{same_role}
use Rattle.semantic_kinds.specs.declared.kind.AstType.{AstType}
use Rattle.semantic_kinds.specs.declared.kind.AstType.TheVariants as kind
use Rattle.semantic_kinds.specs.declared.mark.Mark.TheVariants as mark
use Rattle.semantic_kinds.specs.declared.marks.Marks.{Marks}
use Rattle.semantic_kinds.specs.declared.role.Role.{Role}
use Rattle.semantic_kinds.specs.declared.role.Role.TheVariants as role
use Rattle.semantic_syntax.specs.Sets.{union}
use Rattle.semantic_syntax.specs.declared.reference_flags.TheConstants.ReferenceFlags as way
use Rattle.semantic_tree.specs.Forest.{Forest, nothing, tree}
use Rattle.semantic_tree.specs.declared.node.Node.{Node}
use Rattle.semantic_model.specs.Ambient.{ambient_inside, ambient_round}
use Rattle.semantic_model.specs.Cursor.{read_or_type, way_written, typed_key, at_child, cursor_before, cursor_behind, on_entering, on_leaving, cursor_after, is_member_or_chain}
use Rattle.semantic_tree.specs.KindGroups.{is_wrapper}
use Rattle.semantic_tree.specs.Unwrapped.{unwrapped_in, inner_expression}
use Rattle.semantic_tree.specs.Views.{is, has_text}
use Rattle.program_laws.specs.ReadMarks.{KeepsRead}
use Rattle.program_laws.specs.Remarked.{remarked_node, remarked}
use Rattle.program_laws.proofs.Children.{child_holds}

module _ (f : Node → Marks) where
  -- what is inside the wrappers
  inside_same : (outer : Node) (below : Forest) → unwrapped_in is_wrapper role.Expression (remarked_node f outer) (remarked f below) ≡ remarked_node f (unwrapped_in is_wrapper role.Expression outer below)
  inside_same outer nothing = refl
  inside_same outer (tree r k span text marks below id after) = go (same_role r role.Expression) (is_wrapper k) (inside_same inner below) (inside_same outer after)
    where
      inner : Node
      inner = record { kind = k; span = span; text = text; marks = marks; children = below; node_id = id }

      go : (x y : Bool) → unwrapped_in is_wrapper role.Expression (remarked_node f inner) (remarked f below) ≡ remarked_node f (unwrapped_in is_wrapper role.Expression inner below) → unwrapped_in is_wrapper role.Expression (remarked_node f outer) (remarked f after) ≡ remarked_node f (unwrapped_in is_wrapper role.Expression outer after) → cond x (cond y (unwrapped_in is_wrapper role.Expression (remarked_node f inner) (remarked f below)) (remarked_node f inner)) (unwrapped_in is_wrapper role.Expression (remarked_node f outer) (remarked f after)) ≡ remarked_node f (cond x (cond y (unwrapped_in is_wrapper role.Expression inner below) inner) (unwrapped_in is_wrapper role.Expression outer after))
      go true true h i = h
      go true false h i = refl
      go false y h i = i

  pub inner_same : (node : Node) → inner_expression (remarked_node f node) ≡ remarked_node f (inner_expression node)
  inner_same node = go (is_wrapper node.kind)
    where
      go : (b : Bool) → cond b (unwrapped_in is_wrapper role.Expression (remarked_node f node) (remarked f node.children)) (remarked_node f node) ≡ remarked_node f (cond b (unwrapped_in is_wrapper role.Expression node node.children) node)
      go true = inside_same node node.children
      go false = refl

  chain_same : (node : Node) → is_member_or_chain (remarked_node f node) ≡ is_member_or_chain node
  chain_same node = ap (λ b. is_member node.kind || (is kind.ChainExpression node && b)) (child_holds f role.Expression (λ x. is_member x.kind) (λ n. refl) node)

  deleted_same : (node : Node) → is_member_or_chain (inner_expression (remarked_node f node)) ≡ is_member_or_chain (inner_expression node)
  deleted_same node = ap is_member_or_chain (inner_same node) ∙ chain_same (inner_expression node)

  module _ (keeps : KeepsRead f) where
    pub inside_ambient : (node : Node) (around : Bool) → ambient_inside (remarked_node f node) around ≡ ambient_inside node around
    inside_ambient node around = λ i. around || (keeps node mark.Declare refl i && not (is kind.AccessorProperty node))

    pub round_ambient : (node : Node) (around : Bool) (r : Role) → ambient_round (remarked_node f node) around r ≡ ambient_round node around r
    round_ambient node around r = ap (λ b. cond (holds_kind (kind.Class ∷ kind.PropertyDefinition ∷ []) node.kind && same_role r role.Decorators) around b) (inside_ambient node around)

    typed_same : (parent : Node) (ambient : Bool) (cursor : ℕ) → typed_key (remarked_node f parent) ambient cursor ≡ typed_key parent ambient cursor
    typed_same parent ambient cursor = λ i. cond (keeps parent mark.Computed refl i && (keeps parent mark.Abstract refl i || ambient)) way.ValueAsType.bits cursor

    at_child_same : (k : AstType) (parent : Node) (ambient : Bool) (r : Role) (child : Node) (cursor : ℕ) → at_child k (remarked_node f parent) ambient r (remarked_node f child) cursor ≡ at_child k parent ambient r child cursor
    at_child_same kind.AssignmentExpression parent ambient role.Left child cursor = refl
    at_child_same kind.UnaryExpression parent ambient role.Argument child cursor = ap (λ b. cond (has_text (codes "delete") parent && b) way.Write.bits cursor) (deleted_same child)
    at_child_same kind.UpdateExpression parent ambient role.Argument child cursor = refl
    at_child_same kind.ComputedMemberExpression parent ambient role.Expression child cursor = refl
    at_child_same kind.ConditionalExpression parent ambient role.Test child cursor = refl
    at_child_same kind.AssignmentTargetPropertyIdentifier parent ambient role.Binding child cursor = refl
    at_child_same kind.ExportNamedDeclaration parent ambient role.Specifiers child cursor =
        λ i. cond (keeps child mark.TypeOnly refl i || keeps parent mark.TypeOnly refl i) way.TypeFlag.bits read_or_type
    at_child_same kind.TSPropertySignature parent ambient role.Key child cursor = refl
    at_child_same kind.TSMethodSignature parent ambient role.Key child cursor = λ i. cond (keeps parent mark.Computed refl i) way.ValueAsType.bits cursor
    at_child_same kind.MethodDefinition parent ambient role.Key child cursor = typed_same parent ambient cursor
    at_child_same kind.PropertyDefinition parent ambient role.Key child cursor = typed_same parent ambient cursor
    at_child_same kind.Class parent ambient role.Heritage child cursor = refl
    at_child_same kind.TSImportEqualsDeclaration parent ambient role.Reference child cursor =
        λ i. union (cond (keeps parent mark.TypeOnly refl i) way.TypeFlag.bits read_or_type) (cond (is kind.IdentifierReference child) way.Namespace.bits 0)
    at_child_same kind.TSQualifiedName parent ambient role.Left child cursor = refl
    at_child_same kind.TSInterfaceHeritage parent ambient role.Name child cursor = refl
    at_child_same kind.TSClassImplements parent ambient role.Name child cursor = refl
    at_child_same kind.TSTypeReference parent ambient role.Name child cursor = refl
    at_child_same _ parent ambient r child cursor = refl

    pub before_same : (parent : Node) (ambient : Bool) (r : Role) (child : Node) (cursor : ℕ) → cursor_before (remarked_node f parent) ambient r (remarked_node f child) cursor ≡ cursor_before parent ambient r child cursor
    before_same parent ambient r child cursor = ap (way_written parent.kind r child) (at_child_same parent.kind parent ambient r child cursor)

    -- the cursor on coming to a child
    pub coming_same : (parent : Node) (around : Bool) (r : Role) (child : Node) (cursor : ℕ) → cursor_before (remarked_node f parent) (ambient_inside (remarked_node f parent) around) r (remarked_node f child) cursor ≡ cursor_before parent (ambient_inside parent around) r child cursor
    coming_same parent around r child cursor =
        ap (λ b. cursor_before (remarked_node f parent) b r (remarked_node f child) cursor) (inside_ambient parent around) ∙ before_same parent (ambient_inside parent around) r child cursor

    -- the cursor behind the children
    pub after_same : (parent : Node) (around : Bool) (cursor : ℕ) (g : Forest) → cursor_after (remarked_node f parent) around cursor (remarked f g) ≡ cursor_after parent around cursor g
    after_same parent around cursor nothing = refl
    after_same parent around cursor (tree r k span text marks below id after) =
        let node : Node = record { kind = k; span = span; text = text; marks = marks; children = below; node_id = id } in
        let entered : ℕ = on_entering k (cursor_before parent (ambient_inside parent around) r node cursor) in
        let inside : Bool = ambient_round parent around r in
        ap (λ c. cursor_after (remarked_node f parent) around (cursor_behind parent.kind r cursor (on_leaving k c)) (remarked f after))
        ((λ i. cursor_after (remarked_node f node) (round_ambient parent around r i) (on_entering k (coming_same parent around r node cursor i)) (remarked f below)) ∙ after_same node inside entered below)
        ∙ after_same parent around (cursor_behind parent.kind r cursor (on_leaving k (cursor_after node inside entered below))) after
