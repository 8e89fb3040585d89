-- Trees that differ in names alone have the same cursor.
use Rattle.std.proofs.Common.{◌≡◌, ℕ, ◌∷◌, cond, Bool, true, false, ◌&&◌, ◌||◌, refl, ap, ◌∙◌, codes, bytes_eq}
use Rattle.semantic_syntax.specs.Tables.{Name}
use Rattle.semantic_tree.specs.Forest.{Forest, nothing}
use Rattle.semantic_tree.specs.Nodes.{first_of}
use Rattle.semantic_tree.specs.declared.node.Node.{Node}
use Rattle.semantic_kinds.specs.Roles.{same_role}
use Rattle.semantic_kinds.specs.declared.kind.AstType.{AstType}
use Rattle.semantic_kinds.specs.declared.kind.AstType.TheVariants as kind
use Rattle.semantic_kinds.specs.declared.role.Role.{Role}
use Rattle.semantic_kinds.specs.declared.role.Role.TheVariants as role
use Rattle.semantic_syntax.specs.declared.reference_flags.TheConstants.ReferenceFlags as way
use Rattle.semantic_tree.specs.Views.{is, has_text, children_of, holds}
use Rattle.semantic_tree.specs.KindGroups.{is_wrapper}
use Rattle.semantic_tree.specs.Unwrapped.{unwrapped_in, inner_expression}
use Rattle.semantic_model.specs.Cursor.{is_member_or_chain, way_written, at_child, cursor_before, cursor_behind, on_entering, on_leaving, cursor_after}
use Rattle.semantic_model.specs.Ambient.{ambient_inside, ambient_round}
use Rattle.semantic_kinds.specs.Classes.{is_member}
use Rattle.semantic_model.proofs.swapped.Alike.{Alike, no_trees, trees_alike, TextFor, is_name, may_name}

-- the node with another text and other children
abbrev pub with_text : Node → Name → Forest → Node
with_text node u g = record node { text = u; children = g }

module _ (f : Name → Name) where
  -- a node that differs in names alone
  pub record SameNode (node : Node) (u : Name) (g : Forest) : Type 0 where
    pub text : TextFor f node.kind node.text u
    pub children : Alike f node.children g

  -- what is inside the wrappers
  pub record SameInner (a b : Node) : Type 0 where
    pub u : Name
    pub g : Forest
    pub same : SameNode a u g
    pub is : b ≡ with_text a u g

  inside_same : (outer : Node) (u : Name) (g : Forest) (below below' : Forest) → SameNode outer u g → Alike f below below' → SameInner (unwrapped_in is_wrapper role.Expression outer below) (unwrapped_in is_wrapper role.Expression (with_text outer u g) below')
  inside_same outer u g nothing nothing s no_trees = record { u = u; g = g; same = s; is = refl }
  inside_same outer u g _ _ s (trees_alike r k span t v marks below below' id after after' text members b a) =
      go (same_role r role.Expression) (is_wrapper k)
      (inside_same (record { kind = k; span = span; text = t; marks = marks; children = below; node_id = id }) v below' below below' (record { text = text; children = b }) b)
      (inside_same outer u g after after' s a)
    where
      inner : Node
      inner = record { kind = k; span = span; text = t; marks = marks; children = below; node_id = id }

      go : (x y : Bool) → SameInner (unwrapped_in is_wrapper role.Expression inner below) (unwrapped_in is_wrapper role.Expression (with_text inner v below') below') → SameInner (unwrapped_in is_wrapper role.Expression outer after) (unwrapped_in is_wrapper role.Expression (with_text outer u g) after') → SameInner (cond x (cond y (unwrapped_in is_wrapper role.Expression inner below) inner) (unwrapped_in is_wrapper role.Expression outer after)) (cond x (cond y (unwrapped_in is_wrapper role.Expression (with_text inner v below') below') (with_text inner v below')) (unwrapped_in is_wrapper role.Expression (with_text outer u g) after'))
      go true true h i = h
      go true false h i = record { u = v; g = below'; same = record { text = text; children = b }; is = refl }
      go false y h i = i

  pub inner_same : (node : Node) (u : Name) (g : Forest) → SameNode node u g → SameInner (inner_expression node) (inner_expression (with_text node u g))
  inner_same node u g s = go (is_wrapper node.kind)
    where
      go : (b : Bool) → SameInner (cond b (unwrapped_in is_wrapper role.Expression node node.children) node) (cond b (unwrapped_in is_wrapper role.Expression (with_text node u g) g) (with_text node u g))
      go true = inside_same node u g node.children g s s.children
      go false = record { u = u; g = g; same = s; is = refl }

  -- the kind of the first child in a role
  first_kind : (r : Role) (test : AstType → Bool) (a b : Forest) → Alike f a b → holds (λ x. test x.kind) (first_of (children_of r b)) ≡ holds (λ x. test x.kind) (first_of (children_of r a))
  first_kind r test nothing nothing no_trees = refl
  first_kind r test _ _ (trees_alike q k span t v marks below below' id after after' text members b a) = go (same_role q r) (first_kind r test after after' a)
    where
      go : (x : Bool) → holds (λ n. test n.kind) (first_of (children_of r after')) ≡ holds (λ n. test n.kind) (first_of (children_of r after)) → holds (λ n. test n.kind) (first_of (cond x (record { kind = k; span = span; text = v; marks = marks; children = below'; node_id = id } ∷ children_of r after') (children_of r after'))) ≡ holds (λ n. test n.kind) (first_of (cond x (record { kind = k; span = span; text = t; marks = marks; children = below; node_id = id } ∷ children_of r after) (children_of r after)))
      go true h = refl
      go false h = h

  chain_same : (node : Node) (u : Name) (g : Forest) → SameNode node u g → is_member_or_chain (with_text node u g) ≡ is_member_or_chain node
  chain_same node u g s = ap (λ b. is_member node.kind || (is kind.ChainExpression node && b)) (first_kind role.Expression is_member node.children g s.children)

  deleted_same : (node : Node) (u : Name) (g : Forest) → SameNode node u g → is_member_or_chain (inner_expression (with_text node u g)) ≡ is_member_or_chain (inner_expression node)
  deleted_same node u g s = let w : SameInner (inner_expression node) (inner_expression (with_text node u g)) = inner_same node u g s in
      ap is_member_or_chain w.is ∙ chain_same (inner_expression node) w.u w.g w.same

  -- the text of a kind that names nothing
  plain_reads : (node : Node) (u : Name) (g : Forest) (word : Name) → SameNode node u g → is_name node.kind ≡ false → may_name node.kind ≡ false → has_text word (with_text node u g) ≡ has_text word node
  plain_reads node u g word s h i = ap (λ t. bytes_eq t word) (s.text.plain h i)

  at_child_same : (k : AstType) (parent : Node) (pu : Name) (pg : Forest) (ambient : Bool) (r : Role) (child : Node) (cu : Name) (cg : Forest) (cursor : ℕ) → parent.kind ≡ k → SameNode parent pu pg → SameNode child cu cg → at_child k (with_text parent pu pg) ambient r (with_text child cu cg) cursor ≡ at_child k parent ambient r child cursor
  at_child_same kind.AssignmentExpression parent pu pg ambient role.Left child cu cg cursor e s c =
      ap (λ b. cond b cursor way.Value.bits) (plain_reads parent pu pg (codes "=") s (rw e refl) (rw e refl))
  at_child_same kind.UnaryExpression parent pu pg ambient role.Argument child cu cg cursor e s c =
      ap (λ b. cond (b && is_member_or_chain (inner_expression (with_text child cu cg))) way.Write.bits cursor) (plain_reads parent pu pg (codes "delete") s (rw e refl) (rw e refl))
      ∙ ap (λ b. cond (has_text (codes "delete") parent && b) way.Write.bits cursor) (deleted_same child cu cg c)
  at_child_same kind.UpdateExpression parent pu pg ambient role.Argument child cu cg cursor e s c = refl
  at_child_same kind.ComputedMemberExpression parent pu pg ambient role.Expression child cu cg cursor e s c = refl
  at_child_same kind.ConditionalExpression parent pu pg ambient role.Test child cu cg cursor e s c = refl
  at_child_same kind.AssignmentTargetPropertyIdentifier parent pu pg ambient role.Binding child cu cg cursor e s c = refl
  at_child_same kind.ExportNamedDeclaration parent pu pg ambient role.Specifiers child cu cg cursor e s c = refl
  at_child_same kind.TSPropertySignature parent pu pg ambient role.Key child cu cg cursor e s c = refl
  at_child_same kind.TSMethodSignature parent pu pg ambient role.Key child cu cg cursor e s c = refl
  at_child_same kind.MethodDefinition parent pu pg ambient role.Key child cu cg cursor e s c = refl
  at_child_same kind.PropertyDefinition parent pu pg ambient role.Key child cu cg cursor e s c = refl
  at_child_same kind.Class parent pu pg ambient role.Heritage child cu cg cursor e s c = refl
  at_child_same kind.TSImportEqualsDeclaration parent pu pg ambient role.Reference child cu cg cursor e s c = refl
  at_child_same kind.TSQualifiedName parent pu pg ambient role.Left child cu cg cursor e s c = refl
  at_child_same kind.TSInterfaceHeritage parent pu pg ambient role.Name child cu cg cursor e s c = refl
  at_child_same kind.TSClassImplements parent pu pg ambient role.Name child cu cg cursor e s c = refl
  at_child_same kind.TSTypeReference parent pu pg ambient role.Name child cu cg cursor e s c = refl
  at_child_same _ parent pu pg ambient r child cu cg cursor e s c = refl

  pub before_same : (parent : Node) (pu : Name) (pg : Forest) (ambient : Bool) (r : Role) (child : Node) (cu : Name) (cg : Forest) (cursor : ℕ) → SameNode parent pu pg → SameNode child cu cg → cursor_before (with_text parent pu pg) ambient r (with_text child cu cg) cursor ≡ cursor_before parent ambient r child cursor
  before_same parent pu pg ambient r child cu cg cursor s c = ap (way_written parent.kind r child) (at_child_same parent.kind parent pu pg ambient r child cu cg cursor refl s c)

  -- the cursor behind the children
  pub after_same : (parent : Node) (pu : Name) (pg : Forest) (around : Bool) (cursor : ℕ) (g h : Forest) → SameNode parent pu pg → Alike f g h → cursor_after (with_text parent pu pg) around cursor h ≡ cursor_after parent around cursor g
  after_same parent pu pg around cursor nothing nothing s no_trees = refl
  after_same parent pu pg around cursor _ _ s (trees_alike r k span t v marks below below' id after after' text members b a) =
      let node : Node = record { kind = k; span = span; text = t; marks = marks; children = below; node_id = id } in
      let same : SameNode node v below' = record { text = text; children = b } in
      let ambient : Bool = ambient_inside parent around in
      let inside : Bool = ambient_round parent around r in
      rw (before_same parent pu pg ambient r node v below' cursor s same, after_same node v below' inside (on_entering k (cursor_before parent ambient r node cursor)) below below' same b)
      (after_same parent pu pg around (cursor_behind parent.kind r cursor (on_leaving k (cursor_after node inside (on_entering k (cursor_before parent ambient r node cursor)) below))) after after' s a)
