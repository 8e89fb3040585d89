-- In a program of ECMAScript each reference uses its name as a value.
use Rattle.std.proofs.Common.{◌≡◌, ℕ, [], ◌∷◌, Option, None, Bool, true, false, ◌&&◌, not, cond, refl, codes}
use Rattle.std.proofs.lemmas.Bool.{not-true}
use Rattle.bitflags.specs.Sets.{without}
use Rattle.semantic_kinds.specs.Classes.{is_simple_target, holds_kind}
use Rattle.semantic_kinds.specs.Roles.{same_role}
use Rattle.semantic_kinds.specs.declared.kind.AstType.{AstType}
use Rattle.semantic_kinds.specs.declared.kind.AstType.TheVariants as kind
use Rattle.semantic_kinds.specs.declared.mark.Mark.TheVariants as mark
use Rattle.semantic_kinds.specs.declared.role.Role.{Role}
use Rattle.semantic_kinds.specs.declared.role.Role.TheVariants as role
use Rattle.semantic_syntax.proofs.Truth.{and_first, and_second, and_false}
use Rattle.semantic_syntax.specs.Sets.{meets}
use Rattle.semantic_syntax.specs.SourceTypes.{is_typescript, is_typescript_language, is_typescript_definition, is_definition_language}
use Rattle.semantic_syntax.specs.declared.source_type.Lang.{Lang}
use Rattle.semantic_syntax.specs.declared.source_type.Lang.TheVariants as lang
use Rattle.semantic_syntax.specs.declared.source_type.SourceType.{SourceType}
use Rattle.semantic_syntax.specs.declared.reference_flags.TheConstants.ReferenceFlags as way
use Rattle.semantic_tree.specs.Faults.{first_fault}
use Rattle.semantic_tree.specs.Forest.{Forest, nothing, tree}
use Rattle.semantic_tree.specs.Tree.{Tree}
use Rattle.semantic_tree.specs.Unwrapped.{inner_expression}
use Rattle.semantic_tree.specs.Views.{is, has, has_text}
use Rattle.semantic_tree.specs.declared.node.Node.{Node}
use Rattle.semantic_model.specs.Ambient.{ambient_inside, ambient_round}
use Rattle.semantic_model.specs.Cursor.{is_write_place, way_written, is_member_or_chain, way_exported, typed_key, at_child, cursor_before, cursor_behind, target_of_write, on_entering, on_leaving, cursor_after}
use Rattle.semantic_model.specs.EachStep.{EachStep}
use Rattle.semantic_model.specs.Place.{Place, OpenScope}
use Rattle.semantic_model.specs.Step.{Step, entering, opening, header_ending, closing, leaving, steps_below, steps, root_place}
use Rattle.semantic_model.proofs.steps.EachStep.{each_of_node, each_of_turn}
use Rattle.semantic_model.proofs.steps.Turn.{Turn, turn_at}
use Rattle.semantic_model.proofs.steps.TurnCases.{opening_case, ending_case, last_case}
use Rattle.language_ties.specs.EcmaScript.{is_ecmascript_kind, is_ecmascript_forest, is_ecmascript}
use Rattle.language_ties.proofs.shared.PlainNodes.{IsPlainNode, plain_node, forests_plain, plain_root}

-- the cursors of such a program: empty, or a way to use a value
pub data IsPlainCursor : ℕ → Type 0 where
  empty : IsPlainCursor 0
  reads : IsPlainCursor 1
  writes : IsPlainCursor 2
  reads_and_writes : IsPlainCursor 3
  exports : IsPlainCursor 5
  reads_member : IsPlainCursor 33

unmarked : (c : ℕ) → IsPlainCursor c → IsPlainCursor (without 8 c way.MemberWriteTarget.bits)
unmarked _ empty = empty
unmarked _ reads = reads
unmarked _ writes = writes
unmarked _ reads_and_writes = reads_and_writes
unmarked _ exports = exports
unmarked _ reads_member = reads

targeted : (c : ℕ) → IsPlainCursor c → IsPlainCursor (target_of_write c)
targeted _ empty = empty
targeted _ reads = reads
targeted _ writes = reads_member
targeted _ reads_and_writes = reads_member
targeted _ exports = exports
targeted _ reads_member = reads_member

either : (b : Bool) (c d : ℕ) → IsPlainCursor c → IsPlainCursor d → IsPlainCursor (cond b c d)
either true c d h k = h
either false c d h k = k

-- ---- the rules

written_plain : (k : AstType) (r : Role) (child : Node) (c : ℕ) → IsPlainCursor c → IsPlainCursor (way_written k r child c)
written_plain k r child c h = either (is_write_place k r && is_simple_target child.kind && not (meets c way.Write.bits)) way.Write.bits c writes h

-- without marks of TypeScript nothing is exported as a type
exported_plain : (parent child : Node) → has mark.TypeOnly parent ≡ false → has mark.TypeOnly child ≡ false → IsPlainCursor (way_exported parent child)
exported_plain parent child h k = rw (k, h) exports

typed_plain : (parent : Node) (ambient : Bool) (c : ℕ) → has mark.Abstract parent ≡ false → ambient ≡ false → IsPlainCursor c → IsPlainCursor (typed_key parent ambient c)
typed_plain parent ambient c h k p = rw (h, k, and_false (has mark.Computed parent)) p

heritage_plain : (ambient : Bool) (c : ℕ) → ambient ≡ false → IsPlainCursor c → IsPlainCursor (cond ambient way.ValueAsType.bits c)
heritage_plain true c e h = absurd cc
heritage_plain false c e h = h

module _ (parent : Node) (ambient : Bool) (r : Role) (child : Node) (c : ℕ) (h : IsPlainCursor c) (p : IsPlainNode parent) (q : IsPlainNode child) (e : ambient ≡ false) where
  at_child_plain : (k : AstType) → is_ecmascript_kind k ≡ true → IsPlainCursor (at_child k parent ambient r child c)
  at_child_plain kind.AssignmentExpression i = go r
    where
      go : (s : Role) → IsPlainCursor (at_child kind.AssignmentExpression parent ambient s child c)
      go role.Left = either (has_text (codes "=") parent) c way.Value.bits h reads_and_writes
      go _ = h
  at_child_plain kind.UpdateExpression i = go r
    where
      go : (s : Role) → IsPlainCursor (at_child kind.UpdateExpression parent ambient s child c)
      go role.Argument = reads_and_writes
      go _ = h
  at_child_plain kind.UnaryExpression i = go r
    where
      go : (s : Role) → IsPlainCursor (at_child kind.UnaryExpression parent ambient s child c)
      go role.Argument = either (has_text (codes "delete") parent && is_member_or_chain (inner_expression child)) way.Write.bits c writes h
      go _ = h
  at_child_plain kind.ComputedMemberExpression i = go r
    where
      go : (s : Role) → IsPlainCursor (at_child kind.ComputedMemberExpression parent ambient s child c)
      go role.Expression = unmarked c h
      go _ = h
  at_child_plain kind.ConditionalExpression i = go r
    where
      go : (s : Role) → IsPlainCursor (at_child kind.ConditionalExpression parent ambient s child c)
      go role.Test = unmarked c h
      go _ = h
  at_child_plain kind.AssignmentTargetPropertyIdentifier i = go r
    where
      go : (s : Role) → IsPlainCursor (at_child kind.AssignmentTargetPropertyIdentifier parent ambient s child c)
      go role.Binding = writes
      go _ = h
  at_child_plain kind.ExportDefaultDeclaration i = either (is kind.IdentifierReference child) 5 c exports h
  at_child_plain kind.ExportNamedDeclaration i = go r
    where
      go : (s : Role) → IsPlainCursor (at_child kind.ExportNamedDeclaration parent ambient s child c)
      go role.Specifiers = exported_plain parent child p.untyped q.untyped
      go _ = h
  at_child_plain kind.MethodDefinition i = go r
    where
      go : (s : Role) → IsPlainCursor (at_child kind.MethodDefinition parent ambient s child c)
      go role.Key = typed_plain parent ambient c p.concrete e h
      go _ = h
  at_child_plain kind.PropertyDefinition i = go r
    where
      go : (s : Role) → IsPlainCursor (at_child kind.PropertyDefinition parent ambient s child c)
      go role.Key = typed_plain parent ambient c p.concrete e h
      go _ = h
  at_child_plain kind.Class i = go r
    where
      go : (s : Role) → IsPlainCursor (at_child kind.Class parent ambient s child c)
      go role.Heritage = heritage_plain ambient c e h
      go _ = h
  at_child_plain kind.TSExportAssignment i = absurd cc
  at_child_plain kind.TSPropertySignature i = absurd cc
  at_child_plain kind.TSMethodSignature i = absurd cc
  at_child_plain kind.TSImportEqualsDeclaration i = absurd cc
  at_child_plain kind.TSQualifiedName i = absurd cc
  at_child_plain kind.TSInterfaceHeritage i = absurd cc
  at_child_plain kind.TSClassImplements i = absurd cc
  at_child_plain kind.TSTypeReference i = absurd cc
  at_child_plain _ i = h

  before_plain : IsPlainCursor (cursor_before parent ambient r child c)
  before_plain = written_plain parent.kind r child (at_child parent.kind parent ambient r child c) (at_child_plain parent.kind p.of_kind)

behind_plain : (k : AstType) (r : Role) (c d : ℕ) → is_ecmascript_kind k ≡ true → IsPlainCursor c → IsPlainCursor d → IsPlainCursor (cursor_behind k r c d)
behind_plain kind.ConditionalExpression r c d i h g = go r
  where
    go : (s : Role) → IsPlainCursor (cursor_behind kind.ConditionalExpression s c d)
    go role.Test = h
    go _ = g
behind_plain kind.MethodDefinition r c d i h g = go r
  where
    go : (s : Role) → IsPlainCursor (cursor_behind kind.MethodDefinition s c d)
    go role.Key = empty
    go _ = g
behind_plain kind.PropertyDefinition r c d i h g = go r
  where
    go : (s : Role) → IsPlainCursor (cursor_behind kind.PropertyDefinition s c d)
    go role.Key = empty
    go _ = g
behind_plain kind.Class r c d i h g = go r
  where
    go : (s : Role) → IsPlainCursor (cursor_behind kind.Class s c d)
    go role.Heritage = empty
    go _ = g
behind_plain kind.TSMethodSignature r c d i h g = absurd cc
behind_plain kind.TSImportEqualsDeclaration r c d i h g = absurd cc
behind_plain _ r c d i h g = g

entering_plain : (k : AstType) (c : ℕ) → is_ecmascript_kind k ≡ true → IsPlainCursor c → IsPlainCursor (on_entering k c)
entering_plain kind.ComputedMemberExpression c i h = targeted c h
entering_plain kind.StaticMemberExpression c i h = targeted c h
entering_plain kind.PrivateFieldExpression c i h = targeted c h
entering_plain kind.TSTypeQuery c i h = absurd cc
entering_plain _ c i h = h

leaving_plain : (k : AstType) (c : ℕ) → IsPlainCursor c → IsPlainCursor (on_leaving k c)
leaving_plain kind.IdentifierReference c h = empty
leaving_plain kind.TSTypeQuery c h = empty
leaving_plain kind.TSPropertySignature c h = empty
leaving_plain kind.ComputedMemberExpression c h = empty
leaving_plain kind.StaticMemberExpression c h = empty
leaving_plain kind.PrivateFieldExpression c h = empty
leaving_plain _ c h = h

-- ---- the nodes

-- code inside a node without `declare` is ambient where it is around it
inside_plain : (node : Node) (around : Bool) → IsPlainNode node → around ≡ false → ambient_inside node around ≡ false
inside_plain node around p e = rw (e, p.defined) refl

round_plain : (node : Node) (around : Bool) (r : Role) → IsPlainNode node → around ≡ false → ambient_round node around r ≡ false
round_plain node around r p e = go (holds_kind (kind.Class ∷ kind.PropertyDefinition ∷ []) node.kind && same_role r role.Decorators)
  where
    go : (b : Bool) → cond b around (ambient_inside node around) ≡ false
    go true = e
    go false = inside_plain node around p e

-- the cursor behind the children of a node
after_plain : (parent : Node) (around : Bool) (c : ℕ) (f : Forest) → IsPlainNode parent → around ≡ false → is_ecmascript_forest f ≡ true → IsPlainCursor c → IsPlainCursor (cursor_after parent around c f)
after_plain parent around c nothing p e i h = h
after_plain parent around c (tree r k span text marks below id after) p e i h =
    let node : Node = record { kind = k; span = span; text = text; marks = marks; children = below; node_id = id } in
    let q : IsPlainNode node = plain_node r node below after i in
    let fs : (is_ecmascript_forest below ≡ true) × (is_ecmascript_forest after ≡ true) = forests_plain _ below after i in
    let before : IsPlainCursor (cursor_before parent (ambient_inside parent around) r node c) = before_plain parent (ambient_inside parent around) r node c h p q (inside_plain parent around p e) in
    let entered : IsPlainCursor (on_entering k (cursor_before parent (ambient_inside parent around) r node c)) = entering_plain k (cursor_before parent (ambient_inside parent around) r node c) q.of_kind before in
    let inner : IsPlainCursor (cursor_after node (ambient_round parent around r) (on_entering k (cursor_before parent (ambient_inside parent around) r node c)) below) =
    after_plain node (ambient_round parent around r) (on_entering k (cursor_before parent (ambient_inside parent around) r node c)) below q (round_plain parent around r p e) fs.0 entered in
    after_plain parent around (cursor_behind parent.kind r c (on_leaving k (cursor_after node (ambient_round parent around r) (on_entering k (cursor_before parent (ambient_inside parent around) r node c)) below))) after p e fs.1
    (behind_plain parent.kind r c (on_leaving k (cursor_after node (ambient_round parent around r) (on_entering k (cursor_before parent (ambient_inside parent around) r node c)) below)) p.of_kind h (leaving_plain k _ inner))

-- ---- the steps

abbrev pub IsPlainAt : Step → Type 0
IsPlainAt (entering p) = IsPlainCursor p.cursor
IsPlainAt (opening p s) = Unit {0}
IsPlainAt (header_ending p s) = Unit {0}
IsPlainAt (closing p s) = Unit {0}
IsPlainAt (leaving p) = Unit {0}

plain_steps : (p : Place) (own : Option OpenScope) (n c : ℕ) (f : Forest) → IsPlainNode p.node → p.is_ambient ≡ false → is_ecmascript_forest f ≡ true → IsPlainCursor c → EachStep IsPlainAt (steps_below p own n c f)
plain_steps p own n c nothing q e i h = last_case (EachStep IsPlainAt) p own n tt (tt, (tt, tt))
plain_steps p own n c (tree r k span text marks below id after) q e i h =
    let node : Node = record { kind = k; span = span; text = text; marks = marks; children = below; node_id = id } in
    let turn : Turn = turn_at p own n c r node after in
    let one : IsPlainNode node = plain_node r node below after i in
    let fs : (is_ecmascript_forest below ≡ true) × (is_ecmascript_forest after ≡ true) = forests_plain _ below after i in
    let before : IsPlainCursor turn.child.cursor = before_plain p.node (ambient_inside p.node p.is_ambient) r node c h q one (inside_plain p.node p.is_ambient q e) in
    let around : turn.child.is_ambient ≡ false = round_plain p.node p.is_ambient r q e in
    let inner : IsPlainCursor turn.inner = entering_plain k turn.child.cursor one.of_kind before in
    let past : IsPlainCursor turn.past = behind_plain p.node.kind r c _ q.of_kind h (leaving_plain k _ (after_plain node turn.child.is_ambient turn.inner below one around fs.0 inner)) in
    each_of_turn IsPlainAt turn (record {
      before = opening_case (EachStep IsPlainAt) p r own n tt (tt, tt);
      whole = each_of_node IsPlainAt turn.child turn.below before (plain_steps turn.child None turn.next turn.inner below one around fs.0 inner) tt;
      behind = ending_case (EachStep IsPlainAt) p r turn.scope after tt (λ s. (tt, tt)) (λ s. (tt, tt)) (λ s. (tt, (tt, tt)));
      others = plain_steps p turn.scope turn.rest turn.past after q e fs.1 past;
    })

-- ---- the root

not_typescript : (s : SourceType) → is_typescript s ≡ false → is_typescript_definition s ≡ false
not_typescript s h = go s.lang h
  where
    go : (l : Lang) → is_typescript_language l ≡ false → is_definition_language l ≡ false
    go lang.Dts e = absurd cc
    go _ e = refl

pub plain_program : (p : Tree) → first_fault p ≡ None → p.root.kind ≡ kind.Program → is_ecmascript p ≡ true → EachStep IsPlainAt (steps p)
plain_program p h k e =
    let root : Place = root_place p in
    let n : ℕ = on_entering p.root.kind 0 in
    let one : IsPlainNode p.root = plain_root p h k in
    let around : root.is_ambient ≡ false = not_typescript p.source_type (not-true (is_typescript p.source_type) (and_first (not (is_typescript p.source_type)) (is_ecmascript_forest p.root.children) e)) in
    each_of_node IsPlainAt root (steps_below root None 0 n p.root.children) empty
    (plain_steps root None 0 n p.root.children one around (and_second (not (is_typescript p.source_type)) (is_ecmascript_forest p.root.children) e) (entering_plain p.root.kind 0 one.of_kind empty)) tt
