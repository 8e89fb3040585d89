-- The nodes of a program of ECMAScript have none of the marks of TypeScript.
use Rattle.std.proofs.Common.{◌≡◌, ℕ, ◌≤◌, ◌==◌, [], Option, None, Bool, true, false, ◌&&◌, ◌||◌, not, refl, sym, ap, subst, ◌∙◌, bit_and, bit_or, arith}
use lib.Bits.{and_comm, and_zero_r}
use Rattle.std.proofs.lemmas.Bool.{eqb-true}
use Rattle.std.proofs.lemmas.Nat.{le_or_l}
use Rattle.semantic_kinds.specs.Allowed.{allowed_marks}
use Rattle.semantic_kinds.specs.MarkSets.{has_mark, is_within, set_of}
use Rattle.semantic_kinds.specs.Marks.{mark_bit}
use Rattle.semantic_kinds.specs.Parts.{parts}
use Rattle.semantic_kinds.specs.Roles.{same_role}
use Rattle.semantic_kinds.specs.Texts.{may_have_text}
use Rattle.semantic_kinds.specs.declared.kind.AstType.TheVariants as kind
use Rattle.semantic_kinds.specs.declared.mark.Mark.{Mark}
use Rattle.semantic_kinds.specs.declared.mark.Mark.TheVariants as mark
use Rattle.semantic_kinds.specs.declared.marks.Marks.{Marks}
use Rattle.semantic_kinds.specs.declared.role.Role.{Role}
use Rattle.semantic_kinds.specs.declared.role.Role.TheVariants as role
use Rattle.semantic_syntax.proofs.Truth.{and_first, and_second}
use Rattle.semantic_syntax.specs.SourceTypes.{is_typescript}
use Rattle.semantic_syntax.specs.declared.symbol_flags.TheConstants.SymbolFlags as symbol
use Rattle.semantic_tree.specs.Faults.{first_fault}
use Rattle.semantic_tree.specs.Fit.{fit}
use Rattle.semantic_tree.specs.Forest.{Forest, nothing, tree}
use Rattle.semantic_tree.specs.Nodes.{trees}
use Rattle.semantic_tree.specs.Place as tree_place
use Rattle.semantic_tree.specs.Rules.{keeps_table, is_well_formed}
use Rattle.semantic_tree.specs.Tree.{Tree}
use Rattle.semantic_tree.specs.Views.{has}
use Rattle.semantic_tree.specs.declared.node.Node.{Node}
use Rattle.semantic_model.specs.Binder.{import_flags}
use Rattle.semantic_model.specs.Cursor.{on_entering}
use Rattle.semantic_model.specs.EachStep.{EachStep}
use Rattle.semantic_model.specs.Place.{Place, OpenScope, parent_holds}
use Rattle.semantic_model.specs.Step.{Step, entering, opening, header_ending, closing, leaving, steps_below, steps, root_place}
use Rattle.semantic_model.proofs.form.Shape.{NoneMisshapen, first_formed, table_kept, none_misshapen}
use Rattle.semantic_model.proofs.steps.EachStep.{each_of_node, each_of_turn}
use Rattle.semantic_model.proofs.steps.Turn.{Turn, turn_at}
use Rattle.semantic_model.proofs.steps.TurnCases.{opening_case, ending_case, last_case}
use Rattle.language_ties.specs.EcmaScript.{is_ecmascript_kind, has_foreign_mark, is_foreign_text, is_ecmascript_forest, is_ecmascript}

-- a node without marks and of no kind of TypeScript
pub record IsPlainNode (node : Node) : Type 0 where
  pub of_kind : is_ecmascript_kind node.kind ≡ true
  pub untyped : has mark.TypeOnly node ≡ false
  pub concrete : has mark.Abstract node ≡ false
  pub defined : has mark.Declare node ≡ false

marks_absent : (marks : Marks) (a b c : Bool) → has_mark marks mark.Declare ≡ a → has_mark marks mark.Abstract ≡ b → has_mark marks mark.TypeOnly ≡ c → not (a || (b || (c || false))) ≡ true → (a ≡ false) × (b ≡ false) × (c ≡ false)
marks_absent marks true b c h k l e = absurd cc
marks_absent marks false true c h k l e = absurd cc
marks_absent marks false false true h k l e = absurd cc
marks_absent marks false false false h k l e = (refl, refl, refl)

pub plain_node : (r : Role) (node : Node) (below after : Forest) → ((is_ecmascript_kind node.kind && not (same_role r role.Decorators)) && (not (has_foreign_mark node.marks) && not (is_foreign_text node.text)) && (is_ecmascript_forest below && is_ecmascript_forest after)) ≡ true → IsPlainNode node
plain_node r node below after e =
    let first : ((is_ecmascript_kind node.kind && not (same_role r role.Decorators)) && (not (has_foreign_mark node.marks) && not (is_foreign_text node.text))) ≡ true = and_first _ (is_ecmascript_forest below && is_ecmascript_forest after) e in
    let marks : not (has_foreign_mark node.marks) ≡ true = and_first (not (has_foreign_mark node.marks)) (not (is_foreign_text node.text)) (and_second (is_ecmascript_kind node.kind && not (same_role r role.Decorators)) (not (has_foreign_mark node.marks) && not (is_foreign_text node.text)) first) in
    let none : (has_mark node.marks mark.Declare ≡ false) × (has_mark node.marks mark.Abstract ≡ false) × (has_mark node.marks mark.TypeOnly ≡ false) =
    marks_absent node.marks (has_mark node.marks mark.Declare) (has_mark node.marks mark.Abstract) (has_mark node.marks mark.TypeOnly) refl refl refl marks in
    record {
      of_kind = and_first (is_ecmascript_kind node.kind) (not (same_role r role.Decorators)) (and_first _ (not (has_foreign_mark node.marks) && not (is_foreign_text node.text)) first);
      untyped = none.2;
      concrete = none.1;
      defined = none.0;
    }

pub forests_plain : (a : Bool) (below after : Forest) → (a && (is_ecmascript_forest below && is_ecmascript_forest after)) ≡ true → (is_ecmascript_forest below ≡ true) × (is_ecmascript_forest after ≡ true)
forests_plain a below after e =
    let two : (is_ecmascript_forest below && is_ecmascript_forest after) ≡ true = and_second a (is_ecmascript_forest below && is_ecmascript_forest after) e in
    (and_first (is_ecmascript_forest below) (is_ecmascript_forest after) two, and_second (is_ecmascript_forest below) (is_ecmascript_forest after) two)

-- a root has no marks
marks_none : (marks : Marks) → is_within marks (set_of []) ≡ true → marks.bits ≡ 0
marks_none marks h = let e : bit_or marks.bits 0 ≡ 0 = eqb-true (bit_or marks.bits 0) 0 h in let w : marks.bits ≤ bit_or marks.bits 0 = le_or_l marks.bits 0 in omega (arith, e, w)

root_marks : (p : Tree) → first_fault p ≡ None → p.root.kind ≡ kind.Program → p.root.marks.bits ≡ 0
root_marks p h k =
    let f : (is_well_formed tree_place.root_place p.root ≡ true) × NoneMisshapen (tree_place.placed_below tree_place.root_place p.root.kind p.root.children) = first_formed (tree_place.root_place, p.root) (tree_place.placed_below tree_place.root_place p.root.kind p.root.children) (none_misshapen p h) in
    let t : keeps_table p.root ≡ true = table_kept tree_place.root_place p.root f.0 in
    let m : is_within p.root.marks (set_of (allowed_marks p.root.kind)) ≡ true = and_second (may_have_text p.root.kind p.root.text) (is_within p.root.marks (set_of (allowed_marks p.root.kind))) (and_first (may_have_text p.root.kind p.root.text && is_within p.root.marks (set_of (allowed_marks p.root.kind))) (fit (parts p.root.kind) (trees p.root.children)) t) in
    marks_none p.root.marks (subst (λ i. is_within p.root.marks (set_of (allowed_marks i)) ≡ true) k m)

no_mark : (marks : Marks) (m : Mark) → marks.bits ≡ 0 → has_mark marks m ≡ false
no_mark marks m e = ap (λ b. not (bit_and b (mark_bit m) == 0)) e ∙ ap (λ n. not (n == 0)) (and_comm 0 (mark_bit m) ∙ and_zero_r (mark_bit m))

pub plain_root : (p : Tree) → first_fault p ≡ None → p.root.kind ≡ kind.Program → IsPlainNode p.root
plain_root p h k =
    let z : p.root.marks.bits ≡ 0 = root_marks p h k in
    record { of_kind = subst (λ i. is_ecmascript_kind i ≡ true) (sym k) refl; untyped = no_mark p.root.marks mark.TypeOnly z; concrete = no_mark p.root.marks mark.Abstract z; defined = no_mark p.root.marks mark.Declare z }

-- ---- the steps

-- the node is of ECMAScript, and so is the one above it
pub record IsPlainPlace (p : Place) : Type 0 where
  pub node : IsPlainNode p.node
  pub parent : parent_holds (has mark.TypeOnly) p.path ≡ false

abbrev pub IsEcmaScriptAt : Step → Type 0
IsEcmaScriptAt (entering p) = IsPlainPlace p
IsEcmaScriptAt (opening p o) = IsPlainPlace p
IsEcmaScriptAt (header_ending p o) = Unit {0}
IsEcmaScriptAt (closing p o) = Unit {0}
IsEcmaScriptAt (leaving p) = Unit {0}

-- what is imported there is a value
pub imports_values : (p : Place) → IsPlainPlace p → import_flags p ≡ symbol.Import.bits
imports_values p h = rw (h.node.untyped, h.parent) refl

ecmascript_steps : (p : Place) (own : Option OpenScope) (n cursor : ℕ) (f : Forest) → IsPlainPlace p → is_ecmascript_forest f ≡ true → EachStep IsEcmaScriptAt (steps_below p own n cursor f)
ecmascript_steps p own n cursor nothing k e = last_case (EachStep IsEcmaScriptAt) p own n tt (k, (tt, tt))
ecmascript_steps p own n cursor (tree r k2 span text marks below id after) k e =
    let node : Node = record { kind = k2; span = span; text = text; marks = marks; children = below; node_id = id } in
    let turn : Turn = turn_at p own n cursor r node after in
    let forests : (is_ecmascript_forest below ≡ true) × (is_ecmascript_forest after ≡ true) = forests_plain _ below after e in
    let child : IsPlainPlace turn.child = record { node = plain_node r node below after e; parent = k.node.untyped } in
    each_of_turn IsEcmaScriptAt turn (record {
      before = opening_case (EachStep IsEcmaScriptAt) p r own n tt (k, tt);
      whole = each_of_node IsEcmaScriptAt turn.child turn.below child (ecmascript_steps turn.child None turn.next turn.inner below child forests.0) tt;
      behind = ending_case (EachStep IsEcmaScriptAt) p r turn.scope after tt (λ s. (tt, tt)) (λ s. (tt, tt)) (λ s. (tt, (tt, tt)));
      others = ecmascript_steps p turn.scope turn.rest turn.past after k forests.1;
    })

pub ecmascript_program : (p : Tree) → first_fault p ≡ None → p.root.kind ≡ kind.Program → is_ecmascript p ≡ true → EachStep IsEcmaScriptAt (steps p)
ecmascript_program p h k e =
    let root : Place = root_place p in
    let n : ℕ = on_entering p.root.kind 0 in
    let one : IsPlainPlace root = record { node = plain_root p h k; parent = refl } in
    each_of_node IsEcmaScriptAt root (steps_below root None 0 n p.root.children) one (ecmascript_steps root None 0 n p.root.children one (and_second (not (is_typescript p.source_type)) (is_ecmascript_forest p.root.children) e)) tt
