-- What is known of each place of a program without a fault.
use Rattle.std.proofs.Common.{◌≡◌, ℕ, List, [], Option, None, Bool, true, false, ◌&&◌, ◌||◌, not, refl, subst, inl, inr}
use Rattle.std.specs.List.{list_all}
use Rattle.std.proofs.lemmas.Bool.{cases_Bool, not-true}
use Rattle.semantic_syntax.proofs.Truth.{and_first, and_second, and_false}
use Rattle.semantic_kinds.specs.Classes.{is_of}
use Rattle.semantic_kinds.specs.Kinds.{same_kind}
use Rattle.semantic_kinds.specs.Parts.{parts}
use Rattle.semantic_kinds.specs.declared.part.Part.{Part}
use Rattle.semantic_kinds.specs.declared.kind.AstType.{AstType}
use Rattle.semantic_kinds.specs.declared.kind.AstType.TheVariants as kind
use Rattle.semantic_kinds.specs.declared.role.Role.{Role}
use Rattle.semantic_tree.specs.Faults.{first_fault}
use Rattle.semantic_tree.specs.Forest.{Forest, nothing, tree}
use Rattle.semantic_tree.specs.Tree.{Tree}
use Rattle.semantic_tree.specs.Views.{is}
use Rattle.semantic_tree.specs.declared.node.Node.{Node}
use Rattle.semantic_model.specs.Cursor.{on_entering}
use Rattle.semantic_model.specs.EachStep.{EachStep}
use Rattle.semantic_model.specs.Place.{Place, OpenScope, parent_holds}
use Rattle.semantic_model.specs.Step.{Step, entering, opening, header_ending, closing, leaving, steps, steps_below, root_place}
use Rattle.semantic_model.proofs.form.Clauses.{kind_is}
use Rattle.semantic_model.proofs.form.PartsHold.{passed_hold}
use Rattle.semantic_model.proofs.form.Shape.{has_form}
use Rattle.semantic_model.proofs.steps.EachStep.{each_of_node, each_of_turn}
use Rattle.semantic_model.proofs.steps.Turn.{Turn, turn_at}
use Rattle.semantic_model.proofs.steps.TurnCases.{opening_case, ending_case, last_case}
use Rattle.walk_model.proofs.places.Shapes.{holds_below, tree_holds}
use Rattle.binding_laws.proofs.SmallLaws.{not_empty}

-- a rest element directly in a list of parameters
abbrev pub is_bare_rest : Node → List Node → Bool
is_bare_rest x path = is kind.BindingRestElement x && parent_holds (is kind.FormalParameters) path

-- no child of a list of parameters is one
abbrev pub no_rest : AstType → Role → AstType → List ℕ → Bool
no_rest k r k2 text = not (same_kind k2 kind.BindingRestElement && same_kind k kind.FormalParameters)

rest_part : AstType → List ℕ → Part → Bool
rest_part k text part = not (is_of part.class kind.BindingRestElement text) || not (same_kind k kind.FormalParameters)

all_parts : (k : AstType) (text : List ℕ) → list_all (rest_part k text) (parts k) ≡ true
unfolding rest_part
all_parts kind.Program text = refl
all_parts _ text = refl

not_or : (a b : Bool) → (not a || not b) ≡ true → a ≡ true → not b ≡ true
not_or true b h e = h
not_or false b h e = absurd cc

part_has_none : (k : AstType) (part : Part) (k2 : AstType) (text : List ℕ) → rest_part k text part ≡ true → is_of part.class k2 text ≡ true → no_rest k part.role k2 text ≡ true
unfolding rest_part
part_has_none k part k2 text h i = elim (cases_Bool (same_kind k2 kind.BindingRestElement)) [
  | inl e ↦ rw e (not_or (is_of part.class kind.BindingRestElement text) (same_kind k kind.FormalParameters) h (subst (λ q. is_of part.class q text ≡ true) (kind_is k2 kind.BindingRestElement e) i))
  | inr e ↦ rw e refl
]

tree_has_none : (p : Tree) → first_fault p ≡ None → holds_below no_rest p.root.kind p.root.children ≡ true
tree_has_none p h = tree_holds no_rest (λ k. passed_hold no_rest (rest_part k) k (part_has_none k) (parts k) (all_parts k)) p h

-- what is known of a place
pub record IsKnownPlace (p : Place) : Type 0 where
  pub rooted : p.path ≡ [] → p.node.kind ≡ kind.Program
  pub whole : is_bare_rest p.node p.path ≡ false

abbrev pub KnownStep : Step → Type 0
KnownStep (entering p) = IsKnownPlace p
KnownStep (opening p s) = Unit {0}
KnownStep (header_ending p s) = Unit {0}
KnownStep (closing p s) = Unit {0}
KnownStep (leaving p) = Unit {0}

known_below : (p : Place) (own : Option OpenScope) (n cursor : ℕ) (f : Forest) → holds_below no_rest p.node.kind f ≡ true → EachStep KnownStep (steps_below p own n cursor f)
known_below p own n cursor nothing h = last_case (EachStep KnownStep) p own n tt (tt, (tt, tt))
known_below p own n cursor (tree r k2 span text marks below id after) h =
    let node : Node = record { kind = k2; span = span; text = text; marks = marks; children = below; node_id = id } in
    let turn : Turn = turn_at p own n cursor r node after in
    let here : no_rest p.node.kind r k2 text ≡ true = and_first (no_rest p.node.kind r k2 text) (holds_below no_rest k2 below && holds_below no_rest p.node.kind after) h in
    let rest : (holds_below no_rest k2 below && holds_below no_rest p.node.kind after) ≡ true = and_second (no_rest p.node.kind r k2 text) (holds_below no_rest k2 below && holds_below no_rest p.node.kind after) h in
    let child : IsKnownPlace turn.child = record { rooted = λ q. absurd (not_empty p.node p.path q); whole = not-true (same_kind k2 kind.BindingRestElement && same_kind p.node.kind kind.FormalParameters) here } in
    each_of_turn KnownStep turn (record {
      before = opening_case (EachStep KnownStep) p r own n tt (tt, tt);
      whole = each_of_node KnownStep turn.child turn.below child (known_below turn.child None turn.next turn.inner below (and_first (holds_below no_rest k2 below) (holds_below no_rest p.node.kind after) rest)) tt;
      behind = ending_case (EachStep KnownStep) p r turn.scope after tt (λ s. (tt, tt)) (λ s. (tt, tt)) (λ s. (tt, (tt, tt)));
      others = known_below p turn.scope turn.rest turn.past after (and_second (holds_below no_rest k2 below) (holds_below no_rest p.node.kind after) rest);
    })

-- in a program without a fault
pub known_places : (p : Tree) → first_fault p ≡ None → EachStep KnownStep (steps p)
known_places p h =
    let root : Place = root_place p in
    let n : ℕ = on_entering p.root.kind 0 in
    each_of_node KnownStep root (steps_below root None 0 n p.root.children)
    (record { rooted = λ q. (has_form p h).root; whole = and_false (is kind.BindingRestElement p.root) })
    (known_below root None 0 n p.root.children (tree_has_none p h)) tt
