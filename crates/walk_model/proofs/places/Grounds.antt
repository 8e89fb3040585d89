-- Each place below the root stands in some function's scope, or the like.
use Rattle.std.proofs.Common.{◌≡◌, ℕ, List, [], ◌∷◌, Option, Some, None, Bool, true, false, cond, ◌&&◌, ◌||◌, not, ◌⊎◌, inl, inr, refl, sym, subst, ◌∙◌}
use Rattle.std.proofs.lemmas.Bool.{cases_Bool}
use Rattle.semantic_tree.specs.Forest.{Forest, nothing, tree}
use Rattle.semantic_tree.specs.Tree.{Tree}
use Rattle.semantic_tree.specs.Faults.{first_fault}
use Rattle.semantic_tree.specs.declared.node.Node.{Node}
use Rattle.semantic_kinds.specs.Kinds.{same_kind}
use Rattle.semantic_kinds.specs.Classes.{is_of}
use Rattle.semantic_kinds.specs.Parts.{parts}
use Rattle.semantic_kinds.specs.declared.kind.AstType.{AstType}
use Rattle.semantic_kinds.specs.declared.kind.AstType.TheVariants as kind
use Rattle.semantic_kinds.specs.declared.role.Role.{Role}
use Rattle.semantic_kinds.specs.declared.part.Part.{Part}
use Rattle.semantic_kinds.specs.declared.class.Class.TheVariants as class
use Rattle.semantic_syntax.specs.declared.scope_flags.TheConstants.ScopeFlags as scope
use Rattle.semantic_syntax.specs.Sets.{meets, union}
use Rattle.semantic_syntax.specs.SourceTypes.{is_module}
use Rattle.semantic_syntax.proofs.Truth.{and_first, and_second}
use Rattle.semantic_tree.specs.Views.{has_use_strict}
use Rattle.semantic_model.specs.Place.{Place, OpenScope, outside, is_strict}
use Rattle.semantic_model.specs.Inside.{is_inside, is_in_header}
use Rattle.semantic_model.specs.ScopeKind.{opened_scope, strict_if}
use Rattle.semantic_model.specs.Cursor.{on_entering}
use Rattle.semantic_model.specs.Binder.{is_var}
use Rattle.semantic_model.specs.Step.{steps_below, steps, opening_at, ending_after, opening_last, scope_at, child_place, child_scopes, root_place}
use Rattle.semantic_model.proofs.steps.Turn.{Turn, turn_at}
use Rattle.semantic_model.proofs.steps.EachStep.{each_of_node, each_of_turn}
use Rattle.semantic_model.proofs.form.Clauses.{kind_is}
use Rattle.semantic_model.proofs.form.ParameterShape.{stands_under, parameters_stand}
use Rattle.semantic_model.proofs.form.ParameterChains.{holds_parameters, is_open_inside, child_within, child_outer}
use Rattle.semantic_model.proofs.fold.Orders.{HasForm}
use Rattle.semantic_model.proofs.form.Shape.{has_form}
use Rattle.semantic_model.proofs.steps.TurnCases.{opening_case, ending_case, last_case}
use Rattle.walk_model.proofs.places.Routes.{HasVar}
use Rattle.walk_model.proofs.places.Shapes.{HoldParts, holds_below, tree_holds}
pub use Rattle.walk_model.specs.Shown.{IsGrounded}
pub use Rattle.walk_model.specs.Seated.{IsStepGrounded, AllGrounded}

-- a list of parameters doesn't stand in a program itself
abbrev pub not_in_program : AstType → Role → AstType → List ℕ → Bool
not_in_program k r k2 text = not (same_kind k kind.Program && same_kind k2 kind.FormalParameters)

not_one : (b : Bool) → not (b && false) ≡ true
not_one true = refl
not_one false = refl

program_part : (class_holds : Bool) (k2 : AstType) → class_holds ≡ false → class_holds ≡ true → not (same_kind k2 kind.FormalParameters) ≡ true
program_part b k2 e h = let q : false ≡ true = sym e ∙ h in absurd cc

is_not_list : (k2 : AstType) (b : AstType → Bool) → b kind.FormalParameters ≡ false → b k2 ≡ true → not (same_kind k2 kind.FormalParameters) ≡ true
is_not_list k2 b e h = elim (cases_Bool (same_kind k2 kind.FormalParameters)) [
  | inl q ↦ (let w : b kind.FormalParameters ≡ true = subst (λ k. b k ≡ true) (kind_is k2 kind.FormalParameters q) h in let v : false ≡ true = sym e ∙ w in absurd cc)
  | inr q ↦ rw q refl
]

any_part : (k : AstType) → same_kind k kind.Program ≡ false → (ps : List Part) → HoldParts not_in_program k ps
any_part k e [] = tt
any_part k e (p ∷ ps) = (λ k2 text h. rw e refl, any_part k e ps)

program_parts : (k : AstType) → HoldParts not_in_program k (parts k)
program_parts k = elim (cases_Bool (same_kind k kind.Program)) [
  | inl q ↦ subst (λ m. HoldParts not_in_program m (parts m)) (sym (kind_is k kind.Program q)) root_parts
  | inr q ↦ any_part k q (parts k)
]
  where
    root_parts : HoldParts not_in_program kind.Program (parts kind.Program)
    root_parts = (
      λ k2 text h. is_not_list k2 (λ m. is_of (class.Only kind.Hashbang) m text) refl h,
      (λ k2 text h. is_not_list k2 (λ m. is_of (class.Only kind.Directive) m text) refl h, (λ k2 text h. is_not_list k2 (λ m. is_of class.Statement m text) refl h, tt)),
    )

opening_grounded : (p : Place) (r : Role) (own : Option OpenScope) (n : ℕ) → IsGrounded p → AllGrounded (opening_at p r own n)
opening_grounded p r own n g = opening_case AllGrounded p r own n tt (g, tt)

last_grounded : (p : Place) (own : Option OpenScope) (n : ℕ) → IsGrounded p → AllGrounded (opening_last p own n)
last_grounded p own n g = last_case AllGrounded p own n tt (g, (tt, tt))

ending_grounded : (p : Place) (r : Role) (own : Option OpenScope) (after : Forest) → AllGrounded (ending_after p r own after)
ending_grounded p r own after = ending_case AllGrounded p r own after tt (λ s. (tt, tt)) (λ s. (tt, tt)) (λ s. (tt, (tt, tt)))

-- the root's scope counts
root_is_var : (p : Place) (n : ℕ) → p.node.kind ≡ kind.Program → is_var (opened_scope p n) ≡ true
root_is_var p n e = rw e (go (is_module p.source_type || has_use_strict p.node) (is_strict p.chain))
  where
    go : (a b : Bool) → meets (union (union scope.Top.bits (strict_if a)) (strict_if b)) scope.Var.bits ≡ true
    go true true = refl
    go true false = refl
    go false true = refl
    go false false = refl

abbrev OwnVar : Place → Option OpenScope → Type 0
OwnVar p None = Unit {0}
OwnVar p (Some s) = p.node.kind ≡ kind.Program → is_var s ≡ true

own_var : (p : Place) (r : Role) (own : Option OpenScope) (n : ℕ) → OwnVar p own → OwnVar p (scope_at p r own n)
own_var p r (Some s) n h = h
own_var p r None n h = go (is_inside p.node.kind r)
  where
    go : (b : Bool) → OwnVar p (cond b (Some (opened_scope p n)) None)
    go true = λ e. root_is_var p n e
    go false = tt

deeper_var : (s : OpenScope) (chain : List OpenScope) → HasVar chain ⊎ (is_var s ≡ true) → HasVar (s ∷ chain)
deeper_var s chain h = go (is_var s) refl h
  where
    go : (b : Bool) → is_var s ≡ b → HasVar chain ⊎ (is_var s ≡ true) → HasVar (s ∷ chain)
    go true e k = λ q. (let w : Some s ≡ None = rw e at q in absurd cc)
    go false e (inl k) = λ q. k (rw e at q)
    go false e (inr k) = let w : true ≡ false = sym k ∙ e in absurd cc

all_inside : (k : AstType) (r : Role) → k ≡ kind.Program → is_inside k r ≡ true
all_inside k r e = rw e refl

within_var : (p : Place) (r : Role) (scope : Option OpenScope) → IsGrounded p → OwnVar p scope → (is_inside p.node.kind r ≡ true → scope ≡ None → ⊥) → HasVar (child_scopes p r scope)
within_var p r None (inl g) o i = g
within_var p r None (inr e) o i = absurd (i (all_inside p.node.kind r e) refl)
within_var p r (Some s) g o i = go (is_inside p.node.kind r) refl g
  where
    go : (b : Bool) → is_inside p.node.kind r ≡ b → IsGrounded p → HasVar (cond b (record s { in_header = is_in_header p.node.kind r } ∷ p.chain) p.chain)
    go true e (inl g) = deeper_var (record s { in_header = is_in_header p.node.kind r }) p.chain (inl g)
    go true e (inr g) = deeper_var (record s { in_header = is_in_header p.node.kind r }) p.chain (inr (o g))
    go false e (inl g) = g
    go false e (inr g) = let w : true ≡ false = sym (all_inside p.node.kind r g) ∙ e in absurd cc

child_var : (p : Place) (scope : Option OpenScope) (cursor : ℕ) (r : Role) (node : Node) → IsGrounded p → OwnVar p scope → (is_inside p.node.kind r ≡ true → scope ≡ None → ⊥) → (holds_parameters p.node.kind ≡ true → HasVar (outside p.chain)) → HasVar (child_place p scope cursor r node).chain
child_var p scope cursor r node g o i outer = child_within HasVar p scope cursor r node outer (within_var p r scope g o i)

child_outer_var : (p : Place) (scope : Option OpenScope) (cursor : ℕ) (r : Role) (node : Node) → IsGrounded p → (is_inside p.node.kind r ≡ true → scope ≡ None → ⊥) → (holds_parameters p.node.kind ≡ true → HasVar (outside p.chain))
    → stands_under p.node.kind r node.kind ≡ true → not_in_program p.node.kind r node.kind node.text ≡ true → holds_parameters node.kind ≡ true → HasVar (outside (child_place p scope cursor r node).chain)
child_outer_var p scope cursor r node g i outer s t h = child_outer HasVar p scope cursor r node i (λ e block. chain_var e g) outer s h
  where
    chain_var : same_kind node.kind kind.FormalParameters ≡ true → IsGrounded p → HasVar p.chain
    chain_var e (inl v) = v
    chain_var e (inr q) = let w : false ≡ true = rw (q, e) at t in absurd cc

-- what is left of a place
grounded_below : (p : Place) (own : Option OpenScope) (n cursor : ℕ) (f : Forest) → IsGrounded p → OwnVar p own → (holds_parameters p.node.kind ≡ true → HasVar (outside p.chain)) → parameters_stand p.node.kind f ≡ true → holds_below not_in_program p.node.kind f ≡ true → AllGrounded (steps_below p own n cursor f)
grounded_below p own n cursor nothing g o outer s t = last_grounded p own n g
grounded_below p own n cursor (tree r k span text marks below id after) g o outer s t =
    let node : Node = record { kind = k; span = span; text = text; marks = marks; children = below; node_id = id } in
    let turn : Turn = turn_at p own n cursor r node after in
    let o_scope : OwnVar p turn.scope = own_var p r own n o in
    let i : is_inside p.node.kind r ≡ true → turn.scope ≡ None → ⊥ = is_open_inside p r own n in
    let s_here : stands_under p.node.kind r k ≡ true = and_first (stands_under p.node.kind r k) _ s in
    let s_rest : (parameters_stand k below && parameters_stand p.node.kind after) ≡ true = and_second (stands_under p.node.kind r k) _ s in
    let t_here : not_in_program p.node.kind r k text ≡ true = and_first (not_in_program p.node.kind r k text) _ t in
    let t_rest : (holds_below not_in_program k below && holds_below not_in_program p.node.kind after) ≡ true = and_second (not_in_program p.node.kind r k text) _ t in
    let v : HasVar turn.child.chain = child_var p turn.scope cursor r node g o_scope i outer in
    each_of_turn IsStepGrounded turn (record {
      before = opening_grounded p r own n g;
      whole = each_of_node IsStepGrounded turn.child turn.below (inl v)
          (grounded_below turn.child None turn.next turn.inner below (inl v) tt (child_outer_var p turn.scope cursor r node g i outer s_here t_here) (and_first (parameters_stand k below) _ s_rest) (and_first (holds_below not_in_program k below) _ t_rest))
          tt;
      behind = ending_grounded p r turn.scope after;
      others = grounded_below p turn.scope turn.rest turn.past after g o_scope outer (and_second (parameters_stand k below) _ s_rest) (and_second (holds_below not_in_program k below) _ t_rest);
    })

root_holds_none : (p : Tree) → p.root.kind ≡ kind.Program → holds_parameters p.root.kind ≡ true → HasVar (outside (root_place p).chain)
root_holds_none p e h = let q : false ≡ true = rw e at h in absurd cc

-- so it is in a program
pub all_grounded : (p : Tree) → first_fault p ≡ None → AllGrounded (steps p)
all_grounded p h =
    let form : HasForm p = has_form p h in
    each_of_node IsStepGrounded (root_place p) (steps_below (root_place p) None 0 (on_entering p.root.kind 0) p.root.children) (inr form.root)
    (grounded_below (root_place p) None 0 (on_entering p.root.kind 0) p.root.children (inr form.root) tt (root_holds_none p form.root) form.parameters (tree_holds not_in_program program_parts p h)) tt
