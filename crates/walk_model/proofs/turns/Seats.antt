-- Below the root each node stands in some scope, and none is a program: what a recursion over a program's tree carries along.
use Rattle.std.proofs.Common.{sym, ◌∙◌, ◌≡◌, ℕ, ◌+◌, List, [], ◌∷◌, Option, Some, None, Bool, true, false, cond, ◌&&◌, not, inl, inr, refl, subst}
use Rattle.std.specs.List.{list_all}
use Rattle.std.proofs.lemmas.Bool.{cases_Bool}
use Rattle.semantic_syntax.proofs.Truth.{and_first, and_second}
use Rattle.semantic_kinds.specs.Kinds.{same_kind}
use Rattle.semantic_kinds.specs.Classes.{is_of}
use Rattle.semantic_kinds.specs.Parts.{parts}
use Rattle.semantic_kinds.specs.declared.kind.AstType.{AstType}
use Rattle.semantic_kinds.specs.declared.kind.AstType.TheVariants as kind
use Rattle.semantic_kinds.specs.declared.role.Role.{Role}
use Rattle.semantic_kinds.specs.declared.part.Part.{Part}
use Rattle.semantic_tree.specs.Forest.{Forest, nothing, tree}
use Rattle.semantic_tree.specs.Children.{forest_of}
use Rattle.semantic_tree.specs.Tree.{Tree}
use Rattle.semantic_tree.specs.Faults.{first_fault}
use Rattle.semantic_tree.specs.declared.node.Node.{Node}
use Rattle.semantic_model.specs.Place.{Place, OpenScope, outside}
use Rattle.semantic_model.specs.Inside.{opens, is_parameter_decorator, scopes_in}
use Rattle.semantic_model.specs.Cursor.{on_entering}
use Rattle.semantic_model.specs.Step.{opening, leaving, steps_below, scope_at, next_at, child_place, child_scopes, cursor_past, root_place, steps}
use Rattle.semantic_model.proofs.steps.Turn.{Turn, turn_at}
use Rattle.semantic_model.proofs.steps.EachStep.{EachOfTurn, each_left, turn_of_each}
use Rattle.semantic_model.proofs.form.Clauses.{kind_is}
use Rattle.semantic_model.proofs.fold.Orders.{HasForm}
use Rattle.semantic_model.proofs.form.Shape.{has_form}
use Rattle.walk_model.proofs.places.Routes.{HasVar}
use Rattle.walk_model.proofs.places.Shapes.{HoldParts, holds_below, tree_holds}
use Rattle.walk_model.specs.Seated.{IsStepGrounded}
use Rattle.walk_model.proofs.places.Grounds.{IsGrounded, AllGrounded, all_grounded}
use Rattle.walk_model.proofs.turns.RootSteps.{root_scope}
pub use Rattle.walk_model.specs.Seated.{IsSeated, IsSeat}
use Rattle.walk_model.specs.Seated.{none_is_program}

abbrev pub no_program : AstType → Role → AstType → List ℕ → Bool
no_program k r k2 text = not (same_kind k2 kind.Program)

-- no part of a node may be a program
abbrev holds_none : List ℕ → Part → Bool
holds_none text part = not (is_of part.class kind.Program text)

none_of : (k : AstType) (text : List ℕ) → list_all (holds_none text) (parts k) ≡ true
none_of kind.Program text = refl
none_of _ text = refl

none_parts : (k : AstType) (ps : List Part) → ((text : List ℕ) → list_all (holds_none text) ps ≡ true) → HoldParts no_program k ps
none_parts k [] h = tt
none_parts k (p ∷ ps) h = (
  λ k2 text i. elim (cases_Bool (same_kind k2 kind.Program)) [
    | inl q ↦ (let none : not (is_of p.class kind.Program text) ≡ true = and_first (holds_none text p) (list_all (holds_none text) ps) (h text) in
        let one : is_of p.class kind.Program text ≡ true = subst (λ m. is_of p.class m text ≡ true) (kind_is k2 kind.Program q) i in
        let w : false ≡ true = subst (λ b. not b ≡ true) one none in
        absurd cc)
    | inr q ↦ rw q refl
  ],
  none_parts k ps (λ text. and_second (holds_none text p) (list_all (holds_none text) ps) (h text)),
)

-- it stands in some scope
pub stands_in_scope : (chain : List OpenScope) → HasVar chain → chain ≡ [] → ⊥
stands_in_scope chain h e = h (rw e refl)

-- so a parameter with a decorator stands in a scope within another
pub decorated_within : (p : Place) (own : Option OpenScope) (cursor : ℕ) (r : Role) (node : Node) → is_parameter_decorator p.node.kind r ≡ true → HasVar (child_place p own cursor r node).chain → outside p.chain ≡ [] → ⊥
decorated_within p own cursor r node d h = go (is_parameter_decorator p.node.kind r) d h
  where
    go : (b : Bool) → b ≡ true → HasVar (cond b (outside p.chain) (child_scopes p r own)) → outside p.chain ≡ [] → ⊥
    go true e k = stands_in_scope (outside p.chain) k
    go false e k = absurd cc

not_program : (k : AstType) → not (same_kind k kind.Program) ≡ true → k ≡ kind.Program → ⊥
not_program k h e = let w : false ≡ true = rw e at h in absurd cc

grounded_var : (p : Place) → (p.node.kind ≡ kind.Program → ⊥) → IsGrounded p → HasVar p.chain
grounded_var p f (inl v) = v
grounded_var p f (inr e) = absurd (f e)

-- the first of the children that are left, and the rest
pub record FirstSeated (p : Place) (own : Option OpenScope) (n cursor : ℕ) (child : Role × Node) (rest : List (Role × Node)) : Type 0 where
  pub here : IsSeat (child_place p (scope_at p child.0 own n) cursor child.0 child.1) (next_at p child.0 own n)
  pub later : IsSeated p (scope_at p child.0 own n) (next_at p child.0 own n + cond (opens child.1.kind) 1 0 + scopes_in child.1.children) (cursor_past p child.0 cursor (child_place p (scope_at p child.0 own n) cursor child.0 child.1)) (forest_of rest)

pub first_seated : (p : Place) (own : Option OpenScope) (n cursor : ℕ) (child : Role × Node) (rest : List (Role × Node)) → IsSeated p own n cursor (forest_of (child ∷ rest)) → FirstSeated p own n cursor child rest
first_seated p own n cursor child rest h =
    let turn : Turn = turn_at p own n cursor child.0 child.1 (forest_of rest) in
    let parts : EachOfTurn IsStepGrounded turn = turn_of_each IsStepGrounded turn h.grounded in
    let free_here : not (same_kind child.1.kind kind.Program) ≡ true = and_first (not (same_kind child.1.kind kind.Program)) (none_is_program child.1.children && none_is_program (forest_of rest)) h.free in
    let free_both : (none_is_program child.1.children && none_is_program (forest_of rest)) ≡ true = and_second (not (same_kind child.1.kind kind.Program)) (none_is_program child.1.children && none_is_program (forest_of rest)) h.free in
    record {
      here = record {
        var = grounded_var turn.child (not_program child.1.kind free_here) parts.whole.0;
        other = not_program child.1.kind free_here;
        below = record {
          grounded = each_left IsStepGrounded turn.below (leaving turn.child ∷ []) parts.whole.1;
          free = and_first (none_is_program child.1.children) (none_is_program (forest_of rest)) free_both;
        };
      };
      later = record {
        grounded = parts.others;
        free = and_second (none_is_program child.1.children) (none_is_program (forest_of rest)) free_both;
      };
    }

-- below the root, whose scope is open
root_grounded : (p : Place) (cursor : ℕ) (f : Forest) → p.node.kind ≡ kind.Program → AllGrounded (steps_below p None 0 cursor f) → AllGrounded (steps_below p (Some (root_scope p)) 1 cursor f)
root_grounded p cursor nothing e h = tt
root_grounded p cursor (tree r k span text marks below id after) e h =
    let parted : AllGrounded (opening p (root_scope p) ∷ steps_below p (Some (root_scope p)) 1 cursor (tree r k span text marks below id after)) = subst AllGrounded opens_first h in parted.1
  where
    opens_first : steps_below p None 0 cursor (tree r k span text marks below id after) ≡ opening p (root_scope p) ∷ steps_below p (Some (root_scope p)) 1 cursor (tree r k span text marks below id after)
    opens_first = rw e refl

none_below : (k : AstType) (f : Forest) → holds_below no_program k f ≡ none_is_program f
none_below k nothing = refl
none_below k (tree r k2 span text marks below id after) = λ i. not (same_kind k2 kind.Program) && (none_below k2 below i && none_below k after i)

pub root_seated : (program : Tree) → first_fault program ≡ None → IsSeated (root_place program) (Some (root_scope (root_place program))) 1 (on_entering program.root.kind 0) program.root.children
root_seated program h =
    let form : HasForm program = has_form program h in
    let all : AllGrounded (steps program) = all_grounded program h in
    record {
      grounded = root_grounded (root_place program) (on_entering program.root.kind 0) program.root.children form.root
          (each_left IsStepGrounded (steps_below (root_place program) None 0 (on_entering program.root.kind 0) program.root.children) (leaving (root_place program) ∷ []) all.1);
      free = sym (none_below program.root.kind program.root.children) ∙ tree_holds no_program (λ k. none_parts k (parts k) (none_of k)) program h;
    }

pub root_is_program : (program : Tree) → first_fault program ≡ None → program.root.kind ≡ kind.Program
root_is_program program h = let form : HasForm program = has_form program h in form.root
