-- The first node that fixes a name, among the steps of a program and among the nodes of its tree.
use Rattle.std.proofs.Common.{◌≡◌, ℕ, List, [], ◌∷◌, ◌++◌, Option, Some, None, Bool, true, false, ◌&&◌, ◌||◌, cond, refl, sym, ap, ◌∙◌}
use Rattle.semantic_kinds.specs.declared.role.Role.{Role}
use Rattle.semantic_tree.specs.Faults.{first_where}
use Rattle.semantic_tree.specs.Forest.{Forest, nothing, tree}
use Rattle.semantic_tree.specs.Place.{child_place as tree_child, placed_below, root_place as tree_root, all_placed}
use Rattle.semantic_tree.specs.Tree.{Tree}
use Rattle.semantic_tree.specs.declared.node.Node.{Node}
use Rattle.semantic_tree.specs.declared.place.Place as placed
use Rattle.semantic_tree.proofs.Faults.{or_else, first_where-append}
use Rattle.semantic_model.specs.Cursor.{on_entering}
use Rattle.semantic_syntax.specs.Members.{contains}
use Rattle.semantic_model.specs.Place.{Place, OpenScope}
use Rattle.semantic_model.specs.Step.{Step, entering, leaving, steps_below, steps, opening_at, ending_after, opening_last, root_place}
use Rattle.semantic_model.proofs.steps.TurnCases.{opening_case, ending_case, last_case}
use Rattle.semantic_model.proofs.steps.Turn.{Turn, turn_at}
use Rattle.rename_model.specs.Refusal.{fixes_name, node_in, first_fixed}
use Rattle.renamer.specs.Fixing.{names_property_at, fixes_at}

or_none : (o : Option ℕ) → or_else o None ≡ o
or_none None = refl
or_none (Some id) = refl

-- the first of two is looked for first
either_first : (b : Bool) (id : ℕ) (first second : Option ℕ) → cond b (Some id) (or_else first second) ≡ or_else (cond b (Some id) first) second
either_first true id first second = refl
either_first false id first second = refl

module _ (exported : List ℕ) (chosen : ℕ → Bool) where
  abbrev first_in : List Step → Option ℕ
  first_in ss = first_fixed exported chosen ss

  first_append : (xs ys : List Step) → first_in (xs ++ ys) ≡ or_else (first_in xs) (first_in ys)
  first_append [] ys = refl
  first_append (x ∷ xs) ys = ap (λ o. cond (fixes_name exported chosen x) (Some (node_in x)) o) (first_append xs ys) ∙ either_first (fixes_name exported chosen x) (node_in x) (first_in xs) (first_in ys)

  none_open : (p : Place) (r : Role) (own : Option OpenScope) (n : ℕ) → first_in (opening_at p r own n) ≡ None
  none_open p r own n = opening_case (λ ss. first_in ss ≡ None) p r own n refl refl

  none_last : (p : Place) (own : Option OpenScope) (n : ℕ) → first_in (opening_last p own n) ≡ None
  none_last p own n = last_case (λ ss. first_in ss ≡ None) p own n refl refl

  none_ended : (p : Place) (r : Role) (own : Option OpenScope) (after : Forest) → first_in (ending_after p r own after) ≡ None
  none_ended p r own after = ending_case (λ ss. first_in ss ≡ None) p r own after refl (λ s. refl) (λ s. refl) (λ s. refl)

  -- the child itself, what is below it, and then the others
  turn : (xs ys es ws : List Step) (child : Place) → first_in xs ≡ None → first_in es ≡ None
      → first_in (xs ++ (entering child ∷ (ys ++ leaving child ∷ [])) ++ es ++ ws) ≡ or_else (cond (fixes_name exported chosen (entering child)) (Some child.node.node_id) (first_in ys)) (first_in ws)
  turn xs ys es ws child h k =
      let middle : List Step = entering child ∷ (ys ++ leaving child ∷ []) in
      first_append (xs ++ middle ++ es) ws
      ∙ ap (λ o. or_else o (first_in ws)) (
      first_append (xs ++ middle) es
      ∙ ap (or_else (first_in (xs ++ middle))) k
      ∙ or_none (first_in (xs ++ middle))
      ∙ first_append xs middle
      ∙ ap (λ o. or_else o (first_in middle)) h
      ∙ ap (λ o. cond (fixes_name exported chosen (entering child)) (Some child.node.node_id) o) (first_append ys (leaving child ∷ []) ∙ or_none (first_in ys)))

  abbrev test : placed.Place → Node → Bool
  test = fixes_at (contains exported) chosen

  fixed_below : (place : placed.Place) (p : Place) (own : Option OpenScope) (n cursor : ℕ) (f : Forest) → first_in (steps_below p own n cursor f) ≡ first_where test (placed_below place p.node.kind f)
  fixed_below place p own n cursor nothing = none_last p own n
  fixed_below place p own n cursor (tree r k span text marks below id after) =
      let node : Node = record { kind = k; span = span; text = text; marks = marks; children = below; node_id = id } in
      let parts : Turn = turn_at p own n cursor r node after in
      let here : placed.Place = tree_child place p.node.kind r in
      turn parts.before parts.below parts.behind parts.others parts.child (none_open p r own n) (none_ended p r parts.scope after)
      ∙ (λ i. or_else (cond (test here node) (Some id) (fixed_below here parts.child None parts.next parts.inner below i)) (fixed_below place p parts.scope parts.rest parts.past after i))
      ∙ sym (
      ap (λ o. cond (test here node) (Some id) o) (first_where-append test (placed_below here k below) (placed_below place p.node.kind after))
      ∙ either_first (test here node) id (first_where test (placed_below here k below)) (first_where test (placed_below place p.node.kind after)))

  pub fixed_in_tree : (p : Tree) → first_fixed exported chosen (steps p) ≡ first_where (fixes_at (contains exported) chosen) (all_placed p.root)
  fixed_in_tree p =
      let below : List Step = steps_below (root_place p) None 0 (on_entering p.root.kind 0) p.root.children in
      ap (λ o. cond (test tree_root p.root) (Some p.root.node_id) o) (
      first_append below (leaving (root_place p) ∷ [])
      ∙ or_none (first_in below)
      ∙ fixed_below tree_root (root_place p) None 0 (on_entering p.root.kind 0) p.root.children)

-- tests that agree find the same
same_found : (one other : placed.Place → Node → Bool) → ((place : placed.Place) (node : Node) → one place node ≡ other place node) → (xs : List (placed.Place × Node)) → first_where one xs ≡ first_where other xs
same_found one other h [] = refl
same_found one other h (x ∷ xs) = λ i. cond (h x.0 x.1 i) (Some x.1.node_id) (same_found one other h xs i)

-- the first in the tree, by a set with the exported ids
pub fixed_by_set : (exported : List ℕ) (set chosen : ℕ → Bool) (p : Tree) → ((id : ℕ) → set id ≡ contains exported id) → first_where (fixes_at set chosen) (all_placed p.root) ≡ first_fixed exported chosen (steps p)
fixed_by_set exported set chosen p h =
    same_found (fixes_at set chosen) (fixes_at (contains exported) chosen) (λ place node. ap (λ b. chosen node.node_id && (names_property_at place node.kind || b)) (h node.node_id)) (all_placed p.root)
    ∙ sym (fixed_in_tree exported chosen p)
