-- The steps of a program come to its nodes alone.
use Rattle.std.proofs.Common.{◌≡◌, ℕ, ◌+◌, List, [], ◌∷◌, ◌++◌, Option, Some, None, cond, Bool, true, false, not, ◌&&◌, inl, inr, sym, ap, subst}
use Rattle.semantic_kinds.specs.declared.role.Role.{Role}
use Rattle.semantic_tree.specs.Forest.{Forest, nothing, tree}
use Rattle.semantic_tree.specs.Tree.{Tree}
use Rattle.semantic_tree.specs.declared.node.Node.{Node}
use Rattle.semantic_model.specs.Cursor.{on_entering}
use Rattle.semantic_model.specs.Entries.{Among}
use Rattle.semantic_model.specs.Inside.{opens, is_inside, any_inside, header_roles, is_in_header, scopes_in}
use Rattle.semantic_tree.specs.Views.{has_role}
use Rattle.semantic_model.specs.Place.{Place, OpenScope}
use Rattle.semantic_model.specs.ScopeKind.{opened_scope}
use Rattle.semantic_model.specs.Step.{Step, entering, opening, header_ending, closing, leaving, steps_below, steps, opening_at, ending_after, opening_last, scope_at, next_at, child_place, cursor_past, root_place}
use Rattle.semantic_model.proofs.lists.Members.{among_left, among_right, among_cases}
use Rattle.program_laws.proofs.TreeNodes.{nodes_below, nodes_from}

abbrev pub node_at : Step → Node
node_at (entering p) = p.node
node_at (opening p s) = p.node
node_at (header_ending p s) = p.node
node_at (closing p s) = p.node
node_at (leaving p) = p.node

-- the node and those below it are among the nodes
abbrev pub Within : List Node → Node → Type 0
Within all x = (y : Node) → Among y (nodes_from x) → Among y all

module _ (all : List Node) where
  at_node : (x : Node) (s : Step) → node_at s ≡ x → Within all x → Within all (node_at s)
  at_node x s e w = subst (Within all) (sym e) w

  opened_within : (p : Place) (r : Role) (own : Option OpenScope) (n : ℕ) (s : Step) → Among s (opening_at p r own n) → node_at s ≡ p.node
  opened_within p r (Some o) n s a = absurd a
  opened_within p r None n s a = go (is_inside p.node.kind r) a
    where
      go : (b : Bool) → Among s (cond b (opening p (opened_scope p n) ∷ []) []) → node_at s ≡ p.node
      go true (inl e) = sym (ap node_at e)
      go true (inr q) = absurd q
      go false q = absurd q

  last_within : (p : Place) (own : Option OpenScope) (n : ℕ) (s : Step) → Among s (opening_last p own n) → node_at s ≡ p.node
  last_within p (Some o) n s a = absurd a
  last_within p None n s a = go (opens p.node.kind) a
    where
      go : (b : Bool) → Among s (cond b (opening p (opened_scope p n) ∷ closing p (opened_scope p n) ∷ []) []) → node_at s ≡ p.node
      go true (inl e) = sym (ap node_at e)
      go true (inr (inl e)) = sym (ap node_at e)
      go true (inr (inr q)) = absurd q
      go false q = absurd q

  ended_within : (p : Place) (r : Role) (own : Option OpenScope) (after : Forest) (s : Step) → Among s (ending_after p r own after) → node_at s ≡ p.node
  ended_within p r None after s a = absurd a
  ended_within p r (Some o) after s a = go (is_in_header p.node.kind r && not (has_role (header_roles p.node.kind) after)) (is_inside p.node.kind r && not (any_inside p.node.kind after)) a
    where
      go : (x y : Bool) → Among s (cond x (header_ending p o ∷ []) [] ++ cond y (closing p o ∷ []) []) → node_at s ≡ p.node
      go true true (inl e) = sym (ap node_at e)
      go true true (inr (inl e)) = sym (ap node_at e)
      go true true (inr (inr q)) = absurd q
      go true false (inl e) = sym (ap node_at e)
      go true false (inr q) = absurd q
      go false true (inl e) = sym (ap node_at e)
      go false true (inr q) = absurd q
      go false false q = absurd q

  below_within : (p : Place) (own : Option OpenScope) (n cursor : ℕ) (g : Forest) → Within all p.node → ((y : Node) → Among y (nodes_below g) → Among y all) → (s : Step) → Among s (steps_below p own n cursor g) → Within all (node_at s)
  below_within p own n cursor nothing w h s a = at_node p.node s (last_within p own n s a) w
  below_within p own n cursor (tree r k span text marks below id after) w h s a =
      elim (among_cases s (xs ++ middle ++ es) ws a) [
        | inr q ↦ below_within p scope (next + cond (opens k) 1 0 + scopes_in below) (cursor_past p r cursor child) after w (λ y c. h y (inr (among_right y (nodes_below below) (nodes_below after) c))) s q
        | inl q ↦ elim (among_cases s (xs ++ middle) es q) [
          | inr e ↦ at_node p.node s (ended_within p r scope after s e) w
          | inl e ↦ elim (among_cases s xs middle e) [
            | inl o ↦ at_node p.node s (opened_within p r own n s o) w
            | inr m ↦ in_middle m (λ q. below_within child None next (on_entering k child.cursor) below from_node (λ y c. from_node y (inr c)) s q)
          ]
        ]
      ]
    where
      node : Node
      node = record { kind = k; span = span; text = text; marks = marks; children = below; node_id = id }

      scope : Option OpenScope
      scope = scope_at p r own n

      next : ℕ
      next = next_at p r own n

      child : Place
      child = child_place p scope cursor r node

      xs : List Step
      xs = opening_at p r own n

      ys : List Step
      ys = steps_below child None next (on_entering k child.cursor) below

      middle : List Step
      middle = entering child ∷ (ys ++ leaving child ∷ [])

      es : List Step
      es = ending_after p r scope after

      ws : List Step
      ws = steps_below p scope (next + cond (opens k) 1 0 + scopes_in below) (cursor_past p r cursor child) after

      from_node : Within all node
      from_node y (inl e) = h y (inl e)
      from_node y (inr c) = h y (inr (among_left y (nodes_below below) (nodes_below after) c))

      in_middle : Among s middle → (Among s ys → Within all (node_at s)) → Within all (node_at s)
      in_middle (inl e) inner = at_node node s (sym (ap node_at e)) from_node
      in_middle (inr m) inner = elim (among_cases s ys (leaving child ∷ []) m) [
        | inl q ↦ inner q
        | inr q ↦ elim q [ inl e ↦ at_node node s (sym (ap node_at e)) from_node | inr never ↦ absurd never ]
      ]

-- each step of a program is at a node of its tree
pub steps_within : (p : Tree) (s : Step) → Among s (steps p) → Within (nodes_from p.root) (node_at s)
steps_within p s (inl e) = subst (Within (nodes_from p.root)) (ap node_at e) (λ y a. a)
steps_within p s (inr m) =
    let root : Place = root_place p in
    let below : List Step = steps_below root None 0 (on_entering p.root.kind 0) p.root.children in
    elim (among_cases s below (leaving root ∷ []) m) [
      | inl q ↦ below_within (nodes_from p.root) root None 0 (on_entering p.root.kind 0) p.root.children (λ y a. a) (λ y a. inr a) s q
      | inr q ↦ elim q [ inl e ↦ subst (Within (nodes_from p.root)) (ap node_at e) (λ y a. a) | inr never ↦ absurd never ]
    ]
