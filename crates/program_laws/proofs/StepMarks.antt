-- A program with other marks is walked in the same steps.
use Rattle.std.proofs.Common.{◌≡◌, ℕ, ◌+◌, List, [], ◌∷◌, ◌++◌, Option, Some, None, cond, Bool, true, false, not, ◌&&◌, refl, sym, ap, ◌∙◌, map}
use Rattle.semantic_kinds.specs.declared.marks.Marks.{Marks}
use Rattle.semantic_kinds.specs.declared.role.Role.{Role}
use Rattle.semantic_tree.specs.Forest.{Forest, nothing, tree}
use Rattle.semantic_tree.specs.Tree.{Tree}
use Rattle.semantic_tree.specs.declared.node.Node.{Node}
use Rattle.semantic_model.specs.Cursor.{on_entering, on_leaving, cursor_behind}
use Rattle.semantic_model.specs.Inside.{opens, is_inside, any_inside, header_roles, is_in_header, is_parameter_decorator, scopes_in}
use Rattle.semantic_tree.specs.Views.{has_role}
use Rattle.semantic_model.specs.Place.{Place, OpenScope, outside}
use Rattle.semantic_model.specs.ScopeKind.{opened_scope}
use Rattle.semantic_model.specs.Step.{Step, entering, opening, header_ending, closing, leaving, steps_below, steps, opening_at, ending_after, opening_last, scope_at, next_at, child_scopes, child_place, cursor_past, root_place}
use Rattle.program_laws.specs.ReadMarks.{KeepsRead}
use Rattle.program_laws.specs.Remarked.{remarked_node, remarked, remarked_tree}
use Rattle.program_laws.proofs.Children.{roles_same, insides_same, scopes_same}
use Rattle.program_laws.proofs.CursorMarks.{round_ambient, coming_same, after_same}
use Rattle.program_laws.proofs.ScopeMarks.{remarked_place, opened_same}
use Rattle.semantic_model.proofs.swapped.Alike.{map_append}

module _ (f : Node → Marks) where
  abbrev pub remarked_step : Step → Step
  remarked_step (entering p) = entering (remarked_place f p)
  remarked_step (opening p s) = opening (remarked_place f p) s
  remarked_step (header_ending p s) = header_ending (remarked_place f p) s
  remarked_step (closing p s) = closing (remarked_place f p) s
  remarked_step (leaving p) = leaving (remarked_place f p)

  abbrev pub remarked_steps : List Step → List Step
  remarked_steps ss = map remarked_step ss

  scope_same : (p : Place) (r : Role) (own : Option OpenScope) (n : ℕ) → scope_at (remarked_place f p) r own n ≡ scope_at p r own n
  scope_same p r (Some s) n = refl
  scope_same p r None n = ap (λ s. cond (is_inside p.node.kind r) (Some s) None) (opened_same f p n)

  next_same : (p : Place) (r : Role) (own : Option OpenScope) (n : ℕ) → next_at (remarked_place f p) r own n ≡ next_at p r own n
  next_same p r (Some s) n = refl
  next_same p r None n = refl

  opening_same : (p : Place) (r : Role) (own : Option OpenScope) (n : ℕ) → opening_at (remarked_place f p) r own n ≡ remarked_steps (opening_at p r own n)
  opening_same p r (Some s) n = refl
  opening_same p r None n = ap (λ s. cond (is_inside p.node.kind r) (opening (remarked_place f p) s ∷ []) []) (opened_same f p n) ∙ go (is_inside p.node.kind r)
    where
      go : (b : Bool) → cond b (opening (remarked_place f p) (opened_scope p n) ∷ []) [] ≡ remarked_steps (cond b (opening p (opened_scope p n) ∷ []) [])
      go true = refl
      go false = refl

  last_same : (p : Place) (own : Option OpenScope) (n : ℕ) → opening_last (remarked_place f p) own n ≡ remarked_steps (opening_last p own n)
  last_same p (Some s) n = refl
  last_same p None n = ap (λ s. cond (opens p.node.kind) (opening (remarked_place f p) s ∷ closing (remarked_place f p) s ∷ []) []) (opened_same f p n) ∙ go (opens p.node.kind)
    where
      go : (b : Bool) → cond b (opening (remarked_place f p) (opened_scope p n) ∷ closing (remarked_place f p) (opened_scope p n) ∷ []) [] ≡ remarked_steps (cond b (opening p (opened_scope p n) ∷ closing p (opened_scope p n) ∷ []) [])
      go true = refl
      go false = refl

  ending_same : (p : Place) (r : Role) (own : Option OpenScope) (after : Forest) → ending_after (remarked_place f p) r own (remarked f after) ≡ remarked_steps (ending_after p r own after)
  ending_same p r None after = refl
  ending_same p r (Some s) after =
      (λ i. cond (is_in_header p.node.kind r && not (roles_same f (header_roles p.node.kind) after i)) (header_ending (remarked_place f p) s ∷ []) []
      ++ cond (is_inside p.node.kind r && not (insides_same f p.node.kind after i)) (closing (remarked_place f p) s ∷ []) [])
      ∙ go (is_in_header p.node.kind r && not (has_role (header_roles p.node.kind) after)) (is_inside p.node.kind r && not (any_inside p.node.kind after))
    where
      go : (x y : Bool) → cond x (header_ending (remarked_place f p) s ∷ []) [] ++ cond y (closing (remarked_place f p) s ∷ []) [] ≡ remarked_steps (cond x (header_ending p s ∷ []) [] ++ cond y (closing p s ∷ []) [])
      go true true = refl
      go true false = refl
      go false true = refl
      go false false = refl

  chain_same : (p : Place) (r : Role) (own : Option OpenScope) → child_scopes (remarked_place f p) r own ≡ child_scopes p r own
  chain_same p r None = refl
  chain_same p r (Some s) = refl

  -- the steps of one child and those around them
  turn_same : (xs : List Step) (c : Place) (ys es ws : List Step) → remarked_steps xs ++ (entering (remarked_place f c) ∷ (remarked_steps ys ++ leaving (remarked_place f c) ∷ [])) ++ remarked_steps es ++ remarked_steps ws ≡ remarked_steps (xs ++ (entering c ∷ (ys ++ leaving c ∷ [])) ++ es ++ ws)
  turn_same xs c ys es ws =
      let own : List Step = entering c ∷ (ys ++ leaving c ∷ []) in
      (λ i. remarked_steps xs ++ (entering (remarked_place f c) ∷ sym (map_append remarked_step ys (leaving c ∷ [])) i) ++ remarked_steps es ++ remarked_steps ws)
      ∙ (λ i. sym (map_append remarked_step xs own) i ++ remarked_steps es ++ remarked_steps ws)
      ∙ (λ i. sym (map_append remarked_step (xs ++ own) es) i ++ remarked_steps ws)
      ∙ sym (map_append remarked_step (xs ++ own ++ es) ws)

  module _ (keeps : KeepsRead f) where
    child_same : (p : Place) (own : Option OpenScope) (cursor : ℕ) (r : Role) (node : Node) → child_place (remarked_place f p) own cursor r (remarked_node f node) ≡ remarked_place f (child_place p own cursor r node)
    child_same p own cursor r node = λ i. record {
      source_type = p.source_type;
      role = r;
      node = remarked_node f node;
      chain = cond (is_parameter_decorator p.node.kind r) (outside p.chain) (chain_same p r own i);
      path = map (remarked_node f) (p.node ∷ p.path);
      cursor = coming_same f keeps p.node p.is_ambient r node cursor i;
      is_ambient = round_ambient f keeps p.node p.is_ambient r i;
    }

    past_same : (p : Place) (r : Role) (cursor : ℕ) (child : Place) → cursor_past (remarked_place f p) r cursor (remarked_place f child) ≡ cursor_past p r cursor child
    past_same p r cursor child =
        ap (λ c. cursor_behind p.node.kind r cursor (on_leaving child.node.kind c)) (after_same f keeps child.node child.is_ambient (on_entering child.node.kind child.cursor) child.node.children)

    pub below_same : (p : Place) (own : Option OpenScope) (n cursor : ℕ) (g : Forest) → steps_below (remarked_place f p) own n cursor (remarked f g) ≡ remarked_steps (steps_below p own n cursor g)
    below_same p own n cursor nothing = last_same p own n
    below_same p own n cursor (tree r k span text marks below id after) =
        let node : Node = record { kind = k; span = span; text = text; marks = marks; children = below; node_id = id } in
        let scope : Option OpenScope = scope_at p r own n in
        let next : ℕ = next_at p r own n in
        let child : Place = child_place p scope cursor r node in
        let m : ℕ = next + cond (opens k) 1 0 + scopes_in below in
        let e_child : child_place (remarked_place f p) (scope_at (remarked_place f p) r own n) cursor r (remarked_node f node) ≡ remarked_place f child = ap (λ s. child_place (remarked_place f p) s cursor r (remarked_node f node)) (scope_same p r own n) ∙ child_same p scope cursor r node in
        let e_below : steps_below (remarked_place f child) None (next_at (remarked_place f p) r own n) (on_entering k child.cursor) (remarked f below) ≡ remarked_steps (steps_below child None next (on_entering k child.cursor) below) =
        ap (λ j. steps_below (remarked_place f child) None j (on_entering k child.cursor) (remarked f below)) (next_same p r own n) ∙ below_same child None next (on_entering k child.cursor) below in
        let e_ending : ending_after (remarked_place f p) r (scope_at (remarked_place f p) r own n) (remarked f after) ≡ remarked_steps (ending_after p r scope after) = ap (λ s. ending_after (remarked_place f p) r s (remarked f after)) (scope_same p r own n) ∙ ending_same p r scope after in
        let e_after : steps_below (remarked_place f p) (scope_at (remarked_place f p) r own n) (next_at (remarked_place f p) r own n + cond (opens k) 1 0 + scopes_in (remarked f below)) (cursor_past (remarked_place f p) r cursor (remarked_place f child)) (remarked f after) ≡ remarked_steps (steps_below p scope m (cursor_past p r cursor child) after) =
        (λ i. steps_below (remarked_place f p) (scope_same p r own n i) (next_same p r own n i + cond (opens k) 1 0 + scopes_same f below i) (past_same p r cursor child i) (remarked f after)) ∙ below_same p scope m (cursor_past p r cursor child) after in
        (λ i. opening_same p r own n i
        ++ (entering (e_child i) ∷ (steps_below (e_child i) None (next_at (remarked_place f p) r own n) (on_entering k (e_child i).cursor) (remarked f below) ++ leaving (e_child i) ∷ []))
        ++ e_ending i
        ++ steps_below (remarked_place f p) (scope_at (remarked_place f p) r own n) (next_at (remarked_place f p) r own n + cond (opens k) 1 0 + scopes_in (remarked f below)) (cursor_past (remarked_place f p) r cursor (e_child i)) (remarked f after))
        ∙ (λ i. remarked_steps (opening_at p r own n) ++ (entering (remarked_place f child) ∷ (e_below i ++ leaving (remarked_place f child) ∷ [])) ++ remarked_steps (ending_after p r scope after) ++ e_after i)
        ∙ turn_same (opening_at p r own n) child (steps_below child None next (on_entering k child.cursor) below) (ending_after p r scope after) (steps_below p scope m (cursor_past p r cursor child) after)

    pub steps_same : (p : Tree) → steps (remarked_tree f p) ≡ remarked_steps (steps p)
    steps_same p =
        let root : Place = root_place p in
        let n : ℕ = on_entering p.root.kind 0 in
        (λ i. entering (remarked_place f root) ∷ (below_same root None 0 n p.root.children i ++ leaving (remarked_place f root) ∷ []))
        ∙ ap (λ ss. entering (remarked_place f root) ∷ ss) (sym (map_append remarked_step (steps_below root None 0 n p.root.children) (leaving root ∷ [])))
