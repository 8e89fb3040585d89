-- The nodes of a program, as its steps enter them, stand below those on their paths.
use Rattle.std.proofs.Common.{◌≡◌, ℕ, List, [], ◌∷◌, ◌++◌, Bool, true, false, cond, ◌&&◌, not, Option, None, Some, inl, inr, reverse, refl, sym, subst}
use Rattle.std.proofs.lemmas.List.{reverse-append}
use Rattle.semantic_kinds.specs.declared.role.Role.{Role}
use Rattle.semantic_tree.specs.Forest.{Forest, nothing, tree}
use Rattle.semantic_tree.specs.Tree.{Tree}
use Rattle.semantic_tree.specs.declared.node.Node.{Node}
use Rattle.semantic_model.specs.Entries.{Among}
use Rattle.semantic_tree.specs.Views.{has_role}
use Rattle.semantic_model.specs.Place.{Place, OpenScope}
use Rattle.semantic_model.specs.Inside.{opens, is_inside, any_inside, header_roles, is_in_header}
use Rattle.semantic_model.specs.ScopeKind.{opened_scope}
use Rattle.semantic_model.specs.Cursor.{on_entering}
use Rattle.semantic_model.specs.Step.{Step, entering, opening, header_ending, closing, leaving, steps, steps_below, root_place, opening_at, ending_after, opening_last, child_place}
use Rattle.semantic_model.proofs.steps.Turn.{Turn, turn_at}
use Rattle.namespace_states.specs.Descents.{heads, StandsBelow}
use Rattle.namespace_states.proofs.Lists.{among-append}

-- no step of these enters a node
abbrev NoEntering : List Step → Type 0
NoEntering ss = (q : Place) → Among (entering q) ss → ⊥

none-opening : (p : Place) (s : OpenScope) → NoEntering (opening p s ∷ [])
none-opening p s q (inl e) = absurd cc
none-opening p s q (inr a) = a

none-at : (p : Place) (r : Role) (own : Option OpenScope) (n : ℕ) → NoEntering (opening_at p r own n)
none-at p r (Some s) n q a = a
none-at p r None n q a = go (is_inside p.node.kind r) a
  where
    go : (b : Bool) → Among (entering q) (cond b (opening p (opened_scope p n) ∷ []) []) → ⊥
    go true a = none-opening p (opened_scope p n) q a
    go false a = a

none-last : (p : Place) (own : Option OpenScope) (n : ℕ) → NoEntering (opening_last p own n)
none-last p (Some s) n q a = a
none-last p None n q a = go (opens p.node.kind) a
  where
    go : (b : Bool) → Among (entering q) (cond b (opening p (opened_scope p n) ∷ closing p (opened_scope p n) ∷ []) []) → ⊥
    go true (inl e) = absurd cc
    go true (inr (inl e)) = absurd cc
    go true (inr (inr a)) = a
    go false a = a

none-after : (p : Place) (r : Role) (own : Option OpenScope) (after : Forest) → NoEntering (ending_after p r own after)
none-after p r None after q a = a
none-after p r (Some s) after q a = go (is_in_header p.node.kind r && not (has_role (header_roles p.node.kind) after)) (is_inside p.node.kind r && not (any_inside p.node.kind after)) a
  where
    go : (b d : Bool) → Among (entering q) (cond b (header_ending p s ∷ []) [] ++ cond d (closing p s ∷ []) []) → ⊥
    go true true (inl e) = absurd cc
    go true true (inr (inl e)) = absurd cc
    go true true (inr (inr a)) = a
    go true false (inl e) = absurd cc
    go true false (inr a) = a
    go false true (inl e) = absurd cc
    go false true (inr a) = a
    go false false a = a

below-more : (root : Node) (above : List Node) (x c : Node) → StandsBelow root above x → Among c (heads x.children) → StandsBelow root (above ++ x ∷ []) c
below-more root [] x c s a = (s, (c, (subst (λ (y : Node). Among c (heads y.children)) s a, refl)))
below-more root (y ∷ above) x c s a = (s.0, (s.1.0, (s.1.1.0, below-more s.1.0 above x c s.1.1.1 a)))

-- the place's node stands below its path
abbrev Placed : Node → Place → Type 0
Placed root p = StandsBelow root (reverse p.path) p.node

placed-child : (root : Node) (p : Place) (own : Option OpenScope) (cursor : ℕ) (r : Role) (node : Node) → Placed root p → Among node (heads p.node.children) → Placed root (child_place p own cursor r node)
placed-child root p own cursor r node h a =
    subst (λ (ys : List Node). StandsBelow root ys node) (sym (reverse-append (p.node ∷ []) p.path)) (below-more root (reverse p.path) p.node node h a)

entered-same : (p q : Place) → entering p ≡ entering q → p ≡ q
entered-same p q e = cc

placed-below : (root : Node) (p : Place) (own : Option OpenScope) (n cursor : ℕ) (f : Forest) (q : Place) → Placed root p → ((c : Node) → Among c (heads f) → Among c (heads p.node.children))
    → Among (entering q) (steps_below p own n cursor f) → Placed root q
placed-below root p own n cursor nothing q h k a = absurd (none-last p own n q a)
placed-below root p own n cursor (tree r kind span text marks below id after) q h k a =
    let node : Node = record { kind = kind; span = span; text = text; marks = marks; children = below; node_id = id } in
    let turn : Turn = turn_at p own n cursor r node after in
    let placed : Placed root turn.child = placed-child root p turn.scope cursor r node h (k node (inl refl)) in
    elim (among-append (entering q) (turn.before ++ turn.whole ++ turn.behind) turn.others a) [
      | inr b ↦ placed-below root p turn.scope turn.rest turn.past after q h (λ c i. k c (inr i)) b
      | inl b ↦ elim (among-append (entering q) (turn.before ++ turn.whole) turn.behind b) [
        | inr d ↦ absurd (none-after p r turn.scope after q d)
        | inl d ↦ elim (among-append (entering q) turn.before turn.whole d) [
          | inl e ↦ absurd (none-at p r own n q e)
          | inr e ↦ elim e [
            | inl same ↦ subst (λ (x : Place). Placed root x) (entered-same turn.child q same) placed
            | inr g ↦ elim (among-append (entering q) turn.below (leaving turn.child ∷ []) g) [
              | inl i ↦ placed-below root turn.child None turn.next turn.inner below q placed (λ c j. j) i
              | inr i ↦ absurd (none-leaving turn.child q i)
            ]
          ]
        ]
      ]
    ]
  where
    none-leaving : (child q : Place) → Among (entering q) (leaving child ∷ []) → ⊥
    none-leaving child q (inl e) = absurd cc
    none-leaving child q (inr a) = a

pub entered-placed : (program : Tree) (q : Place) → Among (entering q) (steps program) → StandsBelow program.root (reverse q.path) q.node
entered-placed program q (inl same) = subst (λ (x : Place). Placed program.root x) (entered-same (root_place program) q same) refl
entered-placed program q (inr a) =
    let p : Place = root_place program in
    let within : List Step = steps_below p None 0 (on_entering p.node.kind p.cursor) p.node.children in
    elim (among-append (entering q) within (leaving p ∷ []) a) [
      | inl b ↦ placed-below program.root p None 0 (on_entering p.node.kind p.cursor) p.node.children q refl (λ c j. j) b
      | inr b ↦ absurd (last b)
    ]
  where
    last : Among (entering q) (leaving (root_place program) ∷ []) → ⊥
    last (inl e) = absurd cc
    last (inr a) = a
