-- Each place of a program in a catch clause's own scope is followed by the take-over of that scope.
use Rattle.std.proofs.Common.{◌≡◌, ℕ, List, [], ◌∷◌, ◌++◌, Option, Some, None, Bool, true, false, cond, ◌&&◌, inl, inr, refl, sym, ap, subst, ◌∙◌, append_assoc}
use Rattle.std.proofs.lemmas.Bool.{cases_Bool}
use Rattle.semantic_syntax.proofs.Truth.{and_first, and_second}
use Rattle.semantic_tree.specs.Forest.{Forest, nothing, tree}
use Rattle.semantic_tree.specs.Tree.{Tree}
use Rattle.semantic_tree.specs.declared.node.Node.{Node}
use Rattle.semantic_kinds.specs.Kinds.{same_kind}
use Rattle.semantic_kinds.specs.Roles.{same_role}
use Rattle.semantic_kinds.specs.declared.kind.AstType.TheVariants as kind
use Rattle.semantic_kinds.specs.declared.role.Role.{Role}
use Rattle.semantic_kinds.specs.declared.role.Role.TheVariants as role
use Rattle.semantic_tree.specs.Views.{is}
use Rattle.semantic_model.specs.Place.{Place, OpenScope, innermost, outside}
use Rattle.semantic_model.specs.Inside.{is_inside, is_in_header}
use Rattle.semantic_model.specs.ScopeKind.{opened_scope}
use Rattle.semantic_model.specs.Cursor.{on_entering}
use Rattle.semantic_model.specs.Step.{Step, entering, leaving, steps_below, steps, root_place, scope_at, child_place, child_scopes}
use Rattle.semantic_model.proofs.steps.Turn.{Turn, turn_at}
use Rattle.semantic_model.proofs.form.Clauses.{kind_is, is_nothing, ends_with_block, clauses_end, later_ends}
use Rattle.semantic_model.proofs.form.ParameterShape.{stands_under, parameters_stand}
use Rattle.semantic_model.proofs.form.ParameterChains.{holds_parameters, is_open_inside, child_within, child_outer}
use Rattle.semantic_model.proofs.alone.BodyFollows.{taken_in, taken_later, taken_first, FollowsIn, follows_later, AllFollowed, past_opening, past_last, past_ending, block_opens, body_child, body_comes}
use Rattle.semantic_model.proofs.fold.Orders.{HasForm}

-- an own scope with a body is a clause's
abbrev pub OwnFact : Place → Option OpenScope → Type 0
OwnFact p None = Unit {0}
OwnFact p (Some s) = is kind.CatchClause p.node ≡ false → s.body ≡ None

opened_fact : (p : Place) (n : ℕ) → is kind.CatchClause p.node ≡ false → (opened_scope p n).body ≡ None
opened_fact p n h = rw h refl

own_fact : (p : Place) (r : Role) (own : Option OpenScope) (n : ℕ) → OwnFact p own → OwnFact p (scope_at p r own n)
own_fact p r (Some s) n h = h
own_fact p r None n h = go (is_inside p.node.kind r)
  where
    go : (b : Bool) → OwnFact p (cond b (Some (opened_scope p n)) None)
    go true = opened_fact p n
    go false = tt

-- what the children of a place that stand around it need
pub record Around (p : Place) (rest : List Step) : Type 0 where
  pub chain : is kind.BlockStatement p.node ≡ false → FollowsIn p.chain rest
  pub outer : holds_parameters p.node.kind ≡ true → FollowsIn (outside p.chain) rest

block_inside : (p : Place) (r : Role) → is kind.BlockStatement p.node ≡ true → is_inside p.node.kind r ≡ true
block_inside p r h = subst (λ k. is_inside k r ≡ true) (sym (kind_is p.node.kind kind.BlockStatement h)) refl

-- a child in its parent's scope, or around it
within_follows : (p : Place) (r : Role) (scope : Option OpenScope) (ss : List Step) → (is_inside p.node.kind r ≡ true → scope ≡ None → ⊥) → OwnFact p scope → (is kind.BlockStatement p.node ≡ false → FollowsIn p.chain ss) → (is kind.CatchClause p.node ≡ true → (s : OpenScope) → scope ≡ Some s → taken_in s.number ss ≡ true) → FollowsIn (child_scopes p r scope) ss
within_follows p r None ss is_open own around clause = elim (cases_Bool (is kind.BlockStatement p.node)) [
  | inl t ↦ absurd (is_open (block_inside p r t) refl)
  | inr f ↦ around f
]
within_follows p r (Some s) ss is_open own around clause = go (is_inside p.node.kind r) refl
  where
    go : (b : Bool) → is_inside p.node.kind r ≡ b → FollowsIn (cond b (record s { in_header = is_in_header p.node.kind r } ∷ p.chain) p.chain) ss
    go true e = λ b q. elim (cases_Bool (is kind.CatchClause p.node)) [
      | inl t ↦ clause t s refl
      | inr f ↦ (let w : None ≡ Some b = sym (own f) ∙ q in absurd cc)
    ]
    go false e = elim (cases_Bool (is kind.BlockStatement p.node)) [
      | inl t ↦ (let w : true ≡ false = sym (block_inside p r t) ∙ e in absurd cc)
      | inr f ↦ around f
    ]

child_follows : (p : Place) (scope : Option OpenScope) (cursor : ℕ) (r : Role) (node : Node) (ss : List Step) → (is_inside p.node.kind r ≡ true → scope ≡ None → ⊥) → OwnFact p scope → Around p ss → (is kind.CatchClause p.node ≡ true → (s : OpenScope) → scope ≡ Some s → taken_in s.number ss ≡ true) → FollowsIn (child_place p scope cursor r node).chain ss
child_follows p scope cursor r node ss is_open own around clause = child_within (λ chain. FollowsIn chain ss) p scope cursor r node around.outer (within_follows p r scope ss is_open own around.chain clause)

around_later : (p : Place) (xs ys : List Step) → Around p ys → Around p (xs ++ ys)
around_later p xs ys a = record { chain = λ h. follows_later p.chain xs ys (a.chain h); outer = λ h. follows_later (outside p.chain) xs ys (a.outer h) }

-- the list of steps after a child, in order
in_turn : (xs ys es ws rest : List Step) (a z : Step) → xs ++ (a ∷ (ys ++ z ∷ [])) ++ es ++ ws ++ rest ≡ xs ++ (a ∷ (ys ++ (z ∷ (es ++ (ws ++ rest)))))
in_turn xs ys es ws rest a z =
    append_assoc (xs ++ (a ∷ (ys ++ z ∷ [])) ++ es) ws rest
    ∙ append_assoc (xs ++ (a ∷ (ys ++ z ∷ []))) es (ws ++ rest)
    ∙ append_assoc xs (a ∷ (ys ++ z ∷ [])) (es ++ (ws ++ rest))
    ∙ ap (λ ss. xs ++ (a ∷ ss)) (append_assoc ys (z ∷ []) (es ++ (ws ++ rest)))

and_false : (a b : Bool) → (a && b) ≡ false → a ≡ true → b ≡ false
and_false true b h e = h
and_false false b h e = absurd cc

pub followed : (p : Place) (own : Option OpenScope) (n cursor : ℕ) (f : Forest) (rest : List Step) → Around p rest → OwnFact p own → (is kind.CatchClause p.node ≡ true → is_nothing f ≡ false → ends_with_block f ≡ true) → clauses_end f ≡ true → parameters_stand p.node.kind f ≡ true → AllFollowed rest → AllFollowed (steps_below p own n cursor f ++ rest)
followed p own n cursor nothing rest a o c e s h = past_last p own n rest h
followed p own n cursor (tree r k span text marks below id after) rest a o c e s h =
    let node : Node = record { kind = k; span = span; text = text; marks = marks; children = below; node_id = id } in
    let turn : Turn = turn_at p own n cursor r node after in
    let behind : List Step = turn.behind ++ (turn.others ++ rest) in
    let is_open : is_inside p.node.kind r ≡ true → turn.scope ≡ None → ⊥ = is_open_inside p r own n in
    let o_scope : OwnFact p turn.scope = own_fact p r own n o in
    let e_parts : (clauses_end below && clauses_end after) ≡ true = and_second (cond (same_kind k kind.CatchClause) (ends_with_block below) true) (clauses_end below && clauses_end after) e in
    let s_parts : (parameters_stand k below && parameters_stand p.node.kind after) ≡ true = and_second (stands_under p.node.kind r k) (parameters_stand k below && parameters_stand p.node.kind after) s in
    let a_behind : Around p behind = around_later p turn.behind (turn.others ++ rest) (around_later p turn.others rest a) in
    let c_after : is kind.CatchClause p.node ≡ true → is_nothing after ≡ false → ends_with_block after ≡ true = λ i j. clause_after i j in
    let ok_rest : AllFollowed (turn.others ++ rest) = followed p turn.scope turn.rest turn.past after rest a o_scope c_after (and_second (clauses_end below) (clauses_end after) e_parts) (and_second (parameters_stand k below) (parameters_stand p.node.kind after) s_parts) h in
    let ok_behind : AllFollowed behind = past_ending p r turn.scope after (turn.others ++ rest) ok_rest in
    let outer : holds_parameters k ≡ true → FollowsIn (outside turn.child.chain) behind = child_outer (λ chain. FollowsIn chain behind) p turn.scope cursor r node is_open (λ e. a_behind.chain) a_behind.outer (and_first (stands_under p.node.kind r k) (parameters_stand k below && parameters_stand p.node.kind after) s) in
    let c_below : is kind.CatchClause node ≡ true → is_nothing below ≡ false → ends_with_block below ≡ true = λ i j. clause_below (and_first (cond (same_kind k kind.CatchClause) (ends_with_block below) true) (clauses_end below && clauses_end after) e) i in
    let below_ok : Around turn.child (leaving turn.child ∷ behind) → AllFollowed (turn.below ++ (leaving turn.child ∷ behind)) =
    λ b. followed turn.child None turn.next turn.inner below (leaving turn.child ∷ behind) b tt c_below (and_first (clauses_end below) (clauses_end after) e_parts) (and_first (parameters_stand k below) (parameters_stand p.node.kind after) s_parts) ok_behind in
    subst AllFollowed (sym (in_turn turn.before turn.below turn.behind turn.others rest (entering turn.child) (leaving turn.child)))
    (past_opening p r own n (entering turn.child ∷ (turn.below ++ (leaving turn.child ∷ behind)))
    (elim (cases_Bool (is kind.CatchClause p.node && same_role r role.Body)) [
      | inl it ↦ (let catch : is kind.CatchClause p.node ≡ true = and_first (is kind.CatchClause p.node) (same_role r role.Body) it in
          let body : same_role r role.Body ≡ true = and_second (is kind.CatchClause p.node) (same_role r role.Body) it in
          let block : is kind.BlockStatement node ≡ true = and_first (same_kind k kind.BlockStatement) (is_nothing after) (rw body at (c catch refl)) in (
            λ b q. taken_first (innermost turn.child.chain).number turn.below (leaving turn.child ∷ behind) (block_opens turn.child turn.next turn.inner below (body_child p turn.scope cursor r node catch body block)),
            below_ok (record { chain = λ i. (let w : true ≡ false = sym block ∙ i in absurd cc); outer = outer }),
          ))
      | inr other ↦ (let taken : is kind.CatchClause p.node ≡ true → (t : OpenScope) → turn.scope ≡ Some t → taken_in t.number behind ≡ true =
          λ i t j. taken_later t.number turn.behind (turn.others ++ rest) (taken_first t.number turn.others rest
          (subst (λ z. taken_in t.number (steps_below p z turn.rest turn.past after) ≡ true) (sym j) (body_comes p t turn.rest turn.past after i (later_ends r k after (and_false (is kind.CatchClause p.node) (same_role r role.Body) other i) (c i refl))))) in
          let follows : FollowsIn turn.child.chain behind = child_follows p turn.scope cursor r node behind is_open o_scope a_behind taken in (
            follows_later turn.child.chain turn.below (leaving turn.child ∷ behind) follows,
            below_ok (record { chain = λ i. follows; outer = outer }),
          ))
    ]))
  where
    clause_after : is kind.CatchClause p.node ≡ true → is_nothing after ≡ false → ends_with_block after ≡ true
    clause_after i j = elim (cases_Bool (same_role r role.Body)) [
      | inl b ↦ (let w : is_nothing after ≡ true = and_second (same_kind k kind.BlockStatement) (is_nothing after) (rw b at (c i refl)) in let v : true ≡ false = sym w ∙ j in absurd cc)
      | inr b ↦ later_ends r k after b (c i refl)
    ]

    clause_below : cond (same_kind k kind.CatchClause) (ends_with_block below) true ≡ true → same_kind k kind.CatchClause ≡ true → ends_with_block below ≡ true
    clause_below q i = rw i at q

pub followed_program : (p : Tree) → HasForm p → AllFollowed (steps p)
followed_program p h =
    let root : Place = root_place p in (
      λ b q. absurd cc,
      followed root None 0 (on_entering p.root.kind 0) p.root.children (leaving root ∷ [])
          (record { chain = λ i b q. absurd cc; outer = λ i b q. absurd cc }) tt
          (λ i j. (let q : kind.Program ≡ kind.CatchClause = sym h.root ∙ kind_is p.root.kind kind.CatchClause i in absurd cc))
          h.clauses h.parameters tt,
    )
