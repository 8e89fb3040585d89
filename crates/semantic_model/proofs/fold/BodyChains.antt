-- Each scope of a place's chain stands in the table of bodies with its own, and a clause's body with the clause.
use Rattle.std.proofs.Common.{◌≡◌, ℕ, suc, ◌+◌, List, [], ◌∷◌, Option, Some, None, Bool, true, false, cond, ◌&&◌, ◌||◌, inl, inr, refl, sym, ap, subst, ◌∙◌}
use Rattle.std.specs.Prelude.{slice_get}
use Rattle.std.proofs.lemmas.Bool.{cases_Bool}
use Rattle.semantic_tree.specs.Forest.{Forest, nothing, tree}
use Rattle.semantic_tree.specs.declared.node.Node.{Node}
use Rattle.semantic_kinds.specs.Kinds.{same_kind}
use Rattle.semantic_kinds.specs.Roles.{same_role}
use Rattle.semantic_kinds.specs.declared.kind.AstType.{AstType}
use Rattle.semantic_kinds.specs.declared.kind.AstType.TheVariants as kind
use Rattle.semantic_kinds.specs.declared.role.Role.{Role}
use Rattle.semantic_kinds.specs.declared.role.Role.TheVariants as role
use Rattle.semantic_syntax.specs.declared.scope_flags.TheConstants.ScopeFlags as scope
use Rattle.semantic_syntax.specs.Sets.{meets, union}
use Rattle.semantic_syntax.proofs.Truth.{and_first, and_second}
use Rattle.semantic_tree.specs.Views.{is, has_role}
use Rattle.semantic_model.specs.Place.{Place, OpenScope, innermost, outside, is_strict}
use Rattle.semantic_model.specs.Inside.{opens, is_inside, is_in_header, is_parameter_decorator, scopes_in, body_number}
use Rattle.semantic_model.specs.ScopeKind.{strict_if, opened_scope}
use Rattle.semantic_model.specs.Event.{is_catch_body}
use Rattle.semantic_model.specs.Step.{Step, entering, opening, header_ending, closing, leaving, steps_below, opening_at, ending_after, opening_last, scope_at, next_at, child_place, child_scopes}
use Rattle.semantic_model.proofs.steps.Turn.{Turn, turn_at}
use Rattle.semantic_model.proofs.steps.OpenedFrom.{OpenedFrom, OpenedRound, opened_round}
use Rattle.semantic_model.proofs.steps.TurnCases.{ending_case}
use Rattle.semantic_model.proofs.steps.EachStep.{EachStep, each_of_node, each_of_turn}
use Rattle.semantic_model.proofs.form.Clauses.{kind_is, ends_with_block, clauses_end, nothing_follows, later_ends}

module _ (table : List (Option ℕ)) where
  -- a scope that opens with number n has this body
  abbrev pub HasBody : ℕ → Place → OpenScope → Type 0
  HasBody n p s = slice_get table n ≡ Some s.body

  -- the scope stands in the table with its body; only a clause's scope has one
  pub record InTable (s : OpenScope) : Type 0 where
    pub entry : slice_get table s.number ≡ Some s.body
    pub clause : meets s.flags scope.CatchClause.bits ≡ false → s.body ≡ None
    pub plain : (b : ℕ) → s.body ≡ Some b → (meets s.flags scope.Var.bits ≡ false) × (meets s.flags scope.TsConditional.bits ≡ false)

  abbrev pub AllInTable : List OpenScope → Type 0
  AllInTable [] = Unit {0}
  AllInTable (s ∷ ss) = InTable s × AllInTable ss

  -- a block that takes over is the body of the clause around it, and has no body itself
  abbrev pub IsBodyOf : Place → ℕ → Type 0
  IsBodyOf p n = is_catch_body p ≡ true → slice_get table (innermost p.chain).number ≡ Some (Some n)

  abbrev pub IsStepIn : Step → Type 0
  IsStepIn (entering p) = AllInTable p.chain
  IsStepIn (opening p s) = AllInTable p.chain × InTable s × IsBodyOf p s.number × (is kind.CatchClause p.node ≡ false → s.body ≡ None)
  IsStepIn (header_ending p s) = Unit {0}
  IsStepIn (closing p s) = Unit {0}
  IsStepIn (leaving p) = Unit {0}

  abbrev pub AllStepsIn : List Step → Type 0
  AllStepsIn = EachStep IsStepIn

  clause_flags : (p : Place) → p.node.kind ≡ kind.CatchClause → meets (opened_scope p 0).flags scope.CatchClause.bits ≡ true
  clause_flags p e = rw e (elim (is_strict p.chain) as (λ b. meets (union scope.CatchClause.bits (strict_if b)) scope.CatchClause.bits ≡ true) [ true ↦ refl | false ↦ refl ])

  clause_plain : (p : Place) → p.node.kind ≡ kind.CatchClause → (meets (opened_scope p 0).flags scope.Var.bits ≡ false) × (meets (opened_scope p 0).flags scope.TsConditional.bits ≡ false)
  clause_plain p e = rw e (go (is_strict p.chain))
    where
      go : (b : Bool) → (meets (union scope.CatchClause.bits (strict_if b)) scope.Var.bits ≡ false) × (meets (union scope.CatchClause.bits (strict_if b)) scope.TsConditional.bits ≡ false)
      go true = (refl, refl)
      go false = (refl, refl)

  opened_in : (p : Place) (n : ℕ) → slice_get table n ≡ Some (opened_scope p n).body → InTable (opened_scope p n)
  opened_in p n e = record { entry = e; clause = λ h. go (is kind.CatchClause p.node) refl h; plain = λ b q. bodied (is kind.CatchClause p.node) refl b q }
    where
      go : (b : Bool) → is kind.CatchClause p.node ≡ b → meets (opened_scope p n).flags scope.CatchClause.bits ≡ false → cond b (body_number (suc n) p.node.children) None ≡ None
      go true f h = let k : true ≡ false = sym (clause_flags p (kind_is p.node.kind kind.CatchClause f)) ∙ h in absurd cc
      go false f h = refl

      bodied : (t : Bool) → is kind.CatchClause p.node ≡ t → (b : ℕ) → cond t (body_number (suc n) p.node.children) None ≡ Some b → (meets (opened_scope p n).flags scope.Var.bits ≡ false) × (meets (opened_scope p n).flags scope.TsConditional.bits ≡ false)
      bodied true f b q = clause_plain p (kind_is p.node.kind kind.CatchClause f)
      bodied false f b q = absurd cc

  pub block_is : (p : Place) → is_catch_body p ≡ true → p.node.kind ≡ kind.BlockStatement
  block_is p h = kind_is p.node.kind kind.BlockStatement (and_first (is kind.BlockStatement p.node) (same_role p.role role.Body) (and_first (is kind.BlockStatement p.node && same_role p.role role.Body) _ h))

  no_body : (p : Place) (n : ℕ) → is kind.CatchClause p.node ≡ false → (opened_scope p n).body ≡ None
  no_body p n h = rw h refl

  -- what is known of a place while its scope is still to open
  abbrev pub BodyFact : Place → Option OpenScope → ℕ → Type 0
  BodyFact p None n = IsBodyOf p n
  BodyFact p (Some s) n = Unit {0}

  -- what is known of a clause: the body that is left is the one that its scope tells
  abbrev pub ClauseFact : Place → Option OpenScope → ℕ → Forest → Type 0
  ClauseFact p None n f = is kind.CatchClause p.node ≡ true → (p.node.children ≡ f) × (ends_with_block f ≡ true)
  ClauseFact p (Some s) n f = is kind.CatchClause p.node ≡ true → has_role (role.Body ∷ []) f ≡ true → (s.body ≡ body_number n f) × (ends_with_block f ≡ true)

  abbrev pub OwnIn : Option OpenScope → Type 0
  OwnIn None = Unit {0}
  OwnIn (Some s) = InTable s

  -- a clause's scope is open at each of its children
  clause_is_open : (p : Place) (r : Role) (own : Option OpenScope) (n : ℕ) → is kind.CatchClause p.node ≡ true → scope_at p r own n ≡ None → ⊥
  clause_is_open p r (Some s) n h e = absurd cc
  clause_is_open p r None n h e =
      let q : Some (opened_scope p n) ≡ None = subst (λ k. cond (is_inside k r) (Some (opened_scope p n)) None ≡ None) (kind_is p.node.kind kind.CatchClause h) e in absurd cc

  -- what opening at a child gives
  own_in : (p : Place) (r : Role) (own : Option OpenScope) (n : ℕ) → OwnIn own → OpenedFrom HasBody n (opening_at p r own n) → OwnIn (scope_at p r own n)
  own_in p r (Some s) n h b = h
  own_in p r None n h b = go (is_inside p.node.kind r) b
    where
      go : (t : Bool) → OpenedFrom HasBody n (cond t (opening p (opened_scope p n) ∷ []) []) → OwnIn (cond t (Some (opened_scope p n)) None)
      go true q = opened_in p n q.0
      go false q = tt

  opening_in : (p : Place) (r : Role) (own : Option OpenScope) (n : ℕ) → AllInTable p.chain → BodyFact p own n → OpenedFrom HasBody n (opening_at p r own n) → AllStepsIn (opening_at p r own n)
  opening_in p r (Some s) n a f b = tt
  opening_in p r None n a f b = go (is_inside p.node.kind r) b
    where
      go : (t : Bool) → OpenedFrom HasBody n (cond t (opening p (opened_scope p n) ∷ []) []) → AllStepsIn (cond t (opening p (opened_scope p n) ∷ []) [])
      go true q = ((a, opened_in p n q.0, f, no_body p n), tt)
      go false q = tt

  opening_last_in : (p : Place) (own : Option OpenScope) (n : ℕ) → AllInTable p.chain → BodyFact p own n → OpenedFrom HasBody n (opening_last p own n) → AllStepsIn (opening_last p own n)
  opening_last_in p (Some s) n a f b = tt
  opening_last_in p None n a f b = go (opens p.node.kind) b
    where
      go : (t : Bool) → OpenedFrom HasBody n (cond t (opening p (opened_scope p n) ∷ closing p (opened_scope p n) ∷ []) []) → AllStepsIn (cond t (opening p (opened_scope p n) ∷ closing p (opened_scope p n) ∷ []) [])
      go true q = ((a, opened_in p n q.0, f, no_body p n), (tt, tt))
      go false q = tt

  ending_in : (p : Place) (r : Role) (own : Option OpenScope) (after : Forest) → AllStepsIn (ending_after p r own after)
  ending_in p r own after = ending_case AllStepsIn p r own after tt (λ s. (tt, tt)) (λ s. (tt, tt)) (λ s. (tt, (tt, tt)))

  -- a body that is still to open is not passed
  body_kept : (p : Place) (r : Role) (own : Option OpenScope) (n m : ℕ) → BodyFact p own n → BodyFact p (scope_at p r own n) m
  body_kept p r (Some s) n m f = tt
  body_kept p r None n m f = go (is_inside p.node.kind r) refl
    where
      go : (t : Bool) → is_inside p.node.kind r ≡ t → BodyFact p (cond t (Some (opened_scope p n)) None) m
      go true e = tt
      go false e = λ h. (let q : true ≡ false = subst (λ k. is_inside k r ≡ false) (block_is p h) e in absurd cc)

  -- the clause's body is what its scope tells, once that is open
  clause_opened : (p : Place) (r : Role) (own : Option OpenScope) (n : ℕ) (f : Forest) → ClauseFact p own n f → ClauseFact p (scope_at p r own n) (next_at p r own n) f
  clause_opened p r (Some s) n f c = c
  clause_opened p r None n f c = go (is_inside p.node.kind r)
    where
      go : (t : Bool) → ClauseFact p (cond t (Some (opened_scope p n)) None) (cond t (suc n) n) f
      go true = λ h k. (let q : (p.node.children ≡ f) × (ends_with_block f ≡ true) = c h in (rw (h, q.0) refl, q.1))
      go false = c

  or_second : (a b : Bool) → b ≡ true → (a || b) ≡ true
  or_second true b h = refl
  or_second false b h = h

  or_first : (a b : Bool) → a ≡ true → (a || b) ≡ true
  or_first a b h = rw h refl

  clause_passed : (p : Place) (own : Option OpenScope) (n : ℕ) (r : Role) (node : Node) (after : Forest) → (is kind.CatchClause p.node ≡ true → own ≡ None → ⊥) → ClauseFact p own n (tree r node.kind node.span node.text node.marks node.children node.node_id after) → ClauseFact p own (n + cond (opens node.kind) 1 0 + scopes_in node.children) after
  clause_passed p None n r node after is_open c = λ h. absurd (is_open h refl)
  clause_passed p (Some s) n r node after is_open c = λ h k.
      let q : (s.body ≡ body_number n (tree r node.kind node.span node.text node.marks node.children node.node_id after)) × (ends_with_block (tree r node.kind node.span node.text node.marks node.children node.node_id after) ≡ true) =
      c h (or_second (same_role r role.Body || false) (has_role (role.Body ∷ []) after) k) in
      elim (cases_Bool (same_role r role.Body)) [
        | inl e ↦ (let w : false ≡ true = sym (nothing_follows r node.kind after e q.1) ∙ k in absurd cc)
        | inr e ↦ (rw e at q.0, later_ends r node.kind after e q.1)
      ]

  -- a block under a clause is the body that the clause's scope tells
  child_body : (p : Place) (own : Option OpenScope) (n cursor : ℕ) (r : Role) (node : Node) (after : Forest) → (is kind.CatchClause p.node ≡ true → own ≡ None → ⊥) → OwnIn own → ClauseFact p own n (tree r node.kind node.span node.text node.marks node.children node.node_id after) → IsBodyOf (child_place p own cursor r node) n
  child_body p None n cursor r node after is_open o c = λ h. absurd (is_open (and_second (is kind.BlockStatement node && same_role r role.Body) (is kind.CatchClause p.node) h) refl)
  child_body p (Some s) n cursor r node after is_open o c = λ h.
      let catch : is kind.CatchClause p.node ≡ true = and_second (is kind.BlockStatement node && same_role r role.Body) (is kind.CatchClause p.node) h in
      let body : same_role r role.Body ≡ true = and_second (is kind.BlockStatement node) (same_role r role.Body) (and_first (is kind.BlockStatement node && same_role r role.Body) (is kind.CatchClause p.node) h) in
      let q : (s.body ≡ body_number n (tree r node.kind node.span node.text node.marks node.children node.node_id after)) × (ends_with_block (tree r node.kind node.span node.text node.marks node.children node.node_id after) ≡ true) =
      c catch (or_first (same_role r role.Body || false) (has_role (role.Body ∷ []) after) (or_first (same_role r role.Body) false body)) in
      let b : s.body ≡ Some n = rw body at q.0 in
      rw (kind_is p.node.kind kind.CatchClause catch) (o.entry ∙ ap Some b)

  outside_in : (ss : List OpenScope) → AllInTable ss → AllInTable (outside ss)
  outside_in [] h = tt
  outside_in (s ∷ ss) h = h.1

  within_in : (p : Place) (r : Role) (own : Option OpenScope) → AllInTable p.chain → OwnIn own → AllInTable (child_scopes p r own)
  within_in p r None a o = a
  within_in p r (Some s) a o = go (is_inside p.node.kind r)
    where
      go : (t : Bool) → AllInTable (cond t (record s { in_header = is_in_header p.node.kind r } ∷ p.chain) p.chain)
      go true = (record { entry = o.entry; clause = o.clause; plain = o.plain }, a)
      go false = a

  child_chain_in : (p : Place) (own : Option OpenScope) (cursor : ℕ) (r : Role) (node : Node) → AllInTable p.chain → OwnIn own → AllInTable (child_place p own cursor r node).chain
  child_chain_in p own cursor r node a o = go (is_parameter_decorator p.node.kind r)
    where
      go : (t : Bool) → AllInTable (cond t (outside p.chain) (child_scopes p r own))
      go true = outside_in p.chain a
      go false = within_in p r own a o

  -- a clause at the start of its children
  clause_starts : (k : AstType) (below : Forest) → cond (same_kind k kind.CatchClause) (ends_with_block below) true ≡ true → same_kind k kind.CatchClause ≡ true → (below ≡ below) × (ends_with_block below ≡ true)
  clause_starts k below h e = (refl, rw e at h)

  -- every place and every scope of the steps stand in the table
  pub in_steps : (p : Place) (own : Option OpenScope) (n cursor : ℕ) (f : Forest) → AllInTable p.chain → OwnIn own → BodyFact p own n → ClauseFact p own n f → clauses_end f ≡ true → OpenedFrom HasBody n (steps_below p own n cursor f) → AllStepsIn (steps_below p own n cursor f)
  in_steps p own n cursor nothing a o f c e b = opening_last_in p own n a f b
  in_steps p own n cursor (tree r k span text marks below id after) a o f c e b =
      let node : Node = record { kind = k; span = span; text = text; marks = marks; children = below; node_id = id } in
      let turn : Turn = turn_at p own n cursor r node after in
      let bodies : OpenedRound HasBody n turn = opened_round HasBody p own n cursor r node after b in
      let o_scope : OwnIn turn.scope = own_in p r own n o bodies.before in
      let c_scope : ClauseFact p turn.scope turn.next (tree r k span text marks below id after) = clause_opened p r own n (tree r k span text marks below id after) c in
      let e_parts : (clauses_end below && clauses_end after) ≡ true = and_second (cond (same_kind k kind.CatchClause) (ends_with_block below) true) (clauses_end below && clauses_end after) e in
      let chain_in : AllInTable turn.child.chain = child_chain_in p turn.scope cursor r node a o_scope in
      each_of_turn IsStepIn turn (record {
        before = opening_in p r own n a f bodies.before;
        whole = each_of_node IsStepIn turn.child turn.below chain_in
            (in_steps turn.child None turn.next turn.inner below chain_in tt
            (child_body p turn.scope turn.next cursor r node after (clause_is_open p r own n) o_scope c_scope)
            (clause_starts k below (and_first (cond (same_kind k kind.CatchClause) (ends_with_block below) true) (clauses_end below && clauses_end after) e))
            (and_first (clauses_end below) (clauses_end after) e_parts) bodies.below)
            tt;
        behind = ending_in p r turn.scope after;
        others = in_steps p turn.scope turn.rest turn.past after a o_scope (body_kept p r own n turn.rest f)
            (clause_passed p turn.scope turn.next r node after (clause_is_open p r own n) c_scope)
            (and_second (clauses_end below) (clauses_end after) e_parts) bodies.others;
      })
