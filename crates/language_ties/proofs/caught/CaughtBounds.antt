-- A declaration whose scope is taken over is of a catch clause, and the scope that takes it over is that of the clause's block.
use Rattle.std.proofs.Common.{◌≡◌, ℕ, List, ◌∷◌, Option, Some, None, true, false, ◌&&◌, inl, inr, ◌⊎◌, refl, sym, ap, subst, ◌∙◌}
use Rattle.std.specs.Prelude.{slice_get}
use Rattle.semantic_kinds.specs.Kinds.{same_kind}
use Rattle.semantic_kinds.specs.Roles.{same_role}
use Rattle.semantic_kinds.specs.declared.kind.AstType.TheVariants as kind
use Rattle.semantic_kinds.specs.declared.role.Role.TheVariants as role
use Rattle.semantic_syntax.specs.Tables.{Name}
use Rattle.semantic_tree.specs.Faults.{first_fault}
use Rattle.semantic_tree.specs.Tree.{Tree, IsNumbered}
use Rattle.semantic_tree.specs.Views.{is}
use Rattle.semantic_tree.specs.declared.node.Node.{Node}
use Rattle.semantic_model.specs.Declaration.{home, body_or}
use Rattle.semantic_model.specs.Entries.{Among}
use Rattle.semantic_model.specs.Event.{is_catch_body}
use Rattle.semantic_model.specs.Place.{Place, OpenScope, innermost, parent_holds}
use Rattle.semantic_model.specs.Step.{entering, steps}
use Rattle.semantic_model.proofs.fold.BodyChains.{InTable, AllInTable, IsStepIn}
use Rattle.semantic_model.proofs.fold.Orders.{table_of, steps_in}
use Rattle.semantic_model.proofs.form.Shape.{has_form}
use Rattle.binding_laws.proofs.EnteredOnce.{entered_once}
use Rattle.binding_laws.proofs.ListLaws.{each_at}
use Rattle.binding_laws.proofs.ScopeOpeners.{openers, IsOpened, AllOpened, IsPlaceOpened, places_opened, one_scope}
use Rattle.binding_laws.proofs.SmallLaws.{some_is, never}
use Rattle.language_ties.specs.AgreeingNames.{IsPlainName}
use Rattle.language_ties.specs.Bound.{Bound}
use Rattle.language_ties.specs.EcmaScript.{is_ecmascript}
use Rattle.language_ties.proofs.agree.KnownBounds.{KnownBound}
use Rattle.language_ties.proofs.agree.KnownNodes.{node_at}
use Rattle.language_ties.proofs.caught.BodyPlaces.{IsBodyPlace, body_place, block_takes}
use Rattle.language_ties.proofs.caught.ClausePlaces.{IsClauseBody, ClausalAt, clausal_program}
use Rattle.language_ties.proofs.own_names.AnyBounds.{AnyBound, IsDeclared, is_declared, declared_known, declared_own}

none_is : (n : ℕ) → None ≡ Some n → ⊥
none_is n h = absurd cc

-- the block of the clause that makes the environment, which opens the scope of that number
pub record IsTakenBy (p : Tree) (b : Bound) (body : ℕ) : Type 0 where
  pub place : Place
  pub entered : Among (entering place) (steps p)
  pub is_body : is_catch_body place ≡ true
  pub opened : slice_get (openers (steps p)) body ≡ Some place.node.node_id
  pub clause : IsClauseBody place
  pub takes : clause.clause.body ≡ Some body
  pub maker : clause.parent.node_id ≡ b.environment.maker

module _ (p : Tree) (h : first_fault p ≡ None) (e : is_ecmascript p ≡ true) (numbered : IsNumbered p.root) (x : Name) (plain : IsPlainName p x) where
  abbrev Target : (b : Bound) → KnownBound p h e numbered x plain b → OpenScope
  Target b k = k.declares.declaration.route.target

  module _ (b : Bound) (k : KnownBound p h e numbered x plain b) (n : ℕ) (q : (Target b k).body ≡ Some n) where
    inner : Target b k ≡ innermost k.declares.place.chain
    inner = k.declares.bodied n q

    -- the block that takes its scope over
    taker : IsBodyPlace p (innermost k.declares.place.chain).number n
    taker = body_place p h k.declares.place k.declares.entered n (ap (λ s. s.body) (sym inner) ∙ q) (subst (λ (s : OpenScope). slice_get (table_of p) s.number ≡ Some (Some n)) inner (k.declares.entry ∙ ap Some q))

    clause : IsClauseBody taker.place
    clause = (each_at (ClausalAt (node_at p)) (steps p) (entering taker.place) (clausal_program p h e numbered) taker.entered).body taker.is_body

    number : (Target b k).number ≡ clause.clause.number
    number = ap (λ s. s.number) inner ∙ sym taker.number ∙ ap (λ c. (innermost c).number) clause.chain

    opened : IsOpened (openers (steps p)) clause.clause
    opened = (subst (AllOpened (openers (steps p))) clause.chain (each_at (IsPlaceOpened (openers (steps p))) (steps p) (entering taker.place) (places_opened p) taker.entered)).0

    in_table : InTable (table_of p) clause.clause
    in_table = (subst (AllInTable (table_of p)) clause.chain (each_at (IsStepIn (table_of p)) (steps p) (entering taker.place) (steps_in p (has_form p h)) taker.entered)).0

    known_taken : IsTakenBy p b n
    known_taken = record {
      place = taker.place;
      entered = taker.entered;
      is_body = taker.is_body;
      opened = taker.opened;
      clause = clause;
      takes = some_is clause.clause.body (Some n) (sym in_table.entry ∙ ap (slice_get (table_of p)) (sym number) ∙ k.declares.entry ∙ ap Some q);
      maker = sym clause.opener ∙ sym (some_is (Target b k).opener clause.clause.opener (sym k.declares.opened ∙ ap (slice_get (openers (steps p))) number ∙ opened)) ∙ k.declares.maker;
    }

  pub taken_by : (b : Bound) (v : AnyBound p h e numbered x plain b) (n : ℕ) → (is_declared p h e numbered x plain b v).declaration.route.target.body ≡ Some n → IsTakenBy p b n
  taken_by b (inl k) n q = known_taken b k n (ap (λ d. d.route.target.body) (sym (declared_known p h e numbered x plain b k)) ∙ q)
  taken_by b (inr o) n q = absurd (none_is n (sym o.bodiless ∙ ap (λ s. s.body) (sym o.target) ∙ ap (λ d. d.route.target.body) (sym (declared_own p h e numbered x plain b o)) ∙ q))

  -- what is bound at its home in a scope is bound by the scope's opener, or by the clause whose body it is
  pub made_where : (b : Bound) (v : AnyBound p h e numbered x plain b) (s : OpenScope) → IsOpened (openers (steps p)) s → home (is_declared p h e numbered x plain b v).declaration ≡ s.number → (b.environment.maker ≡ s.opener) ⊎ IsTakenBy p b s.number
  made_where b v s o q = go k.declaration.route.target.body refl
    where
      k : IsDeclared p h e numbered x plain b
      k = is_declared p h e numbered x plain b v

      go : (t : Option ℕ) → k.declaration.route.target.body ≡ t → (b.environment.maker ≡ s.opener) ⊎ IsTakenBy p b s.number
      go None w =
          let number : k.declaration.route.target.number ≡ s.number = sym (ap (body_or k.declaration.route.target.number) w) ∙ q in
          inl (sym k.maker ∙ some_is k.declaration.route.target.opener s.opener (sym k.opened ∙ ap (slice_get (openers (steps p))) number ∙ o))
      go (Some c) w = inr (subst (IsTakenBy p b) (sym (ap (body_or k.declaration.route.target.number) w) ∙ q) (taken_by b v c w))

-- ---- which scopes are those of clauses' blocks

-- only a block is the body of a clause
pub no_block : (q : Place) → same_kind q.node.kind kind.BlockStatement ≡ false → is_catch_body q ≡ false
no_block q h = ap (λ t. (t && same_role q.role role.Body) && parent_holds (is kind.CatchClause) q.path) h

-- the scope of another node takes no clause over
pub not_taken : (p : Tree) → IsNumbered p.root → (q : Place) → Among (entering q) (steps p) → is_catch_body q ≡ false → (s : OpenScope) → IsOpened (openers (steps p)) s → s.opener ≡ q.node.node_id → (b : Bound) → IsTakenBy p b s.number → ⊥
not_taken p numbered q a n s o opener b t =
    let node : t.place.node.node_id ≡ q.node.node_id = some_is t.place.node.node_id q.node.node_id (sym t.opened ∙ o ∙ ap Some opener) in
    let same : t.place ≡ q = entered_once p numbered t.place q t.entered a node in
    never (sym t.is_body ∙ ap is_catch_body same ∙ n)

-- ---- the block of a clause

parents_are : (y z : Node) (ys zs : List Node) → y ∷ ys ≡ z ∷ zs → y ≡ z
parents_are y z ys zs h = cc

module _ (p : Tree) (h : first_fault p ≡ None) (e : is_ecmascript p ≡ true) (numbered : IsNumbered p.root) (x : Name) (plain : IsPlainName p x)
    (q : Place) (entered : Among (entering q) (steps p)) (closed : is_catch_body q ≡ true) (clause : IsClauseBody q) (s : OpenScope) (o : IsOpened (openers (steps p)) s) (opener : s.opener ≡ q.node.node_id) where
  -- what it takes over is bound by its clause
  pub of_clause : (b : Bound) → IsTakenBy p b s.number → b.environment.maker ≡ clause.parent.node_id
  of_clause b t =
      let node : t.place.node.node_id ≡ q.node.node_id = some_is t.place.node.node_id q.node.node_id (sym t.opened ∙ o ∙ ap Some opener) in
      let same : t.place ≡ q = entered_once p numbered t.place q t.entered entered node in
      let parents : t.clause.parent ≡ clause.parent = parents_are t.clause.parent clause.parent t.clause.path clause.path (sym t.clause.under ∙ ap (λ z. z.path) same ∙ clause.under) in
      sym t.maker ∙ ap (λ z. z.node_id) parents

  clause_opened : IsOpened (openers (steps p)) clause.clause
  clause_opened = (subst (AllOpened (openers (steps p))) clause.chain (each_at (IsPlaceOpened (openers (steps p))) (steps p) (entering q) (places_opened p) entered)).0

  -- and it takes over what its clause binds
  pub taken_into : (b : Bound) (k : KnownBound p h e numbered x plain b) → b.environment.maker ≡ clause.parent.node_id → k.declares.declaration.route.target.body ≡ Some s.number
  taken_into b k maker =
      let target : OpenScope = k.declares.declaration.route.target in
      let number : target.number ≡ clause.clause.number = one_scope p numbered target clause.clause k.declares.opened clause_opened (k.declares.maker ∙ maker ∙ sym clause.opener) in
      some_is target.body (Some s.number) (sym k.declares.entry ∙ ap (slice_get (table_of p)) number ∙ block_takes p h numbered q entered closed clause s o opener)
