-- In the block of a catch clause, whose scope takes over that of the clause, tables and language agree where they do round the clause.
use Rattle.std.proofs.Common.{◌≡◌, ℕ, List, ◌∷◌, ◌++◌, Option, Some, None, true, false, refl, sym, ap, subst, ◌∙◌, bytes_eq, codes}
use Rattle.std.specs.Prelude.{slice_get}
use Rattle.semantic_kinds.specs.declared.kind.AstType.TheVariants as kind
use Rattle.semantic_syntax.specs.Tables.{Name}
use Rattle.semantic_tree.specs.Faults.{first_fault}
use Rattle.semantic_tree.specs.Tree.{Tree, IsNumbered}
use Rattle.semantic_tree.specs.Views.{is}
use Rattle.semantic_model.specs.Binding.{get}
use Rattle.semantic_model.specs.Event.{Event, declarations, events, is_catch_body}
use Rattle.semantic_model.specs.Fold.{State, start, or_else}
use Rattle.semantic_model.specs.Hoist.{run}
use Rattle.semantic_model.specs.Inside.{is_inside, is_in_header}
use Rattle.semantic_model.specs.Place.{Place, OpenScope, outside}
use Rattle.semantic_model.specs.Step.{steps}
use Rattle.semantic_model.specs.Tie.{view, view_by}
use Rattle.semantic_model.proofs.fold.BodyChains.{AllInTable}
use Rattle.semantic_model.proofs.fold.Orders.{table_of}
use Rattle.semantic_model.proofs.form.Clauses.{kind_is}
use Rattle.binding_laws.proofs.ChildChains.{ChainOf, outer_chain, inner_chain}
use Rattle.binding_laws.proofs.ScopeOpeners.{openers, IsOpened, AllOpened}
use Rattle.binding_laws.proofs.SmallLaws.{never}
use Rattle.language_ties.specs.AgreeingNames.{IsPlainName, StandsInExpressions}
use Rattle.language_ties.specs.Bound.{Bound}
use Rattle.language_ties.specs.EcmaScript.{is_ecmascript}
use Rattle.language_ties.specs.Environments.{Environment, made_by, environments}
use Rattle.language_ties.specs.Meaning.{meaning_past_objects as meaning}
use Rattle.language_ties.specs.NearestScopes.{nearest_symbol}
use Rattle.language_ties.specs.SharedSymbols.{AllKeepClear}
use Rattle.language_ties.specs.declared.environment_kind.EnvironmentKind.TheVariants as environment
use Rattle.language_ties.proofs.agree.FamiliarPlaces.{AllKnown}
use Rattle.language_ties.proofs.agree.KnownNodes.{node_at}
use Rattle.language_ties.proofs.caught.BodyPlaces.{block_takes}
use Rattle.language_ties.proofs.caught.CaughtBounds.{of_clause, taken_into}
use Rattle.language_ties.proofs.caught.ClausePlaces.{IsClauseBody, body_kind}
use Rattle.language_ties.proofs.moved.Settled.{settled_bounds, bound_as_settled}
use Rattle.language_ties.proofs.shared.HomesShared.{none_in_clause}
use Rattle.language_ties.proofs.agree.ScopeAnswers.{clause_block}
use Rattle.language_ties.proofs.agree.PlaceAgreement.{outside_innermost, Matches, Agrees, AgreesRound}
use Rattle.language_ties.proofs.agree.SeenPlaces.{IsSeen}

module _ (p : Tree) (h : first_fault p ≡ None) (e : is_ecmascript p ≡ true) (numbered : IsNumbered p.root) (x : Name) (not_arguments : bytes_eq x (codes "arguments") ≡ false) (clear : AllKeepClear x (declarations (events (steps p)))) (plain : IsPlainName p x) where
  abbrev es : List Event
  es = events (steps p)

  abbrev final : State
  final = run start es

  abbrev ws : List Bound
  ws = settled_bounds p

  abbrev bs : List Bound
  bs = bound_as_settled p

  module _ (q c : Place) (round : AgreesRound p x q) (closed : is_catch_body q ≡ true) (seen : IsSeen p q) (seen_child : IsSeen p c) (path : c.path ≡ q.node ∷ q.path) where
    clause : IsClauseBody q
    clause = seen.clausal.body closed

    abbrev Further : List Environment
    Further = environments clause.parent clause.path

    block : q.node.kind ≡ kind.BlockStatement
    block = body_kind q closed

    block_environments : environments c.node c.path ≡ record { kind = environment.Block; maker = q.node.node_id } ∷ record { kind = environment.Catch; maker = clause.parent.node_id } ∷ Further
    block_environments =
        ap (environments c.node) path
        ∙ ap (λ k. made_by k q.node c.node ++ environments q.node q.path) block
        ∙ ap (λ l. record { kind = environment.Block; maker = q.node.node_id } ∷ environments q.node l) clause.under
        ∙ ap (λ k. record { kind = environment.Block; maker = q.node.node_id } ∷ (made_by k clause.parent q.node ++ Further)) clause.caught

    round_environments : outside_innermost (environments q.node q.path) ≡ Further
    round_environments =
        ap (λ l. outside_innermost (environments q.node l)) clause.under
        ∙ ap (λ k. outside_innermost (made_by k clause.parent q.node ++ Further)) clause.caught

    abbrev R : Option ℕ
    R = nearest_symbol final es x clause.round

    round_agrees : StandsInExpressions ws x c.node c.path → Matches p R (meaning bs Further x)
    round_agrees i =
        subst (λ ds. Matches p R (meaning bs ds x)) round_environments (subst (λ l. Matches p (nearest_symbol final es x (outside l)) (meaning bs (outside_innermost (environments q.node q.path)) x)) clause.chain (round (subst (StandsInExpressions ws x c.node) path i).1))

    -- the clause's scope binds nothing in the end
    clause_entry : slice_get (table_of p) clause.clause.number ≡ Some clause.clause.body
    clause_entry = (subst (AllInTable (table_of p)) clause.chain seen.in_table).0.entry

    viewed : (s : OpenScope) → s.in_header ≡ false → get (view final es s).bindings s.number x ≡ get final.bindings s.number x
    viewed s v = ap (λ b. get (view_by b final es s.number).bindings s.number x) v

    block_agrees : (s : OpenScope) → s.opener ≡ q.node.node_id → s.in_header ≡ is_in_header q.node.kind c.role → c.chain ≡ s ∷ q.chain → Agrees p x c
    block_agrees s o header chain i =
        subst (λ n. Matches p n (meaning bs (environments c.node c.path) x)) (sym nearest) (subst (λ ds. Matches p (or_else (get final.bindings s.number x) R) (meaning bs ds x)) (sym block_environments)
        (clause_block p h e numbered x not_arguments clear plain s s_opened s_entry q.node o seen.familiar.node clause.parent clause.caught parent_found block
        (of_clause p h e numbered x plain q seen.entered closed clause s s_opened o) (taken_into p h e numbered x plain q seen.entered closed clause s s_opened o) R Further (round_agrees i)))
      where
        s_opened : IsOpened (openers (steps p)) s
        s_opened = (subst (AllOpened (openers (steps p))) chain seen_child.opened).0

        s_entry : slice_get (table_of p) s.number ≡ Some s.body
        s_entry = (subst (AllInTable (table_of p)) chain seen_child.in_table).0.entry

        parent_found : node_at p clause.parent.node_id ≡ Some clause.parent
        parent_found = (subst (AllKnown (node_at p)) clause.under seen.familiar.path).0

        gone : get final.bindings clause.clause.number x ≡ None
        gone = go (get final.bindings clause.clause.number x) refl
          where
            go : (t : Option ℕ) → get final.bindings clause.clause.number x ≡ t → get final.bindings clause.clause.number x ≡ None
            go None g = g
            go (Some y) g = absurd (none_in_clause p h e x clear clause.clause.number s.number y (block_takes p h numbered q seen.entered closed clause s s_opened o) g)

        nearest : nearest_symbol final es x c.chain ≡ or_else (get final.bindings s.number x) R
        nearest =
            ap (nearest_symbol final es x) (chain ∙ ap (λ l. s ∷ l) clause.chain)
            ∙ ap (λ t. or_else t (or_else (get (view final es clause.clause).bindings clause.clause.number x) R)) (viewed s (header ∙ ap (λ k. is_in_header k c.role) block))
            ∙ ap (λ t. or_else (get final.bindings s.number x) (or_else t R)) (viewed clause.clause clause.header ∙ gone)

    pub body_agrees : ChainOf q.node.kind c.role q.node q.chain c.chain → Agrees p x c
    body_agrees t = go c.chain refl t
      where
        go : (chain : List OpenScope) → c.chain ≡ chain → ChainOf q.node.kind c.role q.node q.chain chain → Agrees p x c
        go _ v (outer_chain i) = absurd (never (subst (λ a. is_inside a c.role ≡ false) block i))
        go _ v (inner_chain s i o j _) = block_agrees s o j v

  -- the body of a clause stands round which the clause does
  pub round_child : (q c : Place) → Agrees p x q → (body : IsClauseBody c) → c.path ≡ q.node ∷ q.path → c.chain ≡ body.clause ∷ q.chain → is kind.CatchClause q.node ≡ true → AgreesRound p x c
  round_child q c agree body path chain k i =
      let environments_are : outside_innermost (environments c.node c.path) ≡ environments q.node q.path =
      ap (λ l. outside_innermost (environments c.node l)) path ∙ ap (λ a. outside_innermost (made_by a q.node c.node ++ environments q.node q.path)) (kind_is q.node.kind kind.CatchClause k) in
      subst (λ l. Matches p (nearest_symbol final es x (outside l)) (meaning bs (outside_innermost (environments c.node c.path)) x)) (sym chain)
      (subst (λ ds. Matches p (nearest_symbol final es x q.chain) (meaning bs ds x)) (sym environments_are) (agree (subst (StandsInExpressions ws x c.node) path i).1))
