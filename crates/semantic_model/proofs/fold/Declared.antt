-- The declarations and events of a program stand in the table of bodies.
use Rattle.std.proofs.Common.{◌≡◌, ℕ, List, [], ◌∷◌, ◌++◌, Option, Some, None, Bool, true, false, cond, ◌&&◌, ◌||◌, not, refl, sym, ap, subst, ◌∙◌, flat_map, if◌then◌else◌}
use Rattle.std.specs.Prelude.{slice_get}
use Rattle.semantic_tree.specs.declared.node.Node.{Node}
use Rattle.semantic_kinds.specs.Kinds.{same_kind}
use Rattle.semantic_kinds.specs.declared.kind.AstType.{AstType}
use Rattle.semantic_kinds.specs.declared.kind.AstType.TheVariants as kind
use Rattle.semantic_syntax.specs.SourceTypes.{is_typescript}
use Rattle.semantic_syntax.proofs.Truth.{and_second}
use Rattle.semantic_model.specs.Place.{Place, OpenScope, innermost, outside, is_strict}
use Rattle.semantic_model.specs.Declaration.{How, plain, hoisted, moved, caught, Declaration, Route, here, passed_before, first_with, route_from, outward_to, outward_past, scope_it_stands_in}
use Rattle.semantic_model.specs.Binder.{BinderRow, declaration_at, is_var, is_clause, is_conditional, is_special, is_block_function, declared_by, declared_on_entering, declared_inside, declared_on_opening}
use Rattle.semantic_model.specs.Event.{Event, declares, takes_over, ends_header, is_barred, staying_declaration, placed_by, is_catch_body, taken_over, declares_all, events_of}
use Rattle.semantic_model.specs.Step.{Step, entering, opening, header_ending, closing, leaving}
use Rattle.semantic_model.proofs.fold.Actions.{StandsInBlock}
use Rattle.semantic_model.proofs.fold.EachDeclared.{EachDeclared, each_on_entering, each_on_opening}
use Rattle.semantic_model.proofs.fold.BodyChains.{InTable, AllInTable, IsStepIn, AllStepsIn, block_is}

module _ (table : List (Option ℕ)) (root : slice_get table 0 ≡ Some None) where
  -- the target and the passed scopes stand in the table
  pub record IsDeclaredIn (d : Declaration) : Type 0 where
    pub target : InTable table d.route.target
    pub passed : AllInTable table d.route.passed
    pub block : StandsInBlock table d.how d

  abbrev pub AllDeclared : List Declaration → Type 0
  AllDeclared = EachDeclared IsDeclaredIn

  innermost_in : (chain : List OpenScope) → AllInTable table chain → InTable table (innermost chain)
  innermost_in [] h = record { entry = root; clause = λ e. refl; plain = λ b q. absurd cc }
  innermost_in (s ∷ ss) h = h.0

  -- a route through the table; a block function begins in a scope without a body
  abbrev Begins : How → Route → Type 0
  Begins moved r = slice_get table (innermost (r.passed ++ r.target ∷ [])).number ≡ Some None
  Begins _ r = Unit {0}

  record IsRouteIn (how : How) (r : Route) : Type 0 where
    target : InTable table r.target
    passed : AllInTable table r.passed
    begins : Begins how r

  stands : (how : How) (d : Declaration) → Begins how d.route → StandsInBlock table how d
  stands plain d b = tt
  stands hoisted d b = tt
  stands caught d b = tt
  stands moved d b = b

  name_in : (node : Node) (row : BinderRow) (is_pure : Bool) (name : Node) → IsRouteIn row.how row.route → IsDeclaredIn (declaration_at node row is_pure name)
  name_in node row is_pure x h = record { target = h.target; passed = h.passed; block = stands row.how (declaration_at node row is_pure x) h.begins }

  here_in : (chain : List OpenScope) → AllInTable table chain → IsRouteIn plain (here chain)
  here_in chain h = record { target = innermost_in chain h; passed = tt; begins = tt }

  before_in : (test : OpenScope → Bool) (chain : List OpenScope) → AllInTable table chain → AllInTable table (passed_before test chain)
  before_in test [] h = tt
  before_in test (s ∷ ss) h = go (test s) (before_in test ss h.1)
    where
      go : (b : Bool) → AllInTable table (passed_before test ss) → AllInTable table (cond b [] (s ∷ passed_before test ss))
      go true k = tt
      go false k = (h.0, k)

  abbrev OptionIn : Option OpenScope → Type 0
  OptionIn None = Unit {0}
  OptionIn (Some s) = InTable table s

  first_in : (test : OpenScope → Bool) (chain : List OpenScope) → AllInTable table chain → OptionIn (first_with test chain)
  first_in test [] h = tt
  first_in test (s ∷ ss) h = go (test s) (first_in test ss h.1)
    where
      go : (b : Bool) → OptionIn (first_with test ss) → OptionIn (cond b (Some s) (first_with test ss))
      go true k = h.0
      go false k = k

  record RouteParts (r : Route) : Type 0 where
    target : InTable table r.target
    passed : AllInTable table r.passed

  from_in : (chain passed : List OpenScope) (o : Option OpenScope) → AllInTable table chain → AllInTable table passed → OptionIn o → RouteParts (route_from chain passed o)
  from_in chain passed None h p k = record { target = innermost_in chain h; passed = tt }
  from_in chain passed (Some s) h p k = record { target = k; passed = p }

  outward_in : (test : OpenScope → Bool) (chain : List OpenScope) → AllInTable table chain → RouteParts (outward_to test chain)
  outward_in test chain h = from_in chain (passed_before test chain) (first_with test chain) h (before_in test chain h) (first_in test chain h)

  -- no statement stands in a clause's own scope, so a block function's scope has no body
  free_of_clause : (p : Place) → is_block_function p ≡ true → is_clause (innermost p.chain) ≡ false
  free_of_clause p h = go (is_var (innermost p.chain)) (is_clause (innermost p.chain)) (and_second (not (is_special p.node) && not (is_typescript p.source_type) && not (is_strict p.chain)) (not (is_var (innermost p.chain) || is_clause (innermost p.chain))) h)
    where
      go : (a b : Bool) → not (a || b) ≡ true → b ≡ false
      go true b k = absurd cc
      go false true k = absurd cc
      go false false k = refl

  past_in : (chain : List OpenScope) → is_clause (innermost chain) ≡ false → AllInTable table chain → IsRouteIn moved (outward_past is_var chain)
  past_in [] f h = record { target = innermost_in [] h; passed = tt; begins = root }
  past_in (s ∷ ss) f h = go (first_with is_var ss) (first_in is_var ss h.1)
    where
      go : (o : Option OpenScope) → OptionIn o → IsRouteIn moved (route_from (s ∷ ss) (s ∷ passed_before is_var ss) o)
      go None k = record { target = h.0; passed = tt; begins = h.0.entry ∙ ap Some (h.0.clause f) }
      go (Some t) k = record { target = k; passed = (h.0, before_in is_var ss h.1); begins = h.0.entry ∙ ap Some (h.0.clause f) }

  outward_ways : (test : OpenScope → Bool) (how : How) (p : Place) → AllInTable table p.chain → Begins how (outward_to test p.chain) → IsRouteIn how (outward_to test p.chain)
  outward_ways test how p h b = let r : RouteParts (outward_to test p.chain) = outward_in test p.chain h in record { target = r.target; passed = r.passed; begins = b }

  pub entering_in : (k : AstType) (p : Place) → AllInTable table p.chain → AllDeclared (declared_by k p)
  entering_in k p h = each_on_entering IsDeclaredIn IsRouteIn name_in k p (record {
    at_home = here_in p.chain h;
    when_caught = record { target = innermost_in p.chain h; passed = tt; begins = tt };
    when_hoisted = λ e. outward_ways is_var hoisted p h tt;
    when_moved = λ e s q. past_in p.chain (free_of_clause p q) h;
    when_inferred = outward_ways is_conditional plain p h tt;
  })

  pub inside_in : (k : AstType) (p : Place) (own : OpenScope) → InTable table own → AllDeclared (declared_inside k p own)
  inside_in k p own h = each_on_opening IsDeclaredIn IsRouteIn name_in k p own (λ e. record { target = h; passed = tt; begins = tt })

  pub stands_in_table : (passed : List OpenScope) (d : Declaration) → d.route.passed ≡ passed → IsDeclaredIn d → InTable table (scope_it_stands_in d)
  stands_in_table [] d e h = rw e h.target
  stands_in_table (s ∷ ss) d e h = let a : AllInTable table (s ∷ ss) = subst (AllInTable table) e h.passed in rw e a.0

  placed_in : (how : How) (ds : List Declaration) (d : Declaration) → IsDeclaredIn d → IsDeclaredIn (placed_by how ds d)
  placed_in plain ds d h = h
  placed_in hoisted ds d h = h
  placed_in caught ds d h = h
  placed_in moved ds d h = go (is_barred ds d (outside d.route.passed))
    where
      go : (b : Bool) → IsDeclaredIn (if b then staying_declaration d else d)
      go true = record { target = stands_in_table d.route.passed d refl h; passed = tt; block = tt }
      go false = h

  abbrev pub IsEventIn : Event → Type 0
  IsEventIn (declares d) = IsDeclaredIn d
  IsEventIn (takes_over c b) = (slice_get table c ≡ Some (Some b)) × (slice_get table b ≡ Some None)
  IsEventIn (ends_header c) = Unit {0}

  abbrev pub AllEventsIn : List Event → Type 0
  AllEventsIn [] = Unit {0}
  AllEventsIn (e ∷ es) = IsEventIn e × AllEventsIn es

  events_in-append : (es fs : List Event) → AllEventsIn es → AllEventsIn fs → AllEventsIn (es ++ fs)
  events_in-append [] fs h k = k
  events_in-append (e ∷ es) fs h k = (h.0, events_in-append es fs h.1 k)

  declares_in : (ds new : List Declaration) → AllDeclared new → AllEventsIn (declares_all ds new)
  declares_in ds [] h = tt
  declares_in ds (d ∷ more) h = (placed_in d.how ds d h.0, declares_in ds more h.1)

  taken_in : (p : Place) (s : OpenScope) → IsStepIn table (opening p s) → AllEventsIn (taken_over p s)
  taken_in p s h = go (is_catch_body p) refl
    where
      go : (b : Bool) → is_catch_body p ≡ b → AllEventsIn (cond b (takes_over (innermost p.chain).number s.number ∷ []) [])
      go true e = ((h.2 e, h.1.entry ∙ ap Some (h.3 (subst (λ k. same_kind k kind.CatchClause ≡ false) (sym (block_is table p e)) refl))), tt)
      go false e = tt

  step_events_in : (ds : List Declaration) (s : Step) → IsStepIn table s → AllEventsIn (events_of ds s)
  step_events_in ds (entering p) h = declares_in ds (declared_on_entering p) (entering_in p.node.kind p h)
  step_events_in ds (opening p s) h = events_in-append (taken_over p s) (declares_all ds (declared_on_opening p s)) (taken_in p s h) (declares_in ds (declared_on_opening p s) (inside_in p.node.kind p s h.1))
  step_events_in ds (header_ending p s) h = (tt, tt)
  step_events_in ds (closing p s) h = tt
  step_events_in ds (leaving p) h = tt

  pub all_events_in : (ds : List Declaration) (ss : List Step) → AllStepsIn table ss → AllEventsIn (flat_map (events_of ds) ss)
  all_events_in ds [] h = tt
  all_events_in ds (s ∷ ss) h = events_in-append (events_of ds s) (flat_map (events_of ds) ss) (step_events_in ds s h.0) (all_events_in ds ss h.1)
