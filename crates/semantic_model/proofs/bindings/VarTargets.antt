-- Where a `var` or a block function goes out: to the nearest var scope of each scope on the way, which has no body.
use Rattle.std.proofs.Common.{◌≡◌, ℕ, List, [], ◌∷◌, ◌++◌, Option, Some, None, Bool, true, false, cond, ◌&&◌, ◌||◌, not, refl, sym, ap, ◌∙◌, flat_map, if◌then◌else◌}
use Rattle.std.specs.Prelude.{slice_get}
use Rattle.semantic_kinds.specs.declared.kind.AstType.{AstType}
use Rattle.semantic_syntax.specs.SourceTypes.{is_typescript}
use Rattle.semantic_syntax.proofs.Truth.{and_second}
use Rattle.semantic_model.specs.Place.{Place, OpenScope, innermost, outside, is_strict}
use Rattle.semantic_model.specs.Declaration.{How, plain, hoisted, moved, caught, Declaration, Route, passed_before, first_with, route_from, outward_to, outward_past}
use Rattle.semantic_model.specs.Binder.{is_var, is_clause, is_special, is_block_function, declared_by, declared_on_entering, declared_inside, declared_on_opening}
use Rattle.semantic_model.specs.Event.{Event, declares, takes_over, ends_header, is_barred, staying_declaration, placed_by, is_catch_body, declares_all, events_of}
use Rattle.semantic_model.specs.Step.{Step, entering, opening, header_ending, closing, leaving}
use Rattle.semantic_model.proofs.fold.EachDeclared.{EachDeclared, each_on_entering, each_on_opening}
use Rattle.semantic_model.proofs.fold.BodyChains.{InTable, AllInTable, AllStepsIn}
use Rattle.semantic_model.proofs.bindings.NearestVar.{AllNear, AllPlacesNear}

module _ (v : ℕ → ℕ) (table : List (Option ℕ)) where
  -- t is the nearest var scope of c and of itself, and no clause's
  pub record Leads (c t : ℕ) : Type 0 where
    pub near : v c ≡ t
    pub itself : v t ≡ t
    pub lasts : slice_get table t ≡ Some None

  abbrev pub AllLead : List OpenScope → ℕ → Type 0
  AllLead [] t = Unit {0}
  AllLead (c ∷ cs) t = Leads c.number t × AllLead cs t

  -- what is passed on the way
  abbrev pub IsLed : How → Route → Type 0
  IsLed hoisted r = AllLead r.passed r.target.number
  IsLed moved r = Leads (innermost (r.passed ++ r.target ∷ [])).number r.target.number
  IsLed _ r = Unit {0}

  record Ends (t : ℕ) : Type 0 where
    itself : v t ≡ t
    lasts : slice_get table t ≡ Some None

  abbrev EndsAt : Option OpenScope → Type 0
  EndsAt None = Unit {0}
  EndsAt (Some t) = Ends t.number

  var_lasts : (s : OpenScope) (o : Option ℕ) → s.body ≡ o → is_var s ≡ true → InTable table s → slice_get table s.number ≡ Some None
  var_lasts s None b e h = h.entry ∙ ap Some b
  var_lasts s (Some n) b e h = let q : true ≡ false = sym e ∙ (h.plain n b).0 in absurd cc

  -- the first var scope of a chain
  ends_at : (chain : List OpenScope) → AllNear v chain → AllInTable table chain → EndsAt (first_with is_var chain)
  ends_at [] a h = tt
  ends_at (s ∷ ss) a h = go (is_var s) refl a.0 (ends_at ss a.1 h.1)
    where
      go : (b : Bool) → is_var s ≡ b → v s.number ≡ (route_from (s ∷ ss) (cond b [] (s ∷ passed_before is_var ss)) (cond b (Some s) (first_with is_var ss))).target.number → EndsAt (first_with is_var ss) → EndsAt (cond b (Some s) (first_with is_var ss))
      go true e q k = record { itself = q; lasts = var_lasts s s.body refl e h.0 }
      go false e q k = k

  passed_lead : (chain : List OpenScope) (t : OpenScope) → first_with is_var chain ≡ Some t → Ends t.number → AllNear v chain → AllLead (passed_before is_var chain) t.number
  passed_lead [] t f k a = tt
  passed_lead (s ∷ ss) t f k a = go (is_var s) f a.0 (λ e. passed_lead ss t e k a.1)
    where
      go : (b : Bool) → cond b (Some s) (first_with is_var ss) ≡ Some t → v s.number ≡ (route_from (s ∷ ss) (cond b [] (s ∷ passed_before is_var ss)) (cond b (Some s) (first_with is_var ss))).target.number → (first_with is_var ss ≡ Some t → AllLead (passed_before is_var ss) t.number) → AllLead (cond b [] (s ∷ passed_before is_var ss)) t.number
      go true e q later = tt
      go false e q later = (record { near = q ∙ ap (λ o. (route_from (s ∷ ss) (s ∷ passed_before is_var ss) o).target.number) e; itself = k.itself; lasts = k.lasts }, later e)

  outward_led : (chain : List OpenScope) → AllNear v chain → AllInTable table chain → IsLed hoisted (outward_to is_var chain)
  outward_led chain a h = go (first_with is_var chain) refl (ends_at chain a h)
    where
      go : (o : Option OpenScope) → first_with is_var chain ≡ o → EndsAt o → IsLed hoisted (route_from chain (passed_before is_var chain) o)
      go None e k = tt
      go (Some t) e k = passed_lead chain t e k a

  -- past a scope that is neither a function's nor a clause's
  past_led : (chain : List OpenScope) → v 0 ≡ 0 → slice_get table 0 ≡ Some None → is_var (innermost chain) ≡ false → is_clause (innermost chain) ≡ false → AllNear v chain → AllInTable table chain → IsLed moved (outward_past is_var chain)
  past_led [] z root e f a h = record { near = z; itself = z; lasts = root }
  past_led (s ∷ ss) z root e f a h = go (first_with is_var ss) (ap (λ b. (route_from (s ∷ ss) (cond b [] (s ∷ passed_before is_var ss)) (cond b (Some s) (first_with is_var ss))).target.number) e) (ends_at ss a.1 h.1)
    where
      go : (o : Option OpenScope) → (route_from (s ∷ ss) (cond (is_var s) [] (s ∷ passed_before is_var ss)) (cond (is_var s) (Some s) (first_with is_var ss))).target.number ≡ (route_from (s ∷ ss) (s ∷ passed_before is_var ss) o).target.number → EndsAt o → IsLed moved (route_from (s ∷ ss) (s ∷ passed_before is_var ss) o)
      go None q k = record { near = a.0 ∙ q; itself = a.0 ∙ q; lasts = h.0.entry ∙ ap Some (h.0.clause f) }
      go (Some t) q k = record { near = a.0 ∙ q; itself = k.itself; lasts = k.lasts }

  -- declarations
  abbrev AllLed : List Declaration → Type 0
  AllLed = EachDeclared (λ d. IsLed d.how d.route)

  abbrev pub AllEventsLed : List Event → Type 0
  AllEventsLed [] = Unit {0}
  AllEventsLed (declares d ∷ es) = IsLed d.how d.route × AllEventsLed es
  AllEventsLed (takes_over c b ∷ es) = AllEventsLed es
  AllEventsLed (ends_header c ∷ es) = AllEventsLed es

  module _ (z : v 0 ≡ 0) (root : slice_get table 0 ≡ Some None) where
    neither : (a b : Bool) → not (a || b) ≡ true → (a ≡ false) × (b ≡ false)
    neither true b k = absurd cc
    neither false true k = absurd cc
    neither false false k = (refl, refl)

    in_block : (p : Place) → is_block_function p ≡ true → (is_var (innermost p.chain) ≡ false) × (is_clause (innermost p.chain) ≡ false)
    in_block p h = neither (is_var (innermost p.chain)) (is_clause (innermost p.chain)) (and_second (not (is_special p.node) && not (is_typescript p.source_type) && not (is_strict p.chain)) (not (is_var (innermost p.chain) || is_clause (innermost p.chain))) h)

    moved_led : (p : Place) → AllNear v p.chain → AllInTable table p.chain → is_block_function p ≡ true → IsLed moved (outward_past is_var p.chain)
    moved_led p a h e = let q : (is_var (innermost p.chain) ≡ false) × (is_clause (innermost p.chain) ≡ false) = in_block p e in past_led p.chain z root q.0 q.1 a h

    entering_led : (k : AstType) (p : Place) → AllNear v p.chain → AllInTable table p.chain → AllLed (declared_by k p)
    entering_led k p a h =
        each_on_entering (λ d. IsLed d.how d.route) IsLed (λ node row is_pure name h. h) k p (record { at_home = tt; when_caught = tt; when_hoisted = λ e. outward_led p.chain a h; when_moved = λ e s q. moved_led p a h q; when_inferred = tt })

    inside_led : (k : AstType) (p : Place) (own : OpenScope) → AllLed (declared_inside k p own)
    inside_led k p own = each_on_opening (λ d. IsLed d.how d.route) IsLed (λ node row is_pure name h. h) k p own (λ e. tt)

    placed_led : (how : How) (ds : List Declaration) (d : Declaration) → d.how ≡ how → IsLed d.how d.route → IsLed (placed_by how ds d).how (placed_by how ds d).route
    placed_led plain ds d e h = h
    placed_led hoisted ds d e h = h
    placed_led caught ds d e h = h
    placed_led moved ds d e h = go (is_barred ds d (outside d.route.passed))
      where
        go : (b : Bool) → IsLed (if b then staying_declaration d else d).how (if b then staying_declaration d else d).route
        go true = tt
        go false = h

    declares_led : (ds new : List Declaration) (es : List Event) → AllLed new → AllEventsLed es → AllEventsLed (declares_all ds new ++ es)
    declares_led ds [] es h k = k
    declares_led ds (d ∷ new) es h k = (placed_led d.how ds d refl h.0, declares_led ds new es h.1 k)

    -- the events of steps
    pub events_led : (ds : List Declaration) (ss : List Step) → AllStepsIn table ss → AllPlacesNear v ss → AllEventsLed (flat_map (events_of ds) ss)
    events_led ds [] h a = tt
    events_led ds (entering p ∷ more) h a = declares_led ds (declared_on_entering p) (flat_map (events_of ds) more) (entering_led p.node.kind p a.0 h.0) (events_led ds more h.1 a.1)
    events_led ds (opening p s ∷ more) h a = go (is_catch_body p) (declares_led ds (declared_on_opening p s) (flat_map (events_of ds) more) (inside_led p.node.kind p s) (events_led ds more h.1 a.1))
      where
        go : (b : Bool) → AllEventsLed (declares_all ds (declared_on_opening p s) ++ flat_map (events_of ds) more) → AllEventsLed (cond b (takes_over (innermost p.chain).number s.number ∷ []) [] ++ declares_all ds (declared_on_opening p s) ++ flat_map (events_of ds) more)
        go true k = k
        go false k = k
    events_led ds (header_ending p s ∷ more) h a = events_led ds more h.1 a.1
    events_led ds (closing p s ∷ more) h a = events_led ds more h.1 a.1
    events_led ds (leaving p ∷ more) h a = events_led ds more h.1 a.1
