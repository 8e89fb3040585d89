-- What reaches past scopes goes to one where `var` goes, and passes none.
use Rattle.std.proofs.Common.{◌≡◌, ℕ, zero, suc, List, [], ◌∷◌, ◌++◌, Option, Some, None, Bool, true, false, cond, ◌||◌, ◌⊎◌, inl, inr, refl, sym, ap, subst, ◌∙◌, length, map, flat_map, if◌then◌else◌, arith}
use Rattle.std.specs.Prelude.{slice_get}
use Rattle.std.proofs.lemmas.Bool.{ne_eqb, cases_Bool}
use Rattle.semantic_kinds.specs.Kinds.{same_kind}
use Rattle.semantic_kinds.specs.declared.kind.AstType.{AstType}
use Rattle.semantic_kinds.specs.declared.kind.AstType.TheVariants as kind
use Rattle.semantic_syntax.specs.Members.{contains}
use Rattle.semantic_syntax.specs.Sets.{meets}
use Rattle.semantic_syntax.specs.declared.scope_flags.TheConstants.ScopeFlags as scope
use Rattle.semantic_tree.specs.Faults.{first_fault}
use Rattle.semantic_tree.specs.Tree.{Tree}
use Rattle.semantic_model.specs.Binder.{is_var, declared_by, declared_on_entering, declared_inside, declared_on_opening}
use Rattle.semantic_model.specs.Declaration.{How, plain, hoisted, moved, caught, Declaration, Route, here, passed_before, first_with, route_from, outward_to, outward_past, stands_in, scope_it_stands_in}
use Rattle.semantic_model.specs.Entries.{Among}
use Rattle.semantic_model.specs.Event.{Event, declares, takes_over, ends_header, is_barred, staying_declaration, placed_by, placed, is_catch_body, taken_over, declares_all, events_of, written_declarations, events, declarations}
use Rattle.semantic_model.specs.Fold.{Made, start}
use Rattle.semantic_model.specs.Place.{Place, OpenScope, innermost, outside}
use Rattle.semantic_model.specs.Step.{Step, entering, opening, header_ending, closing, leaving, steps}
use Rattle.semantic_model.proofs.fits.NothingInvented.{made_declared}
use Rattle.semantic_model.proofs.fold.EachDeclared.{EachDeclared, each_on_entering, each_on_opening}
use Rattle.semantic_model.proofs.form.Clauses.{kind_is}
use Rattle.semantic_model.proofs.steps.EachStep.{EachStep}
use Rattle.walk_model.proofs.declares.Simulated.{program_nested, root_declares_none}
use Rattle.walk_model.proofs.headers.Headed.{AreFlagged, AreHeaded, awaiting_past, flags_after, flagged_later}
use Rattle.walk_model.proofs.headers.HeadedProgram.{program_headed}
use Rattle.walk_model.proofs.places.Grounds.{IsGrounded, AllGrounded, all_grounded}
use Rattle.walk_model.proofs.places.Nested.{AreNested, open_past, seen_past}
use Rattle.walk_model.proofs.places.Routes.{grounded, HasVar, GoesOut, AllGoOut, entering_goes, placed_goes, not_var, Leaves}
use Rattle.walk_model.proofs.refers.HeaderEnds.{flagged_prefix}
use Rattle.binding_laws.specs.OneSymbol.{takes_by, VarScopesKeepNames}
use Rattle.semantic_model.specs.TablesOf.{made_of}
use Rattle.binding_laws.proofs.CatchNames.{IsNotCaught, none_caught, IsCatchStep, catch_steps}
use Rattle.binding_laws.proofs.CutEvents.{placed_plain}
use Rattle.binding_laws.proofs.CutSteps.{same_length}

-- none of the scopes is one where `var` goes
abbrev NoneVar : List OpenScope → Type 0
NoneVar [] = Unit {0}
NoneVar (s ∷ ss) = (is_var s ≡ false) × NoneVar ss

-- what reaches out passes no such scope, and a block function begins in none
abbrev IsPassing : How → Route → Type 0
IsPassing hoisted r = NoneVar r.passed
IsPassing moved r = is_var (innermost (r.passed ++ r.target ∷ [])) ≡ false
IsPassing _ r = Unit {0}

before_var : (chain : List OpenScope) → NoneVar (passed_before is_var chain)
before_var [] = tt
before_var (s ∷ ss) = by (is_var s) refl (before_var ss)
  where
    by : (b : Bool) → is_var s ≡ b → NoneVar (passed_before is_var ss) → NoneVar (cond b [] (s ∷ passed_before is_var ss))
    by true e h = tt
    by false e h = (e, h)

-- and comes to one
abbrev IsReaching : How → Route → Type 0
IsReaching hoisted r = (r.passed ≡ [] → ⊥) → is_var r.target ≡ true
IsReaching moved r = (r.passed ≡ [] → ⊥) → is_var r.target ≡ true
IsReaching _ r = Unit {0}

first_is_var : (chain : List OpenScope) (t : OpenScope) → first_with is_var chain ≡ Some t → is_var t ≡ true
first_is_var [] t e = absurd cc
first_is_var (s ∷ ss) t e = by (is_var s) refl e (first_is_var ss t)
  where
    by : (b : Bool) → is_var s ≡ b → cond b (Some s) (first_with is_var ss) ≡ Some t → (first_with is_var ss ≡ Some t → is_var t ≡ true) → is_var t ≡ true
    by true v q later = let i : s ≡ t = cc in subst (λ o. is_var o ≡ true) i v
    by false v q later = later q

route_reaching : (chain ss passed : List OpenScope) → (route_from chain passed (first_with is_var ss)).passed ≡ [] ⊎ (is_var (route_from chain passed (first_with is_var ss)).target ≡ true)
route_reaching chain ss passed = by (first_with is_var ss) refl
  where
    by : (o : Option OpenScope) → first_with is_var ss ≡ o → (route_from chain passed o).passed ≡ [] ⊎ (is_var (route_from chain passed o).target ≡ true)
    by None e = inl refl
    by (Some t) e = inr (first_is_var ss t e)

reaching : (r : Route) → r.passed ≡ [] ⊎ (is_var r.target ≡ true) → (r.passed ≡ [] → ⊥) → is_var r.target ≡ true
reaching r (inl e) n = absurd (n e)
reaching r (inr v) n = v

past_reaching : (chain : List OpenScope) → IsReaching moved (outward_past is_var chain)
past_reaching [] n = absurd (n refl)
past_reaching (s ∷ ss) n = reaching (outward_past is_var (s ∷ ss)) (route_reaching (s ∷ ss) ss (s ∷ passed_before is_var ss)) n

entering_reaching : (k : AstType) (p : Place) → EachDeclared (λ d. IsReaching d.how d.route) (declared_by k p)
entering_reaching k p = each_on_entering (λ d. IsReaching d.how d.route) IsReaching (λ node row is_pure name h. h) k p (record {
  at_home = tt;
  when_caught = tt;
  when_hoisted = λ e. reaching (outward_to is_var p.chain) (route_reaching p.chain p.chain (passed_before is_var p.chain));
  when_moved = λ e s b. past_reaching p.chain;
  when_inferred = tt;
})

outward_passing : (chain : List OpenScope) → IsPassing hoisted (outward_to is_var chain)
outward_passing chain = by (first_with is_var chain)
  where
    by : (o : Option OpenScope) → IsPassing hoisted (route_from chain (passed_before is_var chain) o)
    by None = tt
    by (Some t) = before_var chain

past_passing : (chain : List OpenScope) → is_var (innermost chain) ≡ false → IsPassing moved (outward_past is_var chain)
past_passing [] e = e
past_passing (s ∷ ss) e = by (first_with is_var ss)
  where
    by : (o : Option OpenScope) → IsPassing moved (route_from (s ∷ ss) (s ∷ passed_before is_var ss) o)
    by None = e
    by (Some t) = e

entering_passing : (k : AstType) (p : Place) → EachDeclared (λ d. IsPassing d.how d.route) (declared_by k p)
entering_passing k p = each_on_entering (λ d. IsPassing d.how d.route) IsPassing (λ node row is_pure name h. h) k p (record {
  at_home = tt;
  when_caught = tt;
  when_hoisted = λ e. outward_passing p.chain;
  when_moved = λ e s b. past_passing p.chain (not_var p b);
  when_inferred = tt;
})

-- what a scope that opens declares goes there at once
opened_here : (k : AstType) (p : Place) (own : OpenScope) → EachDeclared (λ d. (d.how ≡ plain) × (d.route ≡ here (own ∷ []))) (declared_inside k p own)
opened_here k p own = each_on_opening (λ d. (d.how ≡ plain) × (d.route ≡ here (own ∷ []))) (λ how r. (how ≡ plain) × (r ≡ here (own ∷ []))) (λ node row is_pure name h. h) k p own (λ e. (refl, refl))

-- a plain catch name goes to no such scope either
abbrev IsClausal : Declaration → Type 0
IsClausal d = d.how ≡ caught → is_var d.route.target ≡ false

weaker : (P Q : Declaration → Type 0) → ((d : Declaration) → P d → Q d) → (ds : List Declaration) → EachDeclared P ds → EachDeclared Q ds
weaker P Q f [] h = tt
weaker P Q f (d ∷ ds) h = (f d h.0, weaker P Q f ds h.1)

abbrev TargetsInnermost : List OpenScope → How → Route → Type 0
TargetsInnermost chain caught r = is_var r.target ≡ is_var (innermost chain)
TargetsInnermost chain _ r = Unit {0}

entering_clausal : (p : Place) → (p.node.kind ≡ kind.CatchParameter → is_var (innermost p.chain) ≡ false) → EachDeclared IsClausal (declared_on_entering p)
entering_clausal p f = elim (cases_Bool (same_kind p.node.kind kind.CatchParameter)) [
  | inl e ↦ weaker (λ d. TargetsInnermost p.chain d.how d.route) IsClausal (λ d h i. at_clause d h i (f (kind_is p.node.kind kind.CatchParameter e))) (declared_on_entering p)
      (each_on_entering (λ d. TargetsInnermost p.chain d.how d.route) (TargetsInnermost p.chain) (λ node row is_pure name h. h) p.node.kind p (record { at_home = tt; when_caught = refl; when_hoisted = λ q. tt; when_moved = λ q s b. tt; when_inferred = tt }))
  | inr e ↦ weaker IsNotCaught IsClausal (λ d h i. absurd (h i)) (declared_on_entering p) (none_caught p.node.kind p (λ q. let w : true ≡ false = sym (ap (λ k. same_kind k kind.CatchParameter) q) ∙ e in absurd cc))
]
  where
    at_clause : (d : Declaration) → TargetsInnermost p.chain d.how d.route → d.how ≡ caught → is_var (innermost p.chain) ≡ false → is_var d.route.target ≡ false
    at_clause d h i g = subst (λ how. TargetsInnermost p.chain how d.route) i h ∙ g

module _ (fs : List ℕ) where
  -- a declaration whose scopes have the flags, on its way
  record IsOnWay (d : Declaration) : Type 0 where
    flagged : AreFlagged fs (d.route.passed ++ d.route.target ∷ [])
    passing : IsPassing d.how d.route
    clausal : IsClausal d
    reaches : IsReaching d.how d.route
    leaves : Leaves d.how d.route.passed

  abbrev AllOnWay : List Event → Type 0
  AllOnWay [] = Unit {0}
  AllOnWay (declares d ∷ es) = IsOnWay d × AllOnWay es
  AllOnWay (takes_over a b ∷ es) = AllOnWay es
  AllOnWay (ends_header a ∷ es) = AllOnWay es

  way-append : (es gs : List Event) → AllOnWay es → AllOnWay gs → AllOnWay (es ++ gs)
  way-append [] gs h k = k
  way-append (declares d ∷ es) gs h k = (h.0, way-append es gs h.1 k)
  way-append (takes_over a b ∷ es) gs h k = way-append es gs h k
  way-append (ends_header a ∷ es) gs h k = way-append es gs h k

  -- a block function that stays passes nothing
  placed_passing : (how : How) (ds : List Declaration) (d : Declaration) → d.how ≡ how → IsPassing how d.route → IsPassing (placed_by how ds d).how (placed_by how ds d).route
  placed_passing plain ds d e h = rw e tt
  placed_passing caught ds d e h = rw e tt
  placed_passing hoisted ds d e h = rw e h
  placed_passing moved ds d e h = by (is_barred ds d (outside d.route.passed))
    where
      by : (b : Bool) → IsPassing (if b then staying_declaration d else d).how (if b then staying_declaration d else d).route
      by true = tt
      by false = rw e h

  placed_clausal : (how : How) (ds : List Declaration) (d : Declaration) → IsClausal d → IsClausal (placed_by how ds d)
  placed_clausal plain ds d h = h
  placed_clausal caught ds d h = h
  placed_clausal hoisted ds d h = h
  placed_clausal moved ds d h = by (is_barred ds d (outside d.route.passed))
    where
      by : (b : Bool) → IsClausal (if b then staying_declaration d else d)
      by true = λ i. absurd cc
      by false = h

  placed_reaching : (how : How) (ds : List Declaration) (d : Declaration) → d.how ≡ how → IsReaching how d.route → IsReaching (placed_by how ds d).how (placed_by how ds d).route
  placed_reaching plain ds d e h = rw e tt
  placed_reaching caught ds d e h = rw e tt
  placed_reaching hoisted ds d e h = rw e h
  placed_reaching moved ds d e h = by (is_barred ds d (outside d.route.passed))
    where
      by : (b : Bool) → IsReaching (if b then staying_declaration d else d).how (if b then staying_declaration d else d).route
      by true = tt
      by false = rw e h

  declares_way : (chain : List OpenScope) (ds new : List Declaration) → AllGoOut chain new → AreFlagged fs (grounded chain) → EachDeclared (λ d. IsPassing d.how d.route) new → EachDeclared IsClausal new → EachDeclared (λ d. IsReaching d.how d.route) new → AllOnWay (declares_all ds new)
  declares_way chain ds [] g f h k r = tt
  declares_way chain ds (d ∷ new) g f h k r =
      let there : Declaration = placed ds d in
      let goes : GoesOut chain there = placed_goes chain d.how ds d g.0 in (
        record {
          flagged = flagged_prefix fs there.route.passed there.route.target goes.rest (subst (AreFlagged fs) (sym goes.is) f);
          passing = placed_passing d.how ds d refl h.0;
          clausal = placed_clausal d.how ds d k.0;
          reaches = placed_reaching d.how ds d refl r.0;
          leaves = goes.leaves;
        },
        declares_way chain ds new g.1 f h.1 k.1 r.1,
      )

  solid_flagged : (chain : List OpenScope) → HasVar chain → AreFlagged fs chain → AreFlagged fs (grounded chain)
  solid_flagged [] v h = absurd (v refl)
  solid_flagged (s ∷ ss) v h = h

  entering_way : (ds : List Declaration) (p : Place) → IsGrounded p → AreFlagged fs p.chain → (p.node.kind ≡ kind.CatchParameter → is_var (innermost p.chain) ≡ false) → AllOnWay (declares_all ds (declared_on_entering p))
  entering_way ds p (inr e) f k = subst (λ new. AllOnWay (declares_all ds new)) (sym (root_declares_none p e)) tt
  entering_way ds p (inl v) f k = declares_way p.chain ds (declared_on_entering p) (entering_goes p.node.kind p v) (solid_flagged p.chain v f) (entering_passing p.node.kind p) (entering_clausal p k) (entering_reaching p.node.kind p)

  own_way : (s : OpenScope) (d : Declaration) → d.how ≡ plain → d.route ≡ here (s ∷ []) → slice_get fs s.number ≡ Some s.flags → IsOnWay d
  own_way s d e q f = record {
    flagged = subst (λ (r : Route). AreFlagged fs (r.passed ++ r.target ∷ [])) (sym q) (f, tt);
    passing = rw e tt;
    clausal = λ i. let w : plain ≡ caught = sym e ∙ i in absurd cc;
    reaches = rw e tt;
    leaves = rw e tt;
  }

  opened_way : (s : OpenScope) (ds new : List Declaration) → slice_get fs s.number ≡ Some s.flags → EachDeclared (λ d. (d.how ≡ plain) × (d.route ≡ here (s ∷ []))) new → AllOnWay (declares_all ds new)
  opened_way s ds [] f h = tt
  opened_way s ds (d ∷ new) f h = (subst IsOnWay (sym (placed_plain d.how ds d h.0.0)) (own_way s d h.0.0 h.0.1 f), opened_way s ds new f h.1)

  opening_way : (ds : List Declaration) (p : Place) (s : OpenScope) → slice_get fs s.number ≡ Some s.flags → AllOnWay (events_of ds (opening p s))
  opening_way ds p s f = way-append (taken_over p s) (declares_all ds (declared_on_opening p s)) (by (is_catch_body p)) (opened_way s ds (declared_on_opening p s) f (opened_here p.node.kind p s))
    where
      by : (b : Bool) → AllOnWay (cond b (takes_over (innermost p.chain).number s.number ∷ []) [])
      by true = tt
      by false = tt

  get_end : (xs : List ℕ) (x n : ℕ) → length xs ≡ n → slice_get (xs ++ x ∷ []) n ≡ Some x
  get_end [] x zero e = refl
  get_end [] x (suc n) e = absurd (omega arith)
  get_end (y ∷ xs) x zero e = absurd (omega arith)
  get_end (y ∷ xs) x (suc n) e = get_end xs x n (omega arith)

  steps_way : (ds : List Declaration) (aw gs stack : List ℕ) (seen : List (List ℕ)) (ss : List Step) → length gs ≡ length seen → AreHeaded aw gs ss → AreNested stack seen ss → AllGrounded ss → EachStep IsCatchStep ss → flags_after gs ss ≡ fs → AllOnWay (flat_map (events_of ds) ss)
  steps_way ds aw gs stack seen [] e h k g c f = tt
  steps_way ds aw gs stack seen (entering p ∷ ss) e h k g c f =
      way-append (declares_all ds (declared_on_entering p)) (flat_map (events_of ds) ss)
      (entering_way ds p g.0 (subst (λ l. AreFlagged l p.chain) f (flagged_later gs ss p.chain h.0.flagged)) c.0)
      (steps_way ds aw gs stack seen ss e h.1 k.1 g.1 c.1 f)
  steps_way ds aw gs stack seen (opening p s ∷ ss) e h k g c f =
      let more : List ℕ = gs ++ s.flags ∷ [] in
      let number : length gs ≡ s.number = e ∙ sym (ap (λ (o : OpenScope). o.number) k.0.1) in
      let own : AreFlagged more (s ∷ []) = (get_end gs s.flags s.number number, tt) in
      way-append (events_of ds (opening p s)) (flat_map (events_of ds) ss)
      (opening_way ds p s (subst (λ l. slice_get l s.number ≡ Some s.flags) f (flagged_later more ss (s ∷ []) own).0))
      (steps_way ds (awaiting_past aw (opening p s)) more (open_past stack (opening p s)) (seen_past seen (opening p s)) ss (same_length gs seen (opening p s) e) h.1 k.1 g.1 c.1 f)
  steps_way ds aw gs stack seen (header_ending p s ∷ ss) e h k g c f = steps_way ds (awaiting_past aw (header_ending p s)) gs stack seen ss e h.1 k.1 g.1 c.1 f
  steps_way ds aw gs stack seen (closing p s ∷ ss) e h k g c f = steps_way ds aw gs (open_past stack (closing p s)) seen ss e h.1 k.1 g.1 c.1 f
  steps_way ds aw gs stack seen (leaving p ∷ ss) e h k g c f = steps_way ds aw gs stack seen ss e h.1 k.1 g.1 c.1 f

  -- scopes of one number have the same flags
  same_var : (s t : OpenScope) (c : ℕ) → slice_get fs s.number ≡ Some s.flags → s.number ≡ c → slice_get fs c ≡ Some t.flags → is_var s ≡ is_var t
  same_var s t c h e k =
      let q : Some s.flags ≡ Some t.flags = sym h ∙ ap (slice_get fs) e ∙ k in
      let w : s.flags ≡ t.flags = cc in
      ap (λ f. meets f scope.Var.bits) w

  no_var : (s t : OpenScope) (c : ℕ) → is_var s ≡ false → slice_get fs s.number ≡ Some s.flags → slice_get fs c ≡ Some t.flags → is_var t ≡ true → s.number ≡ c → ⊥
  no_var s t c n h k v e = let w : false ≡ true = sym n ∙ same_var s t c h e k ∙ v in absurd cc

  flagged_last : (cs : List OpenScope) (t : OpenScope) → AreFlagged fs (cs ++ t ∷ []) → slice_get fs t.number ≡ Some t.flags
  flagged_last [] t h = h.0
  flagged_last (s ∷ ss) t h = flagged_last ss t h.1

  flagged_first : (cs : List OpenScope) (t : OpenScope) → AreFlagged fs (cs ++ t ∷ []) → slice_get fs (innermost (cs ++ t ∷ [])).number ≡ Some (innermost (cs ++ t ∷ [])).flags
  flagged_first [] t h = h.0
  flagged_first (s ∷ ss) t h = h.0

  passed_clear : (cs : List OpenScope) (last t : OpenScope) (c : ℕ) → NoneVar cs → AreFlagged fs (cs ++ last ∷ []) → slice_get fs c ≡ Some t.flags → is_var t ≡ true → contains (map (λ s. s.number) cs) c ≡ false
  passed_clear [] last t c n h k v = refl
  passed_clear (s ∷ ss) last t c n h k v = ap (λ b. b || contains (map (λ o. o.number) ss) c) (ne_eqb s.number c (no_var s t c n.0 h.0 k v)) ∙ passed_clear ss last t c n.1 h.1 k v

  way_of : (es : List Event) (d : Declaration) → AllOnWay es → Among d (declarations es) → IsOnWay d
  way_of [] d w a = absurd a
  way_of (declares e ∷ es) d w (inl q) = subst IsOnWay q w.0
  way_of (declares e ∷ es) d w (inr a) = way_of es d w.1 a
  way_of (takes_over x b ∷ es) d w a = way_of es d w a
  way_of (ends_header x ∷ es) d w a = way_of es d w a

  takes_none : (how : How) (d : Declaration) (t : OpenScope) (c : ℕ) → d.how ≡ how → IsOnWay d → slice_get fs c ≡ Some t.flags → is_var t ≡ true → takes_by how c d ≡ false
  takes_none plain d t c e w k v = refl
  takes_none moved d t c e w k v = refl
  takes_none hoisted d t c e w k v = passed_clear d.route.passed d.route.target t c (subst (λ how. IsPassing how d.route) e w.passing) w.flagged k v
  takes_none caught d t c e w k v = ne_eqb d.route.target.number c (no_var d.route.target t c (w.clausal e) (flagged_last d.route.passed d.route.target w.flagged) k v)

  -- where a block function begins, nothing comes from further in
  none_comes : (f d : Declaration) → IsOnWay f → IsOnWay d → f.how ≡ moved → is_var d.route.target ≡ true → d.route.target.number ≡ stands_in f → ⊥
  none_comes f d wf wd e v q = no_var (scope_it_stands_in f) d.route.target (stands_in f) (subst (λ how. IsPassing how f.route) e wf.passing) (flagged_first f.route.passed f.route.target wf.flagged)
      (ap (slice_get fs) (sym q) ∙ flagged_last d.route.passed d.route.target wd.flagged) v refl

module _ (p : Tree) (h : first_fault p ≡ None) where
  abbrev fs : List ℕ
  fs = flags_after [] (steps p)

  all : AllOnWay fs (events (steps p))
  all = steps_way fs (written_declarations (steps p)) [] [] [] [] (steps p) refl (program_headed p h) (program_nested p) (all_grounded p h) (catch_steps p h) refl

  on_way : (d : Declaration) → Among d (declarations (events (steps p))) → IsOnWay fs d
  on_way d a = way_of fs (events (steps p)) d all a

  pub var_scopes_keep_names : VarScopesKeepNames p
  var_scopes_keep_names x m a v d b n = takes_none fs d.how d m.declaration.route.target m.declaration.route.target.number refl (on_way d b) (flagged_last fs m.declaration.route.passed m.declaration.route.target (on_way m.declaration among).flagged) v
    where
      among : Among m.declaration (declarations (events (steps p)))
      among = elim (made_declared m start (events (steps p)) a) [ inl k ↦ absurd k | inr k ↦ k ]

  -- neither a `var` from further in nor another block function comes to the block of a block function
  pub hoisted_apart : (f d : Declaration) → Among f (declarations (events (steps p))) → Among d (declarations (events (steps p))) → f.how ≡ moved → d.how ≡ hoisted → (d.route.passed ≡ [] → ⊥) → d.route.target.number ≡ stands_in f → ⊥
  hoisted_apart f d a b e i n q = none_comes fs f d (on_way f a) (on_way d b) e (subst (λ how. IsReaching how d.route) i (on_way d b).reaches n) q

  pub moved_apart : (f d : Declaration) → Among f (declarations (events (steps p))) → Among d (declarations (events (steps p))) → f.how ≡ moved → d.how ≡ moved → d.route.target.number ≡ stands_in f → ⊥
  moved_apart f d a b e i q = none_comes fs f d (on_way f a) (on_way d b) e (subst (λ how. IsReaching how d.route) i (on_way d b).reaches (subst (λ how. Leaves how d.route.passed) i (on_way d b).leaves)) q

  -- no block function begins in a scope where `var` goes
  pub none_begins : (m : Made) → Among m (made_of p) → is_var m.declaration.route.target ≡ true → (f : Declaration) → Among f (declarations (events (steps p))) → f.how ≡ moved → stands_in f ≡ m.declaration.route.target.number → ⊥
  none_begins m a v f b e q =
      no_var fs (scope_it_stands_in f) m.declaration.route.target m.declaration.route.target.number (subst (λ how. IsPassing how f.route) e (on_way f b).passing) (flagged_first fs f.route.passed f.route.target (on_way f b).flagged)
      (flagged_last fs m.declaration.route.passed m.declaration.route.target (on_way m.declaration among).flagged) v q
    where
      among : Among m.declaration (declarations (events (steps p)))
      among = elim (made_declared m start (events (steps p)) a) [ inl k ↦ absurd k | inr k ↦ k ]
