-- The events of a program are cut by the end of each header that holds a reference.
use Rattle.std.proofs.Common.{◌≡◌, ℕ, ◌<◌, ◌≤◌, ◌==◌, List, [], ◌∷◌, Some, None, Bool, true, false, cond, ◌&&◌, ◌||◌, ◌⊎◌, inl, inr, refl, sym, ap, subst, ◌∙◌, length, flat_map, arith}
use Rattle.std.specs.List.{cons_option}
use Rattle.std.proofs.lemmas.Bool.{cases_Bool, ne_eqb, eq-eqb, or_parts}
use Rattle.std.proofs.lemmas.Bool.Decides.{eqb_tells}
use Rattle.std.proofs.lemmas.List.{length-append}
use Rattle.semantic_kinds.specs.Roles.{same_role}
use Rattle.semantic_kinds.specs.declared.kind.AstType.{AstType}
use Rattle.semantic_kinds.specs.declared.kind.AstType.TheVariants as kind
use Rattle.semantic_kinds.specs.declared.role.Role.TheVariants as role
use Rattle.semantic_syntax.specs.Members.{contains}
use Rattle.semantic_syntax.proofs.Truth.{and_first}
use Rattle.semantic_tree.specs.Forest.{Forest, nothing, tree}
use Rattle.semantic_tree.specs.Faults.{first_fault}
use Rattle.semantic_tree.specs.Tree.{Tree}
use Rattle.semantic_tree.specs.Views.{is, has_role}
use Rattle.semantic_model.specs.Entries.{Among}
use Rattle.semantic_model.specs.Inside.{header_roles}
use Rattle.semantic_model.specs.Place.{Place, OpenScope, innermost, parent_holds}
use Rattle.semantic_model.specs.Reference.{Occurrence, reference_at, references}
use Rattle.semantic_model.specs.Declaration.{Declaration, plain, first_with}
use Rattle.semantic_model.specs.Binder.{is_var, declared_by, declared_inside, declared_on_entering, declared_on_opening}
use Rattle.semantic_model.specs.Event.{takes_over, ends_header, is_catch_body, taken_over, declares_all, events_of, written_declarations, events}
use Rattle.semantic_model.specs.Step.{Step, entering, opening, header_ending, closing, leaving, steps}
use Rattle.semantic_model.proofs.form.Clauses.{kind_is}
use Rattle.semantic_model.proofs.fold.EachDeclared.{EachDeclared, each_on_opening}
use Rattle.semantic_model.specs.TablesOf.{numbers}
use Rattle.walk_model.proofs.declares.Simulated.{program_nested, root_declares_none, body_has_var, first_below, solid}
use Rattle.walk_model.proofs.places.Grounds.{IsGrounded, AllGrounded, all_grounded}
use Rattle.walk_model.proofs.places.Nested.{Descends, AreNested, IsNestedStep, open_past, seen_past, seen_longer, contains_more}
use Rattle.walk_model.proofs.places.Routes.{grounded, HasVar, entering_goes}
use Rattle.walk_model.proofs.headers.NoStatements.{is_closed}
use Rattle.walk_model.proofs.headers.Headed.{awaiting_past, flags_past, has_header, AllMatch, match_among, AllVarAbove, VarAbove, IsSheltered, AllLess, reference_matches, IsHeadedStep, AreHeaded, not_among}
use Rattle.walk_model.proofs.headers.HeadedProgram.{program_headed}
use Rattle.walk_model.proofs.headers.TouchedScopes.{ChainOn, declares_touch, entering_by_var}
use Rattle.binding_laws.proofs.CutEvents.{is_scope, AllBefore, AllBehind, Cut, no_end, ended, not_yet, cut-append, before-append, behind-append, entering_behind, entering_before, touched_before, IsOwnPlain, opening_behind, opening_before, own_before}
use Rattle.binding_laws.proofs.Matched.{IsMatchedStep, AreMatched, program_matched}
use Rattle.binding_laws.proofs.OwnNames.{IsOwnName, entering_other, own_named}

-- the header is still to end, at some step
abbrev pub WillAwait : ℕ → List ℕ → List Step → Type 0
WillAwait c awaiting [] = ⊥
WillAwait c awaiting (s ∷ ss) = (contains awaiting c ≡ true) ⊎ WillAwait c (awaiting_past awaiting s) ss

abbrev pub IsFalling : List ℕ → Type 0
IsFalling [] = Unit {0}
IsFalling (c ∷ cs) = AllLess cs c × IsFalling cs

not_both : {b : Bool} → b ≡ true → b ≡ false → ⊥
not_both h k = let q : true ≡ false = sym h ∙ k in absurd cc

opens_next : (stack : List ℕ) (seen : List (List ℕ)) (p : Place) (s : OpenScope) → IsNestedStep stack seen (opening p s) → s.number ≡ length seen
opens_next stack seen p s k = ap (λ (o : OpenScope). o.number) k.1

pub same_length : (fs : List ℕ) (seen : List (List ℕ)) (step : Step) → length fs ≡ length seen → length (flags_past fs step) ≡ length (seen_past seen step)
same_length fs seen (opening p s) e = omega (arith, e, length-append fs (s.flags ∷ []), length-append seen (numbers p.chain ∷ []))
same_length fs seen (entering p) e = e
same_length fs seen (header_ending p s) e = e
same_length fs seen (closing p s) e = e
same_length fs seen (leaving p) e = e

falling_past : (aw fs stack : List ℕ) (seen : List (List ℕ)) (step : Step) → length fs ≡ length seen → IsHeadedStep aw fs step → IsNestedStep stack seen step → IsFalling aw → IsFalling (awaiting_past aw step)
falling_past aw fs stack seen (entering p) e h k d = d
falling_past aw fs stack seen (opening p s) e h k d = by (has_header p)
  where
    by : (b : Bool) → IsFalling (cond b (s.number ∷ aw) aw)
    by true = (subst (AllLess aw) (e ∙ sym (opens_next stack seen p s k)) h.1, d)
    by false = d
falling_past [] fs stack seen (header_ending p s) e h k d = tt
falling_past (a ∷ aw) fs stack seen (header_ending p s) e h k d = d.1
falling_past aw fs stack seen (closing p s) e h k d = d
falling_past aw fs stack seen (leaving p) e h k d = d

-- a header that isn't awaited is not, unless its scope opens
still_not : (c : ℕ) (aw : List ℕ) (step : Step) → ((p : Place) (s : OpenScope) → step ≡ opening p s → s.number ≡ c → ⊥) → contains aw c ≡ false → contains (awaiting_past aw step) c ≡ false
still_not c aw (entering p) n h = h
still_not c aw (opening p s) n h = by (has_header p)
  where
    by : (b : Bool) → contains (cond b (s.number ∷ aw) aw) c ≡ false
    by true = ap (λ b. b || contains aw c) (ne_eqb s.number c (n p s refl)) ∙ h
    by false = h
still_not c [] (header_ending p s) n h = h
still_not c (a ∷ aw) (header_ending p s) n h = (or_parts (a == c) (contains aw c) h).1
still_not c aw (closing p s) n h = h
still_not c aw (leaving p) n h = h

-- a scope that has opened doesn't open again
opened_before : (c : ℕ) (stack : List ℕ) (seen : List (List ℕ)) (step : Step) → IsNestedStep stack seen step → c < length seen → (p : Place) (s : OpenScope) → step ≡ opening p s → s.number ≡ c → ⊥
opened_before c stack seen step k l p s e i =
    let q : IsNestedStep stack seen (opening p s) = subst (IsNestedStep stack seen) e k in
    absurd (omega (arith, opens_next stack seen p s q, l, i))

still_later : (c : ℕ) (seen : List (List ℕ)) (step : Step) → c < length seen → c < length (seen_past seen step)
still_later c seen step l = omega (arith, l, seen_longer seen step)

never_again : (c : ℕ) (aw stack : List ℕ) (seen : List (List ℕ)) (ss : List Step) → AreNested stack seen ss → c < length seen → contains aw c ≡ false → WillAwait c aw ss → ⊥
never_again c aw stack seen [] k l n w = w
never_again c aw stack seen (step ∷ ss) k l n (inl e) = not_both e n
never_again c aw stack seen (step ∷ ss) k l n (inr w) =
    never_again c (awaiting_past aw step) (open_past stack step) (seen_past seen step) ss k.1 (still_later c seen step l) (still_not c aw step (opened_before c stack seen step k.0 l) n) w

-- the chain of a place in some function, or the like, is not empty
solid_match : (aw : List ℕ) (chain : List OpenScope) → HasVar chain → AllMatch aw chain → AllMatch aw (grounded chain)
solid_match aw [] v h = absurd (v refl)
solid_match aw (s ∷ ss) v h = h

name_declares_none : (p : Place) → is kind.BindingIdentifier p.node ≡ true → declared_on_entering p ≡ []
name_declares_none p e = ap (λ k. declared_by k p) (kind_is p.node.kind kind.BindingIdentifier e)

entered_behind : (c : ℕ) (aw : List ℕ) (ds : List Declaration) (p : Place) → IsGrounded p → IsMatchedStep aw (entering p) → contains aw c ≡ false → AllBehind c (declares_all ds (declared_on_entering p))
entered_behind c aw ds p (inr e) m n = subst (λ new. AllBehind c (declares_all ds new)) (sym (root_declares_none p e)) tt
entered_behind c aw ds p (inl v) m n = elim (cases_Bool (is kind.BindingIdentifier p.node)) [
  | inl e ↦ subst (λ new. AllBehind c (declares_all ds new)) (sym (name_declares_none p e)) tt
  | inr e ↦ entering_behind c aw p.chain ds (declared_on_entering p) (entering_goes p.node.kind p v) (solid_match aw p.chain v (m e)) n (entering_other p.node.kind p)
]

pub opened_plain : (p : Place) (own : OpenScope) → EachDeclared (IsOwnPlain own) (declared_on_opening p own)
opened_plain p own = each_on_opening (IsOwnPlain own) (λ how r. (how ≡ plain) × (r.target.number ≡ own.number)) (λ node row is_pure name h. h) p.node.kind p own (λ e. (refl, refl))

taken_behind : (c : ℕ) (p : Place) (s : OpenScope) → AllBehind c (taken_over p s)
taken_behind c p s = by (is_catch_body p)
  where
    by : (b : Bool) → AllBehind c (cond b (takes_over (innermost p.chain).number s.number ∷ []) [])
    by true = (tt, tt)
    by false = tt

behind_step : (c : ℕ) (ds : List Declaration) (aw stack : List ℕ) (seen : List (List ℕ)) (step : Step) (ss : List Step) → IsMatchedStep aw step → IsNestedStep stack seen step → AllGrounded (step ∷ ss) → c < length seen → contains aw c ≡ false → AllBehind c (events_of ds step)
behind_step c ds aw stack seen (entering p) ss m k g l n = entered_behind c aw ds p g.0 m n
behind_step c ds aw stack seen (opening p s) ss m k g l n =
    behind-append c (taken_over p s) (declares_all ds (declared_on_opening p s)) (taken_behind c p s)
    (opening_behind c s ds (declared_on_opening p s) (opened_before c stack seen (opening p s) k l p s refl) (opened_plain p s))
behind_step c ds aw stack seen (header_ending p s) ss m k g l n = (tt, tt)
behind_step c ds aw stack seen (closing p s) ss m k g l n = tt
behind_step c ds aw stack seen (leaving p) ss m k g l n = tt

-- behind the header
behind_steps : (c : ℕ) (ds : List Declaration) (aw stack : List ℕ) (seen : List (List ℕ)) (ss : List Step) → AreMatched aw ss → AreNested stack seen ss → AllGrounded ss → c < length seen → contains aw c ≡ false → AllBehind c (flat_map (events_of ds) ss)
behind_steps c ds aw stack seen [] m k g l n = tt
behind_steps c ds aw stack seen (step ∷ ss) m k g l n =
    behind-append c (events_of ds step) (flat_map (events_of ds) ss) (behind_step c ds aw stack seen step ss m.0 k.0 g l n)
    (behind_steps c ds (awaiting_past aw step) (open_past stack step) (seen_past seen step) ss m.1 k.1 g.1 (still_later c seen step l) (still_not c aw step (opened_before c stack seen step k.0 l) n))

-- what shelters a place from all headers shelters it from one
above_at : (c : ℕ) (cs : List ℕ) (chain : List OpenScope) → contains cs c ≡ true → AllVarAbove cs chain → VarAbove c chain
above_at c [] chain h v = absurd cc
above_at c (d ∷ cs) chain h v = elim (eqb_tells d c) [
  | inl q ↦ subst (λ m. VarAbove m chain) q.1 v.0
  | inr q ↦ above_at c cs chain (rw q.0 at h) v.1
]

sheltered_at : (c : ℕ) (cs : List ℕ) (p : Place) → contains cs c ≡ true → IsSheltered cs p → (is_closed p.node.kind p.node.text ≡ true) ⊎ VarAbove c p.chain
sheltered_at c cs p h (inl e) = inl e
sheltered_at c cs p h (inr v) = inr (above_at c cs p.chain h v)

entered_before : (c n : ℕ) (aw : List ℕ) (ds : List Declaration) (p : Place) → IsGrounded p → Descends n p.chain → IsSheltered aw p → IsMatchedStep aw (entering p) → contains aw c ≡ true → AllBefore c (declares_all ds (declared_on_entering p))
entered_before c n aw ds p (inr e) k s m i = subst (λ new. AllBefore c (declares_all ds new)) (sym (root_declares_none p e)) tt
entered_before c n aw ds p (inl v) k s m i = elim (cases_Bool (is kind.BindingIdentifier p.node)) [
  | inl e ↦ subst (λ new. AllBefore c (declares_all ds new)) (sym (name_declares_none p e)) tt
  | inr e ↦ entering_before c n aw p ds (declared_on_entering p) (entering_goes p.node.kind p v) (entering_by_var p.node.kind p refl) (solid n p.chain v k) (sheltered_at c aw p i s) (solid_match aw p.chain v (m e)) i
]

pub body_open : (p : Place) → is_catch_body p ≡ true → p.node.kind ≡ kind.BlockStatement
body_open p h =
    let b : is kind.BlockStatement p.node ≡ true = and_first (is kind.BlockStatement p.node) (same_role p.role role.Body) (and_first (is kind.BlockStatement p.node && same_role p.role role.Body) (parent_holds (is kind.CatchClause) p.path) h) in
    kind_is p.node.kind kind.BlockStatement b

closed_body : (p : Place) → is_catch_body p ≡ true → is_closed p.node.kind p.node.text ≡ false
closed_body p h = rw (body_open p h) refl

-- a take-over of another scope, by another
taken_before : (c : ℕ) (p : Place) (s : OpenScope) → (is_catch_body p ≡ true → (innermost p.chain).number ≡ c → ⊥) → (s.number ≡ c → ⊥) → AllBefore c (taken_over p s)
taken_before c p s f n = by (is_catch_body p) f
  where
    by : (b : Bool) → (b ≡ true → (innermost p.chain).number ≡ c → ⊥) → AllBefore c (cond b (takes_over (innermost p.chain).number s.number ∷ []) [])
    by true g = (refl, λ side. (ne_eqb (innermost p.chain).number c (g refl), ne_eqb s.number c n), tt)
    by false g = tt

-- the next function's scope lies within
first_less : (n : ℕ) (chain : List OpenScope) (t : OpenScope) → Descends n chain → first_with is_var chain ≡ Some t → t.number < n
first_less n [] t h e = absurd cc
first_less n (s ∷ ss) t h e = by (first_less s.number ss t h.1) (is_var s) e
  where
    by : (first_with is_var ss ≡ Some t → t.number < s.number) → (b : Bool) → cond b (Some s) (first_with is_var ss) ≡ Some t → t.number < n
    by rest true q = let i : s ≡ t = cc in subst (λ (o : OpenScope). o.number < n) i h.0
    by rest false q = omega (arith, rest q, h.0)

innermost_above : (c n : ℕ) (chain : List OpenScope) → Descends n chain → VarAbove c chain → c < (innermost chain).number
innermost_above c n [] h v = let q : None ≡ Some v.next = v.is in absurd cc
innermost_above c n (s ∷ ss) h v = by (is_var s) v.is
  where
    by : (b : Bool) → cond b (Some s) (first_with is_var ss) ≡ Some v.next → c < s.number
    by true q = let i : s ≡ v.next = cc in subst (λ (o : OpenScope). c < o.number) (sym i) v.above
    by false q = omega (arith, first_less s.number ss v.next h.1 q, v.above)

opened_inside : (c n : ℕ) (aw : List ℕ) (ds : List Declaration) (p : Place) (s : OpenScope) → Descends n p.chain → IsSheltered aw p → contains aw c ≡ true → (s.number ≡ c → ⊥) → AllBefore c (events_of ds (opening p s))
opened_inside c n aw ds p s k sh i ne =
    before-append c (taken_over p s) (declares_all ds (declared_on_opening p s)) (taken_before c p s (λ b e. around b e (sheltered_at c aw p i sh)) ne) (opening_before c s ds (declared_on_opening p s) ne (opened_plain p s))
  where
    around : is_catch_body p ≡ true → (innermost p.chain).number ≡ c → (is_closed p.node.kind p.node.text ≡ true) ⊎ VarAbove c p.chain → ⊥
    around b e (inl q) = not_both q (closed_body p b)
    around b e (inr v) = absurd (omega (arith, innermost_above c n p.chain k v, e))

contains_rest : (d c : ℕ) (cs : List ℕ) → contains (d ∷ cs) c ≡ true → (d == c) ≡ false → contains cs c ≡ true
contains_rest d c cs h n = rw n at h

-- while the header lasts
awaited_steps : (c : ℕ) (ds : List Declaration) (aw fs stack : List ℕ) (seen : List (List ℕ)) (ss : List Step) → length fs ≡ length seen → AreHeaded aw fs ss → AreMatched aw ss → AreNested stack seen ss → AllGrounded ss → IsFalling aw → contains aw c ≡ true → c < length seen
    → Cut c (flat_map (events_of ds) ss)
awaited_steps c ds aw fs stack seen [] e h m k g d i l = no_end
awaited_steps c ds aw fs stack seen (entering p ∷ ss) e h m k g d i l =
    cut-append c (declares_all ds (declared_on_entering p)) (flat_map (events_of ds) ss) (entered_before c (length seen) aw ds p g.0 k.0.descends h.0.sheltered m.0 i)
    (awaited_steps c ds aw fs stack seen ss e h.1 m.1 k.1 g.1 d i l)
awaited_steps c ds aw fs stack seen (opening p s ∷ ss) e h m k g d i l =
    let apart : s.number ≡ c → ⊥ = opened_before c stack seen (opening p s) k.0 l p s refl in
    cut-append c (events_of ds (opening p s)) (flat_map (events_of ds) ss) (opened_inside c (length seen) aw ds p s k.0.0.descends h.0.0 i apart)
    (awaited_steps c ds (awaiting_past aw (opening p s)) (flags_past fs (opening p s)) (open_past stack (opening p s)) (seen_past seen (opening p s)) ss (same_length fs seen (opening p s) e) h.1 m.1 k.1 g.1 (falling_past aw fs stack seen (opening p s) e h.0 k.0 d) (more (has_header p)) (still_later c seen (opening p s) l))
  where
    more : (b : Bool) → contains (cond b (s.number ∷ aw) aw) c ≡ true
    more true = contains_more s.number aw c i
    more false = i
awaited_steps c ds aw fs stack seen (header_ending p s ∷ ss) e h m k g d i l = elim (eqb_tells s.number c) [
  | inl q ↦ ended s.number (flat_map (events_of ds) ss) q.0 (behind_steps c ds (awaiting_past aw (header_ending p s)) stack seen ss m.1 k.1 g.1 l
      (subst (λ a. contains (awaiting_past a (header_ending p s)) c ≡ false) (sym h.0.is) (not_among h.0.around s.number c (omega (arith, q.1)) (subst IsFalling h.0.is d).0)))
  | inr q ↦ not_yet (ends_header s.number) (flat_map (events_of ds) ss) q.0 tt (awaited_steps c ds (awaiting_past aw (header_ending p s)) fs stack seen ss e h.1 m.1 k.1 g.1 (falling_past aw fs stack seen (header_ending p s) e h.0 k.0 d)
      (subst (λ a. contains (awaiting_past a (header_ending p s)) c ≡ true) (sym h.0.is) (contains_rest s.number c h.0.around (subst (λ a. contains a c ≡ true) h.0.is i) q.0)) l)
]
awaited_steps c ds aw fs stack seen (closing p s ∷ ss) e h m k g d i l = awaited_steps c ds aw fs (open_past stack (closing p s)) seen ss e h.1 m.1 k.1 g.1 d i l
awaited_steps c ds aw fs stack seen (leaving p ∷ ss) e h m k g d i l = awaited_steps c ds aw fs stack seen ss e h.1 m.1 k.1 g.1 d i l

-- before the scope opens
chain_low : (c n : ℕ) (chain : List OpenScope) → Descends n chain → n ≤ c → ChainOn (is_scope c) false chain
chain_low c n [] h l = tt
chain_low c n (s ∷ ss) h l = (ne_eqb s.number c (λ e. absurd (omega (arith, e, h.0, l))), chain_low c s.number ss h.1 (omega (arith, h.0, l)))

entered_early : (c n : ℕ) (ds : List Declaration) (p : Place) → IsGrounded p → Descends n p.chain → n ≤ c → AllBefore c (declares_all ds (declared_on_entering p))
entered_early c n ds p (inr e) k l = subst (λ new. AllBefore c (declares_all ds new)) (sym (root_declares_none p e)) tt
entered_early c n ds p (inl v) k l = touched_before c ds (declared_on_entering p) (declares_touch (is_scope c) false p.chain ds (declared_on_entering p) (entering_goes p.node.kind p v) (chain_low c n (grounded p.chain) (solid n p.chain v k) l))

none_of : (f : Forest) → has_role [] f ≡ false
none_of nothing = refl
none_of (tree r k span text marks below id after) = none_of after

-- a scope with a header is no body's, and declares but its own name
header_no_body : (p : Place) → has_header p ≡ true → is_catch_body p ≡ true → ⊥
header_no_body p h b = not_both h (subst (λ k. has_role (header_roles k) p.node.children ≡ false) (sym (body_open p b)) (none_of p.node.children))

opened_own : (k : AstType) (p : Place) (own : OpenScope) → has_role (header_roles k) p.node.children ≡ true → EachDeclared IsOwnName (declared_inside k p own)
opened_own kind.Function p own h = own_named p own
opened_own kind.Class p own h = absurd (not_both h (none_of p.node.children))
opened_own kind.TSMappedType p own h = absurd (not_both h (none_of p.node.children))
opened_own _ p own h = tt

opened_self : (c : ℕ) (ds : List Declaration) (p : Place) (s : OpenScope) → has_header p ≡ true → AllBefore c (events_of ds (opening p s))
opened_self c ds p s h = before-append c (taken_over p s) (declares_all ds (declared_on_opening p s)) (none (is_catch_body p) (header_no_body p h)) (own_before c s ds (declared_on_opening p s) (opened_plain p s) (opened_own p.node.kind p s h))
  where
    none : (b : Bool) → (b ≡ true → ⊥) → AllBefore c (cond b (takes_over (innermost p.chain).number s.number ∷ []) [])
    none true n = absurd (n refl)
    none false n = tt

opened_early : (c n : ℕ) (ds : List Declaration) (p : Place) (s : OpenScope) → IsGrounded p → Descends n p.chain → n ≤ c → (s.number ≡ c → ⊥) → AllBefore c (events_of ds (opening p s))
opened_early c n ds p s g k l ne =
    before-append c (taken_over p s) (declares_all ds (declared_on_opening p s))
    (taken_before c p s (λ b e. absurd (omega (arith, first_below n p.chain (body_has_var p g b) k, e, l))) ne)
    (opening_before c s ds (declared_on_opening p s) ne (opened_plain p s))

cut_steps : (c : ℕ) (ds : List Declaration) (aw fs stack : List ℕ) (seen : List (List ℕ)) (ss : List Step) → length fs ≡ length seen → AreHeaded aw fs ss → AreMatched aw ss → AreNested stack seen ss → AllGrounded ss → IsFalling aw → contains aw c ≡ false → length seen ≤ c → WillAwait c aw ss
    → Cut c (flat_map (events_of ds) ss)
cut_steps c ds aw fs stack seen [] e h m k g d i l w = absurd w
cut_steps c ds aw fs stack seen (step ∷ ss) e h m k g d i l (inl q) = absurd (not_both q i)
cut_steps c ds aw fs stack seen (entering p ∷ ss) e h m k g d i l (inr w) =
    cut-append c (declares_all ds (declared_on_entering p)) (flat_map (events_of ds) ss) (entered_early c (length seen) ds p g.0 k.0.descends l)
    (cut_steps c ds aw fs stack seen ss e h.1 m.1 k.1 g.1 d i l w)
cut_steps c ds aw fs stack seen (opening p s ∷ ss) e h m k g d i l (inr w) = elim (eqb_tells s.number c) [
  | inl q ↦ by (has_header p) refl h.1 m.1 (falling_past aw fs stack seen (opening p s) e h.0 k.0 d) w q.1
  | inr q ↦ cut-append c (events_of ds (opening p s)) (flat_map (events_of ds) ss) (opened_early c (length seen) ds p s g.0 k.0.0.descends l q.1)
      (cut_steps c ds (awaiting_past aw (opening p s)) fs_next (open_past stack (opening p s)) seen_next ss lengths h.1 m.1 k.1 g.1 (falling_past aw fs stack seen (opening p s) e h.0 k.0 d)
      (still_not c aw (opening p s) (λ p2 s2 e2 i2. q.1 (ap number_or e2 ∙ i2)) i) (omega (arith, next, l, q.1, number)) w)
]
  where
    seen_next : List (List ℕ)
    seen_next = seen_past seen (opening p s)

    fs_next : List ℕ
    fs_next = flags_past fs (opening p s)

    lengths : length fs_next ≡ length seen_next
    lengths = same_length fs seen (opening p s) e

    number : s.number ≡ length seen
    number = opens_next stack seen p s k.0

    next : length seen_next ≡ ℕ.suc (length seen)
    next = omega (arith, length-append seen (numbers p.chain ∷ []))

    number_or : Step → ℕ
    number_or (opening p2 s2) = s2.number
    number_or (entering p2) = 0
    number_or (header_ending p2 s2) = 0
    number_or (closing p2 s2) = 0
    number_or (leaving p2) = 0

    by : (b : Bool) → has_header p ≡ b → AreHeaded (cond b (s.number ∷ aw) aw) fs_next ss → AreMatched (cond b (s.number ∷ aw) aw) ss → IsFalling (cond b (s.number ∷ aw) aw) → WillAwait c (cond b (s.number ∷ aw) aw) ss → s.number ≡ c → Cut c (flat_map (events_of ds) (opening p s ∷ ss))
    by true t h2 m2 d2 w2 q = cut-append c (events_of ds (opening p s)) (flat_map (events_of ds) ss) (opened_self c ds p s t)
        (awaited_steps c ds (s.number ∷ aw) fs_next (open_past stack (opening p s)) seen_next ss lengths h2 m2 k.1 g.1 d2 (ap (λ b. b || contains aw c) (eq-eqb s.number c q)) (omega (arith, next, number, q)))
    by false t h2 m2 d2 w2 q = absurd (never_again c aw (open_past stack (opening p s)) seen_next ss k.1 (omega (arith, next, number, q)) i w2)
cut_steps c ds aw fs stack seen (header_ending p s ∷ ss) e h m k g d i l (inr w) =
    not_yet (ends_header s.number) (flat_map (events_of ds) ss) (or_parts (s.number == c) (contains h.0.around c) (subst (λ a. contains a c ≡ false) h.0.is i)).0 tt
    (cut_steps c ds (awaiting_past aw (header_ending p s)) fs stack seen ss e h.1 m.1 k.1 g.1 (falling_past aw fs stack seen (header_ending p s) e h.0 k.0 d)
    (still_not c aw (header_ending p s) (λ p2 s2 e2 i2. opening_not e2) i) l w)
  where
    is_opening : Step → Bool
    is_opening (opening p2 s2) = true
    is_opening (entering p2) = false
    is_opening (header_ending p2 s2) = false
    is_opening (closing p2 s2) = false
    is_opening (leaving p2) = false

    opening_not : {p2 : Place} {s2 : OpenScope} → header_ending p s ≡ opening p2 s2 → ⊥
    opening_not e2 = let q : false ≡ true = ap is_opening e2 in absurd cc
cut_steps c ds aw fs stack seen (closing p s ∷ ss) e h m k g d i l (inr w) = cut_steps c ds aw fs (open_past stack (closing p s)) seen ss e h.1 m.1 k.1 g.1 d i l w
cut_steps c ds aw fs stack seen (leaving p ∷ ss) e h m k g d i l (inr w) = cut_steps c ds aw fs stack seen ss e h.1 m.1 k.1 g.1 d i l w

-- the events of a program
pub cut_program : (p : Tree) (c : ℕ) → first_fault p ≡ None → WillAwait c [] (steps p) → Cut c (events (steps p))
cut_program p c h w =
    cut_steps c (written_declarations (steps p)) [] [] [] [] (steps p) refl (program_headed p h) (program_matched p h) (program_nested p) (all_grounded p h) tt refl (omega arith) w

-- a header that holds a reference is awaited where that stands
reference_awaits : (r : Occurrence) (s : OpenScope) (aw fs : List ℕ) (ss : List Step) → AreHeaded aw fs ss → Among r (references ss) → Among s r.chain → s.in_header ≡ true → WillAwait s.number aw ss
reference_awaits r s aw fs [] h a b e = absurd a
reference_awaits r s aw fs (entering p ∷ ss) h a b e = by (λ q. inr (reference_awaits r s aw fs ss h.1 q b e)) (is kind.IdentifierReference p.node) refl a
  where
    by : (Among r (references ss) → WillAwait s.number aw (entering p ∷ ss)) → (t : Bool) → is kind.IdentifierReference p.node ≡ t → Among r (cons_option (cond t (Some (reference_at p)) None) (references ss)) → WillAwait s.number aw (entering p ∷ ss)
    by later true i (inl q) = inl (sym (match_among aw p.chain s (reference_matches aw fs p h.0 i) (subst (λ (o : Occurrence). Among s o.chain) (sym q) b)) ∙ e)
    by later true i (inr q) = later q
    by later false i q = later q
reference_awaits r s aw fs (opening p o ∷ ss) h a b e = inr (reference_awaits r s (awaiting_past aw (opening p o)) (flags_past fs (opening p o)) ss h.1 a b e)
reference_awaits r s aw fs (header_ending p o ∷ ss) h a b e = inr (reference_awaits r s (awaiting_past aw (header_ending p o)) fs ss h.1 a b e)
reference_awaits r s aw fs (closing p o ∷ ss) h a b e = inr (reference_awaits r s aw fs ss h.1 a b e)
reference_awaits r s aw fs (leaving p ∷ ss) h a b e = inr (reference_awaits r s aw fs ss h.1 a b e)

pub header_awaits : (p : Tree) (r : Occurrence) (s : OpenScope) → first_fault p ≡ None → Among r (references (steps p)) → Among s r.chain → s.in_header ≡ true → WillAwait s.number [] (steps p)
header_awaits p r s h a b e = reference_awaits r s [] [] (steps p) (program_headed p h) a b e
