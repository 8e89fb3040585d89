-- As a header ends, what the scopes in it bind is as it stays, and so are the flags of their symbols.
use Rattle.std.proofs.Common.{◌≡◌, ℕ, ◌<◌, ◌≤◌, List, [], ◌∷◌, ◌++◌, Some, None, Bool, true, false, cond, ◌&&◌, ◌⊎◌, inl, inr, refl, sym, ap, subst, ◌∙◌, map, flat_map, length, nat_lt, arith}
use Rattle.std.proofs.lemmas.Bool.{and_from, and_left, and_right}
use Rattle.std.proofs.lemmas.Bool.Decides.{eqb_tells, Decides-ltb}
use Rattle.std.proofs.lemmas.List.{length-append}
use Rattle.semantic_kinds.specs.Roles.{same_role}
use Rattle.semantic_kinds.specs.declared.kind.AstType.{AstType}
use Rattle.semantic_kinds.specs.declared.kind.AstType.TheVariants as kind
use Rattle.semantic_kinds.specs.declared.role.Role.TheVariants as role
use Rattle.semantic_kinds.specs.declared.mark.Mark.TheVariants as mark
use Rattle.semantic_syntax.specs.Tables.{Name}
use Rattle.semantic_tree.specs.declared.node.Node.{Node}
use Rattle.semantic_tree.specs.Views.{is, has}
use Rattle.semantic_model.specs.Names.{names_at}
use Rattle.semantic_model.specs.Place.{Place, OpenScope, innermost, parent_holds}
use Rattle.semantic_model.specs.Binding.{get}
use Rattle.semantic_model.specs.Declaration.{How, plain, hoisted, moved, caught, Declaration, here, first_with}
use Rattle.semantic_syntax.specs.Members.{contains}
use Rattle.semantic_syntax.proofs.Truth.{and_first}
use Rattle.semantic_model.specs.Binder.{BinderRow, declaration_at, is_var, is_statement, own_function_row, class_row, type_parameter_row, ids, declared_on_entering, declared_inside, declared_on_opening}
use Rattle.semantic_model.specs.Event.{Event, declares, takes_over, placed_by, is_catch_body, taken_over, declares_all, events_of}
use Rattle.semantic_model.specs.Step.{Step, entering, opening, header_ending, closing, leaving}
use Rattle.semantic_model.specs.Fold.{State, flags_of}
use Rattle.semantic_model.specs.Hoist.{act, run}
use Rattle.semantic_model.proofs.lists.Bounds.{IsSound}
use Rattle.semantic_model.proofs.lists.Growth.{act_grows}
use Rattle.semantic_model.proofs.lists.BindingLaws.{get_among}
use Rattle.semantic_model.proofs.lists.Bounds.{get_below}
use Rattle.semantic_model.proofs.once.UseLists.{IsBelow}
use Rattle.semantic_model.proofs.form.Clauses.{kind_is}
use Rattle.semantic_model.specs.TablesOf.{numbers}
use Rattle.walk_model.proofs.places.Nested.{Descends, AreOpen, IsNestedStep, AreNested, open_past, seen_past, seen_longer}
use Rattle.walk_model.proofs.places.Routes.{grounded, HasVar, entering_goes, opening_goes}
use Rattle.walk_model.proofs.places.Grounds.{IsGrounded, IsStepGrounded, AllGrounded}
use Rattle.walk_model.proofs.declares.Simulated.{solid, root_declares_none, body_has_var, first_below}
use Rattle.walk_model.proofs.headers.Sides.{IsSided, act_sided}
use Rattle.walk_model.proofs.headers.OtherSide.{Keeps, AreOnOther, run_keeps, capped, capped_beyond, capped_sided}
use Rattle.walk_model.proofs.headers.NoStatements.{is_closed}
use Rattle.walk_model.proofs.headers.Headed.{VarAbove, IsSheltered, AllLess, IsHeadedStep, awaiting_past, has_header}
use Rattle.walk_model.proofs.headers.TouchedScopes.{ChainOn, AllTouch, touch-append, declares_touch, above, above_is, above_not, OneSided, AllOneSided, one-append, entering_sided}

-- the symbols held above the scope are held there alone
pub record SidedAt (c : ℕ) (st : State) : Type 0 where
  pub side : ℕ → Bool
  pub sided : IsSided (above c) side st

pub sided_run : (c : ℕ) (st : State) (es : List Event) → AllOneSided c es → IsSound st → SidedAt c st → SidedAt c (run st es)
sided_run c st [] o s h = h
sided_run c st (e ∷ es) o s h =
    let side : ℕ → Bool = capped h.side (length st.symbols) o.0.side in
    sided_run c (act st e) es o.1 (act_grows st e s).sound (record {
      side = side;
      sided = act_sided (above c) side o.0.side st e (o.0.touches side) (capped_beyond h.side (length st.symbols) o.0.side (length st.symbols) (omega arith)) (capped_sided (above c) h.side o.0.side st s h.sided);
    })

abbrev pub AllSidedAt : List ℕ → State → Type 0
AllSidedAt [] st = Unit {0}
AllSidedAt (c ∷ cs) st = SidedAt c st × AllSidedAt cs st

abbrev pub below : ℕ → ℕ → Bool
below n s = nat_lt s n

-- all scopes that hold something are below the number
abbrev pub IsWithin : ℕ → State → Type 0
IsWithin n st = IsSided (below n) (λ y. true) st

pub within_run : (n : ℕ) (st : State) (es : List Event) → AllTouch (below n) true es → IsWithin n st → IsWithin n (run st es)
within_run n st [] t h = h
within_run n st (e ∷ es) t h = within_run n (act st e) es t.1 (act_sided (below n) (λ y. true) true st e (t.0 (λ y. true)) refl h)

below_is : (s n : ℕ) → s < n → below n s ≡ true
below_is s n l = (Decides-ltb s n).1 l

below_tells : (s n : ℕ) → below n s ≡ true → s < n
below_tells s n e = (Decides-ltb s n).0 e

below_more : (s n m : ℕ) → n ≤ m → below n s ≡ true → below m s ≡ true
below_more s n m l e = below_is s m (let q : s < n = below_tells s n e in omega arith)

below_not : (s n : ℕ) → below n s ≡ true → above n s ≡ false
below_not s n e = above_not n s (let q : s < n = below_tells s n e in omega arith)

pub within_more : (n m : ℕ) (st : State) → n ≤ m → IsWithin n st → IsWithin m st
within_more n m st l h = record { bindings = λ e a. below_more e.scope n m l (h.bindings e a); remembered = λ e a. below_more e.scope n m l (h.remembered e a) }

-- nothing is held above the last scope
pub sided_new : (n : ℕ) (st : State) → IsWithin n st → SidedAt n st
sided_new n st h = record {
  side = λ y. false;
  sided = record { bindings = λ e a. below_not e.scope n (h.bindings e a); remembered = λ e a. below_not e.scope n (h.remembered e a) };
}

-- between two numbers
abbrev pub between : ℕ → ℕ → ℕ → Bool
between c n s = nat_lt c s && nat_lt s n

pub between_is : (c n s : ℕ) → c < s → s < n → between c n s ≡ true
between_is c n s l k = and_from (nat_lt c s) (nat_lt s n) (above_is c s l) (below_is s n k)

pub between_low : (c n s : ℕ) → s ≤ c → between c n s ≡ false
between_low c n s l = and_left (nat_lt c s) (nat_lt s n) (above_not c s l)

pub between_high : (c n s : ℕ) → n ≤ s → between c n s ≡ false
between_high c n s l = and_right (nat_lt c s) (nat_lt s n) (above_not s n l)

between_below : (c n s : ℕ) → below n s ≡ true → between c n s ≡ above c s
between_below c n s e = ap (λ b. nat_lt c s && b) e ∙ by (nat_lt c s)
  where
    by : (b : Bool) → (b && true) ≡ b
    by true = refl
    by false = refl

pub record Frozen (c n : ℕ) (st final : State) : Type 0 where
  pub bound : (s : ℕ) (x : Name) → c < s → s < n → get final.bindings s x ≡ get st.bindings s x
  pub flags : (s : ℕ) (x : Name) (y : ℕ) → c < s → s < n → get st.bindings s x ≡ Some y → flags_of final y ≡ flags_of st y

on_other : (inside side : ℕ → Bool) (es : List Event) → AllTouch inside false es → AreOnOther inside side es
on_other inside side [] h = tt
on_other inside side (e ∷ es) h = (h.0 side, on_other inside side es h.1)

pub frozen : (c n : ℕ) (st : State) (es : List Event) → SidedAt c st → IsWithin n st → IsSound st → AllTouch (between c n) false es → Frozen c n st (run st es)
frozen c n st es h w s t =
    let side : ℕ → Bool = capped h.side (length st.symbols) false in
    let sided : IsSided (between c n) side st = capped_sided (between c n) h.side false st s (record {
      bindings = λ e a. between_below c n e.scope (w.bindings e a) ∙ h.sided.bindings e a;
      remembered = λ e a. between_below c n e.scope (w.remembered e a) ∙ h.sided.remembered e a;
    }) in
    let k : Keeps (between c n) side st (run st es) = run_keeps (between c n) side st es (on_other (between c n) side es t) (λ m l. capped_beyond h.side (length st.symbols) false m l) sided in
    record {
      bound = λ x y l m. k.bound x y (between_is c n x l m);
      flags = λ x y z l m e.
          let q : IsBelow (length st.symbols) (Some z) = subst (IsBelow (length st.symbols)) e (get_below (length st.symbols) st.bindings x y s.bindings) in
          k.flags z (sym (sided.bindings (record { scope = x; name = y; symbol = z }) (get_among st.bindings x y z e)) ∙ between_is c n x l m) q;
    }

-- what an opening scope declares is its own
abbrev AllPlain : List Declaration → Type 0
AllPlain [] = Unit {0}
AllPlain (d ∷ ds) = (d.how ≡ plain) × AllPlain ds

row_plain : (node : Node) (row : BinderRow) (is_pure : Bool) (names : List Node) → row.how ≡ plain → AllPlain (map (declaration_at node row is_pure) names)
row_plain node row is_pure [] e = tt
row_plain node row is_pure (x ∷ xs) e = (e, row_plain node row is_pure xs e)

cond_plain : (b : Bool) (ds : List Declaration) → AllPlain ds → AllPlain (cond b [] ds)
cond_plain true ds h = tt
cond_plain false ds h = h

opening_plain : (k : AstType) (p : Place) (own : OpenScope) → AllPlain (declared_inside k p own)
opening_plain kind.Function p own = cond_plain (is_statement p.node) _ (row_plain p.node (own_function_row p own) (has mark.Pure p.node) (ids p.node) refl)
opening_plain kind.Class p own = cond_plain (is_statement p.node) _ (row_plain p.node (class_row p (own ∷ [])) false (ids p.node) refl)
opening_plain kind.TSMappedType p own = row_plain p.node (type_parameter_row (here (own ∷ []))) false (names_at role.Key p.node) refl
opening_plain _ p own = tt

plain_one : (c : ℕ) (how : How) (ds : List Declaration) (d : Declaration) → how ≡ plain → d.how ≡ how → OneSided c (declares (placed_by how ds d))
plain_one c plain ds d q e = record { side = above c d.route.target.number; touches = λ side. (refl, rw e tt) }
plain_one c hoisted ds d q e = absurd cc
plain_one c moved ds d q e = absurd cc
plain_one c caught ds d q e = absurd cc

plain_sided : (c : ℕ) (ds new : List Declaration) → AllPlain new → AllOneSided c (declares_all ds new)
plain_sided c ds [] h = tt
plain_sided c ds (d ∷ new) h = (plain_one c d.how ds d h.0 refl, plain_sided c ds new h.1)

-- the next function's scope lies within
first_less : (n : ℕ) (chain : List OpenScope) (t : OpenScope) → Descends n chain → first_with is_var chain ≡ Some t → t.number < n
first_less n [] t h e = absurd cc
first_less n (s ∷ ss) t h e = by (first_less s.number ss t h.1) (is_var s) e
  where
    by : (first_with is_var ss ≡ Some t → t.number < s.number) → (b : Bool) → cond b (Some s) (first_with is_var ss) ≡ Some t → t.number < n
    by rest true q = let i : s ≡ t = cc in subst (λ (o : OpenScope). o.number < n) i h.0
    by rest false q = omega (arith, rest q, h.0)

innermost_above : (c n : ℕ) (chain : List OpenScope) → Descends n chain → VarAbove c chain → c < (innermost chain).number
innermost_above c n [] h v = let q : None ≡ Some v.next = v.is in absurd cc
innermost_above c n (s ∷ ss) h v = by (is_var s) v.is
  where
    by : (b : Bool) → cond b (Some s) (first_with is_var ss) ≡ Some v.next → c < s.number
    by true q = let i : s ≡ v.next = cc in subst (λ (o : OpenScope). c < o.number) (sym i) v.above
    by false q = omega (arith, first_less s.number ss v.next h.1 q, v.above)

body_open : (p : Place) → is_catch_body p ≡ true → is_closed p.node.kind p.node.text ≡ false
body_open p h =
    let b : is kind.BlockStatement p.node ≡ true = and_first (is kind.BlockStatement p.node) (same_role p.role role.Body) (and_first (is kind.BlockStatement p.node && same_role p.role role.Body) (parent_holds (is kind.CatchClause) p.path) h) in
    let k : p.node.kind ≡ kind.BlockStatement = kind_is p.node.kind kind.BlockStatement b in rw k refl

taken_sided : (c n : ℕ) (p : Place) (s : OpenScope) → s.number ≡ n → c < n → Descends n p.chain → (is_closed p.node.kind p.node.text ≡ true) ⊎ VarAbove c p.chain → AllOneSided c (taken_over p s)
taken_sided c n p s e l k sh = go (is_catch_body p) refl sh
  where
    go : (b : Bool) → is_catch_body p ≡ b → (is_closed p.node.kind p.node.text ≡ true) ⊎ VarAbove c p.chain → AllOneSided c (cond b (takes_over (innermost p.chain).number s.number ∷ []) [])
    go true q (inl closed) = let w : true ≡ false = sym closed ∙ body_open p q in absurd cc
    go true q (inr v) = (record { side = true; touches = λ side. (above_is c (innermost p.chain).number (innermost_above c n p.chain k v), above_is c s.number (omega (arith, e, l))) }, tt)
    go false q sh = tt

-- of the scope itself, as it opens
taken_new : (n : ℕ) (p : Place) (s : OpenScope) → s.number ≡ n → IsGrounded p → Descends n p.chain → AllOneSided s.number (taken_over p s)
taken_new n p s e g k = go (is_catch_body p) refl
  where
    go : (b : Bool) → is_catch_body p ≡ b → AllOneSided s.number (cond b (takes_over (innermost p.chain).number s.number ∷ []) [])
    go true q =
        let l : (innermost p.chain).number < n = first_below n p.chain (body_has_var p g q) k in
        (record { side = false; touches = λ side. (above_not s.number (innermost p.chain).number (omega (arith, l, e)), above_not s.number s.number (omega arith)) }, tt)
    go false q = tt

solid_on : (inside : ℕ → Bool) (b : Bool) (chain : List OpenScope) → HasVar chain → ChainOn inside b chain → ChainOn inside b (grounded chain)
solid_on inside b [] v h = absurd (v refl)
solid_on inside b (s ∷ ss) v h = h

-- each header that is awaited
sheltered_each : (c : ℕ) (cs : List ℕ) (p : Place) → IsSheltered (c ∷ cs) p → ((is_closed p.node.kind p.node.text ≡ true) ⊎ VarAbove c p.chain) × IsSheltered cs p
sheltered_each c cs p (inl e) = (inl e, inl e)
sheltered_each c cs p (inr v) = (inr v.0, inr v.1)

entering_one : (c n : ℕ) (ds : List Declaration) (p : Place) → IsGrounded p → Descends n p.chain → (is_closed p.node.kind p.node.text ≡ true) ⊎ VarAbove c p.chain → AllOneSided c (declares_all ds (declared_on_entering p))
entering_one c n ds p (inl v) k s = entering_sided c n p ds (entering_goes p.node.kind p v) (solid n p.chain v k) s
entering_one c n ds p (inr e) k s = subst (λ new. AllOneSided c (declares_all ds new)) (sym (root_declares_none p e)) tt

entering_all : (cs : List ℕ) (n : ℕ) (ds : List Declaration) (p : Place) (st : State) → IsGrounded p → Descends n p.chain → IsSheltered cs p → IsSound st → AllSidedAt cs st → AllSidedAt cs (run st (declares_all ds (declared_on_entering p)))
entering_all [] n ds p st g k sh s h = tt
entering_all (c ∷ cs) n ds p st g k sh s h =
    let each : ((is_closed p.node.kind p.node.text ≡ true) ⊎ VarAbove c p.chain) × IsSheltered cs p = sheltered_each c cs p sh in
    (sided_run c st (declares_all ds (declared_on_entering p)) (entering_one c n ds p g k each.0) s h.0, entering_all cs n ds p st g k each.1 s h.1)

opening_all : (cs : List ℕ) (n : ℕ) (ds : List Declaration) (p : Place) (s : OpenScope) (st : State) → s.number ≡ n → AllLess cs n → Descends n p.chain → IsSheltered cs p → IsSound st → AllSidedAt cs st → AllSidedAt cs (run st (taken_over p s ++ declares_all ds (declared_on_opening p s)))
opening_all [] n ds p s st e l k sh b h = tt
opening_all (c ∷ cs) n ds p s st e l k sh b h =
    let each : ((is_closed p.node.kind p.node.text ≡ true) ⊎ VarAbove c p.chain) × IsSheltered cs p = sheltered_each c cs p sh in (
      sided_run c st (taken_over p s ++ declares_all ds (declared_on_opening p s))
          (one-append c (taken_over p s) (declares_all ds (declared_on_opening p s)) (taken_sided c n p s e l.0 k each.0) (plain_sided c ds (declared_on_opening p s) (opening_plain p.node.kind p s)))
          b h.0,
      opening_all cs n ds p s st e l.1 k each.1 b h.1,
    )

-- so it is after each step
pub sides_step : (ds : List Declaration) (st : State) (stack : List ℕ) (seen : List (List ℕ)) (awaiting fs : List ℕ) (step : Step) → length fs ≡ length seen → IsNestedStep stack seen step → IsStepGrounded step → IsHeadedStep awaiting fs step → IsSound st → IsWithin (length seen) st → AllSidedAt awaiting st
    → AllSidedAt (awaiting_past awaiting step) (run st (events_of ds step))
sides_step ds st stack seen awaiting fs (entering p) e k g h s w a = entering_all awaiting (length seen) ds p st g k.descends h.sheltered s a
sides_step ds st stack seen awaiting fs (opening p s) e k g h b w a = by (has_header p)
  where
    number : s.number ≡ length seen
    number = ap (λ o. o.number) k.1

    old : AllSidedAt awaiting (run st (events_of ds (opening p s)))
    old = opening_all awaiting (length seen) ds p s st number (subst (AllLess awaiting) e h.1) k.0.descends h.0 b a

    by : (t : Bool) → AllSidedAt (cond t (s.number ∷ awaiting) awaiting) (run st (events_of ds (opening p s)))
    by true = (
      sided_run s.number st (events_of ds (opening p s))
          (one-append s.number (taken_over p s) (declares_all ds (declared_on_opening p s)) (taken_new (length seen) p s number g k.0.descends) (plain_sided s.number ds (declared_on_opening p s) (opening_plain p.node.kind p s)))
          b (sided_new s.number st (subst (λ n. IsWithin n st) (sym number) w)),
      old,
    )
    by false = old
sides_step ds st stack seen awaiting fs (header_ending p s) e k g h b w a =
    subst (λ l. AllSidedAt (awaiting_past l (header_ending p s)) st) (sym h.is) (subst (λ l. AllSidedAt l st) h.is a).1
sides_step ds st stack seen awaiting fs (closing p s) e k g h b w a = a
sides_step ds st stack seen awaiting fs (leaving p) e k g h b w a = a

-- the events of a step touch scopes that are open
chain_below : (n m : ℕ) (chain : List OpenScope) → n ≤ m → Descends n chain → ChainOn (below m) true chain
chain_below n m [] l h = tt
chain_below n m (s ∷ ss) l h = (below_is s.number m (omega (arith, h.0, l)), chain_below s.number m ss (omega (arith, h.0, l)) h.1)

taken_touch : (inside : ℕ → Bool) (b : Bool) (p : Place) (s : OpenScope) → IsGrounded p → ChainOn inside b p.chain → inside s.number ≡ b → AllTouch inside b (taken_over p s)
taken_touch inside b p s g h i = go (is_catch_body p) refl
  where
    head_on : (chain : List OpenScope) → HasVar chain → ChainOn inside b chain → inside (innermost chain).number ≡ b
    head_on [] v k = absurd (v refl)
    head_on (c ∷ cs) v k = k.0

    go : (t : Bool) → is_catch_body p ≡ t → AllTouch inside b (cond t (takes_over (innermost p.chain).number s.number ∷ []) [])
    go true q = (λ side. (head_on p.chain (body_has_var p g q) h, i), tt)
    go false q = tt

entering_touch : (inside : ℕ → Bool) (b : Bool) (ds : List Declaration) (p : Place) → IsGrounded p → ChainOn inside b p.chain → AllTouch inside b (declares_all ds (declared_on_entering p))
entering_touch inside b ds p (inl v) h = declares_touch inside b p.chain ds (declared_on_entering p) (entering_goes p.node.kind p v) (solid_on inside b p.chain v h)
entering_touch inside b ds p (inr e) h = subst (λ new. AllTouch inside b (declares_all ds new)) (sym (root_declares_none p e)) tt

opening_touch : (inside : ℕ → Bool) (b : Bool) (ds : List Declaration) (p : Place) (s : OpenScope) → IsGrounded p → ChainOn inside b p.chain → inside s.number ≡ b → AllTouch inside b (taken_over p s ++ declares_all ds (declared_on_opening p s))
opening_touch inside b ds p s g h i =
    touch-append inside b (taken_over p s) (declares_all ds (declared_on_opening p s)) (taken_touch inside b p s g h i)
    (declares_touch inside b (s ∷ p.chain) ds (declared_on_opening p s) (opening_goes p.node.kind p s) (i, h))

pub within_step : (ds : List Declaration) (st : State) (stack : List ℕ) (seen : List (List ℕ)) (step : Step) → IsNestedStep stack seen step → IsStepGrounded step → IsWithin (length seen) st → IsWithin (length (seen_past seen step)) (run st (events_of ds step))
within_step ds st stack seen (entering p) k g w = within_run (length seen) st (declares_all ds (declared_on_entering p)) (entering_touch (below (length seen)) true ds p g (chain_below (length seen) (length seen) p.chain (omega arith) k.descends)) w
within_step ds st stack seen (opening p s) k g w =
    let more : length seen ≤ length (seen_past seen (opening p s)) = seen_longer seen (opening p s) in
    let number : s.number ≡ length seen = ap (λ (o : OpenScope). o.number) k.1 in
    let less : s.number < length (seen_past seen (opening p s)) = omega (arith, number, length-append seen (numbers p.chain ∷ [])) in
    within_run (length (seen_past seen (opening p s))) st (events_of ds (opening p s))
    (opening_touch (below (length (seen_past seen (opening p s)))) true ds p s g (chain_below (length seen) (length (seen_past seen (opening p s))) p.chain more k.0.descends) (below_is s.number (length (seen_past seen (opening p s))) less))
    (within_more (length seen) (length (seen_past seen (opening p s))) st more w)
within_step ds st stack seen (header_ending p s) k g w = w
within_step ds st stack seen (closing p s) k g w = w
within_step ds st stack seen (leaving p) k g w = w

-- later steps touch none but open scopes and new ones
open_on : (inside : ℕ → Bool) (stack : List ℕ) (chain : List OpenScope) → ((s : ℕ) → contains stack s ≡ true → inside s ≡ false) → AreOpen stack chain → ChainOn inside false chain
open_on inside stack [] f h = tt
open_on inside stack (s ∷ ss) f h = (f s.number h.0, open_on inside stack ss f h.1)

still_open : (stack : List ℕ) (step : Step) (s : ℕ) → contains (open_past stack step) s ≡ true → (contains stack s ≡ true) ⊎ ((p : Place) × (o : OpenScope) × (step ≡ opening p o) × (o.number ≡ s))
still_open stack (opening p o) s h = elim (eqb_tells o.number s) [
  | inl q ↦ inr (p, o, refl, q.1)
  | inr q ↦ inl (rw q.0 at h)
]
still_open [] (entering p) s h = inl h
still_open [] (header_ending p o) s h = inl h
still_open [] (closing p o) s h = inl h
still_open [] (leaving p) s h = inl h
still_open (c ∷ cs) (entering p) s h = inl h
still_open (c ∷ cs) (header_ending p o) s h = inl h
still_open (c ∷ cs) (closing p o) s h = inl (grind (arith, eqb_tells c s))
still_open (c ∷ cs) (leaving p) s h = inl h

step_touch : (inside : ℕ → Bool) (ds : List Declaration) (stack : List ℕ) (seen : List (List ℕ)) (step : Step) → IsNestedStep stack seen step → IsStepGrounded step → ((s : ℕ) → contains stack s ≡ true → inside s ≡ false) → ((s : ℕ) → length seen ≤ s → inside s ≡ false) → AllTouch inside false (events_of ds step)
step_touch inside ds stack seen (entering p) k g f n = entering_touch inside false ds p g (open_on inside stack p.chain f k.are_open)
step_touch inside ds stack seen (opening p s) k g f n = opening_touch inside false ds p s g (open_on inside stack p.chain f k.0.are_open) (n s.number (omega (arith, ap (λ (o : OpenScope). o.number) k.1)))
step_touch inside ds stack seen (header_ending p s) k g f n = (λ side. tt, tt)
step_touch inside ds stack seen (closing p s) k g f n = tt
step_touch inside ds stack seen (leaving p) k g f n = tt

opened_number : (stack : List ℕ) (seen : List (List ℕ)) (step : Step) (p : Place) (o : OpenScope) → step ≡ opening p o → IsNestedStep stack seen step → o.number ≡ length seen
opened_number stack seen step p o e k = let q : IsNestedStep stack seen (opening p o) = subst (IsNestedStep stack seen) e k in ap (λ (s : OpenScope). s.number) q.1

pub later_touch : (inside : ℕ → Bool) (ds : List Declaration) (stack : List ℕ) (seen : List (List ℕ)) (ss : List Step) → AreNested stack seen ss → AllGrounded ss → ((s : ℕ) → contains stack s ≡ true → inside s ≡ false) → ((s : ℕ) → length seen ≤ s → inside s ≡ false) → AllTouch inside false (flat_map (events_of ds) ss)
later_touch inside ds stack seen [] k g f n = tt
later_touch inside ds stack seen (step ∷ ss) k g f n =
    touch-append inside false (events_of ds step) (flat_map (events_of ds) ss) (step_touch inside ds stack seen step k.0 g.0 f n)
    (later_touch inside ds (open_past stack step) (seen_past seen step) ss k.1 g.1
    (λ s h. elim (still_open stack step s h) [
      | inl o ↦ f s o
      | inr q ↦ n s (omega (arith, opened_number stack seen step q.0 q.1 q.2 k.0, q.3))
    ])
    (λ s l. n s (omega (arith, l, seen_longer seen step))))
