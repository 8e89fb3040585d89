-- At the end of a header only those references are looked up that wait since its scope opened: the others stay as they are.
use Rattle.std.proofs.Common.{◌≡◌, ℕ, zero, suc, ◌+◌, ◌<◌, ◌≤◌, ◌==◌, List, [], ◌∷◌, ◌++◌, Option, Some, None, IfSome, Bool, true, false, cond, ◌||◌, inl, inr, refl, sym, ap, subst, ◌∙◌, length, map, take, drop, slice_index_or, arith}
use Rattle.std.specs.List.{AllByRecursion}
use Rattle.std.specs.Prelude.{slice_set}
use Rattle.std.specs.Option.{option_map_or}
use Rattle.std.proofs.lemmas.Bool.{cases_lt}
use Rattle.std.proofs.lemmas.Bool.Decides.{eqb_tells}
use Rattle.std.proofs.lemmas.List.{length-append, length-set, get_or_past, get_or_append_left, get_or-append-add}
use Rattle.semantic_kinds.specs.declared.kind.AstType.TheVariants as kind
use Rattle.semantic_syntax.specs.declared.scope_flags.TheConstants.ScopeFlags as flag
use Rattle.semantic_syntax.specs.Sets.{meets}
use Rattle.semantic_syntax.specs.Tables.{Scope, Tables}
use Rattle.semantic_syntax.specs.Source.{chain_within, chain}
use Rattle.semantic_syntax.specs.Reading.{scope_of, no_scope, parent_of}
use Rattle.semantic_syntax.specs.Told.{source_of}
use Rattle.semantic_tree.specs.Views.{is}
use Rattle.semantic_model.specs.Place.{Place, OpenScope, scope_of_place}
use Rattle.semantic_model.specs.Declaration.{Declaration}
use Rattle.semantic_syntax.specs.Members.{contains}
use Rattle.semantic_model.specs.Step.{Step, entering, opening, header_ending, closing, leaving}
use Rattle.semantic_model.specs.Event.{events_of}
use Rattle.semantic_syntax.specs.Lookup.{Lookup, tied, barred, unanswered}
use Rattle.semantic_model.specs.TablesOf.{is_direct_eval}
use Rattle.semantic_syntax.specs.Outcome.{Pending, Outcome, means, is_free, waits, outcome_or, waits_outside, is_below, lookup_along, up_to, header_outcome, staying, waiting_on, looked_up_from}
use Rattle.walk_model.specs.WalkState.{WalkState}
use Rattle.walk_model.specs.Settles.{settle, end_header}
use Rattle.walk_model.specs.Opens.{innermost_number, with_eval, add_eval, note_eval, refer, note_reference, open_scope}
use Rattle.walk_model.specs.Walks.{prepare, after, after_all}
use Rattle.walk_model.proofs.opens.LeftByDeclaring.{Untouched, acts_untouched}
use Rattle.walk_model.proofs.opens.OpenedScopes.{entering_declares, opening_declares}
use Rattle.walk_model.proofs.turns.ChainsShown.{settle_scopes, after_count}
pub use Rattle.walk_model.specs.Waits.{ParentsFall, WaitsBelow, IsSound, FirstBelow}

-- the first so many references that wait stay as they are
pub record KeepsBefore (start : ℕ) (w v : WalkState) : Type 0 where
  pub enough : start ≤ length v.waiting
  pub same : take start v.waiting ≡ take start w.waiting

-- a scope before another doesn't lead outward to it
chain_below : (t : Tables) (rounds s c : ℕ) → ParentsFall t.scopes → s < c → contains (chain_within (parent_of t.scopes) rounds s) c ≡ false
unfolding chain_within
chain_below t zero s c f l = refl
chain_below t (suc rounds) s c f l =
    let other : (s == c) ≡ false = elim (eqb_tells s c) [ inl q ↦ absurd (omega (arith, q.1, l)) | inr q ↦ q.0 ] in
    let parent : IfSome (parent_of t.scopes s) (λ p. p < s) = f s in
    ap (λ b. b || contains (option_map_or (chain_within (parent_of t.scopes) rounds) (parent_of t.scopes s) []) c) other ∙ further (parent_of t.scopes s) parent (λ p k. chain_below t rounds p c f k)
  where
    further : (o : Option ℕ) → IfSome o (λ p. p < s) → ((p : ℕ) → p < c → contains (chain_within (parent_of t.scopes) rounds p) c ≡ false) → contains (option_map_or (chain_within (parent_of t.scopes) rounds) o []) c ≡ false
    further None h below = refl
    further (Some p) h below = below p (omega (arith, h, l))

outside_below : (t : Tables) (c : ℕ) (e : Pending) → ParentsFall t.scopes → WaitsBelow c e → is_below (source_of t) c e ≡ false
outside_below t c e f l = chain_below t (length t.scopes) e.lookup_scope c f l

all_outside : (t : Tables) (c : ℕ) (es : List Pending) → ParentsFall t.scopes → AllByRecursion (WaitsBelow c) es → AllByRecursion (λ e. is_below (source_of t) c e ≡ false) es
all_outside t c [] f h = tt
all_outside t c (e ∷ es) f h = (outside_below t c e f h.0, all_outside t c es f h.1)

-- the first ones wait neither in the scope nor below it
pub first_outside : (w : WalkState) (c start : ℕ) → IsSound w → FirstBelow c start w → AllByRecursion (λ e. is_below (source_of w.tables) c e ≡ false) (take start w.waiting)
first_outside w c start s h = all_outside w.tables c (take start w.waiting) s.falls h.below

-- so what waits there stays
pub outcome_stays : (t : Tables) (c : ℕ) (e : Pending) → ParentsFall t.scopes → WaitsBelow c e → header_outcome (source_of t) c e ≡ waits e.lookup_scope
outcome_stays t c e f l = rw (chain_below t (length t.scopes) e.lookup_scope c f l) refl

abbrev pub AllStay : (Pending → Outcome) → List Pending → Type 0
AllStay outcome es = AllByRecursion (λ e. outcome e ≡ waits e.lookup_scope) es

all_stay : (t : Tables) (c : ℕ) (es : List Pending) → ParentsFall t.scopes → AllByRecursion (WaitsBelow c) es → AllStay (header_outcome (source_of t) c) es
all_stay t c [] f h = tt
all_stay t c (e ∷ es) f h = (outcome_stays t c e f h.0, all_stay t c es f h.1)

-- where the first ones stay, settling is settling the rest
settle_rest_same : (outcome : Pending → Outcome) (t : Tables) (start : ℕ) (es : List Pending) → AllStay outcome (take start es) → settle t (drop start es) (map outcome (drop start es)) ≡ settle t es (map outcome es)
settle_rest_same outcome t zero es h = refl
settle_rest_same outcome t (suc start) [] h = refl
settle_rest_same outcome t (suc start) (e ∷ es) h = rw h.0 (settle_rest_same outcome t start es h.1)

staying_rest_same : (outcome : Pending → Outcome) (start : ℕ) (es : List Pending) → AllStay outcome (take start es) → take start es ++ staying (drop start es) (map outcome (drop start es)) ≡ staying es (map outcome es)
staying_rest_same outcome zero es h = refl
staying_rest_same outcome (suc start) [] h = refl
staying_rest_same outcome (suc start) (e ∷ es) h = rw h.0 (ap (λ l. e ∷ l) (staying_rest_same outcome start es h.1))

take_staying : (outcome : Pending → Outcome) (start : ℕ) (es : List Pending) → AllStay outcome (take start es) → take start (staying es (map outcome es)) ≡ take start es
take_staying outcome zero es h = refl
take_staying outcome (suc start) [] h = refl
take_staying outcome (suc start) (e ∷ es) h = rw h.0 (ap (λ l. e ∷ l) (take_staying outcome start es h.1))

enough_staying : (outcome : Pending → Outcome) (start : ℕ) (es : List Pending) → start ≤ length es → AllStay outcome (take start es) → start ≤ length (staying es (map outcome es))
enough_staying outcome zero es l h = omega arith
enough_staying outcome (suc start) [] l h = absurd (omega (arith, l))
enough_staying outcome (suc start) (e ∷ es) l h = rw h.0 (omega (arith, enough_staying outcome start es (omega (arith, l)) h.1))

-- to settle what waits since the start is to end the header
pub settled_since : (w : WalkState) (c start : ℕ) → IsSound w → FirstBelow c start w
    → ◌≡◌ {A = WalkState}
    (record w {
      tables = settle w.tables (drop start w.waiting) (map (header_outcome (source_of w.tables) c) (drop start w.waiting));
      waiting = take start w.waiting ++ staying (drop start w.waiting) (map (header_outcome (source_of w.tables) c) (drop start w.waiting));
    })
    (end_header w c)
settled_since w c start s h =
    let stay : AllStay (header_outcome (source_of w.tables) c) (take start w.waiting) = all_stay w.tables c (take start w.waiting) s.falls h.below in
    λ i. record w {
      tables = settle_rest_same (header_outcome (source_of w.tables) c) w.tables start w.waiting stay i;
      waiting = staying_rest_same (header_outcome (source_of w.tables) c) start w.waiting stay i;
    }

-- what waits first is kept
pub before_itself : (start : ℕ) (w : WalkState) → start ≤ length w.waiting → KeepsBefore start w w
before_itself start w l = record { enough = l; same = refl }

pub before_then : (start : ℕ) (w v u : WalkState) → KeepsBefore start w v → KeepsBefore start v u → KeepsBefore start w u
before_then start w v u h k = record { enough = k.enough; same = k.same ∙ h.same }

pub first_kept : (c start : ℕ) (w v : WalkState) → KeepsBefore start w v → FirstBelow c start w → FirstBelow c start v
first_kept c start w v k h = record { enough = k.enough; below = subst (AllByRecursion (WaitsBelow c)) (sym k.same) h.below }

same_waiting : (start : ℕ) (w v : WalkState) → start ≤ length w.waiting → v.waiting ≡ w.waiting → KeepsBefore start w v
same_waiting start w v l e = record { enough = omega (arith, l, ap length e); same = ap (take start) e }

take_left : (start : ℕ) (es fs : List Pending) → start ≤ length es → take start (es ++ fs) ≡ take start es
take_left zero es fs l = refl
take_left (suc start) [] fs l = absurd (omega (arith, l))
take_left (suc start) (e ∷ es) fs l = ap (λ l. e ∷ l) (take_left start es fs (omega (arith, l)))

take_all : (es : List Pending) → take (length es) es ≡ es
take_all [] = refl
take_all (e ∷ es) = ap (λ l. e ∷ l) (take_all es)

below_more : (n m : ℕ) (es : List Pending) → n ≤ m → AllByRecursion (WaitsBelow n) es → AllByRecursion (WaitsBelow m) es
below_more n m [] l h = tt
below_more n m (e ∷ es) l h = (omega (arith, l, h.0), below_more n m es l h.1)

below-push : (n : ℕ) (es : List Pending) (e : Pending) → AllByRecursion (WaitsBelow n) es → WaitsBelow n e → AllByRecursion (WaitsBelow n) (es ++ e ∷ [])
below-push n [] e h k = (k, tt)
below-push n (x ∷ es) e h k = (h.0, below-push n es e h.1 k)

-- the waiting references and parents as they are, and as many scopes
same_sound : (w v : WalkState) → v.tables.scopes ≡ w.tables.scopes → v.waiting ≡ w.waiting → IsSound w → IsSound v
same_sound w v e f h = record {
  falls = subst ParentsFall (sym e) h.falls;
  waits = subst (AllByRecursion (WaitsBelow (length v.tables.scopes))) (sym f) (subst (λ es. AllByRecursion (WaitsBelow (length es)) w.waiting) (sym e) h.waits);
}

-- a changed row with the same parent
parent_set : (es : List Scope) (s i : ℕ) (x : Scope) → x.parent ≡ (slice_index_or es s no_scope).parent → (slice_index_or (slice_set es s x) i no_scope).parent ≡ (slice_index_or es i no_scope).parent
parent_set [] s i x h = refl
parent_set (e ∷ es) zero zero x h = h
parent_set (e ∷ es) zero (suc i) x h = refl
parent_set (e ∷ es) (suc s) zero x h = refl
parent_set (e ∷ es) (suc s) (suc i) x h = parent_set es s i x h

eval_sound : (w : WalkState) (s : ℕ) → IsSound w → IsSound (add_eval w s)
eval_sound w s h = record {
  falls = λ i. subst (λ o. IfSome o (λ p. p < i)) (sym (parent_set w.tables.scopes s i (with_eval (scope_of w.tables s)) refl)) (h.falls i);
  waits = subst (λ n. AllByRecursion (WaitsBelow n) w.waiting) (sym (length-set w.tables.scopes s (with_eval (scope_of w.tables s)))) h.waits;
}

falls_push : (es : List Scope) (x : Scope) → IfSome x.parent (λ p. p < length es) → ParentsFall es → ParentsFall (es ++ x ∷ [])
falls_push es x h f i = elim (cases_lt i (length es)) [
  | inl l ↦ subst (λ (e : Scope). IfSome e.parent (λ p. p < i)) (sym (get_or_append_left es (x ∷ []) no_scope i l)) (f i)
  | inr l ↦ elim (cases_lt (length es) i) [
    | inl k ↦ subst (λ (e : Scope). IfSome e.parent (λ p. p < i)) (sym (get_or_past (es ++ x ∷ []) i no_scope (omega (arith, k, length-append es (x ∷ []))))) tt
    | inr k ↦ let q : length es + 0 ≡ i = omega (arith, l, k) in
        subst (λ j. IfSome (slice_index_or (es ++ x ∷ []) j no_scope).parent (λ p. p < j)) q
        (subst (λ (e : Scope). IfSome e.parent (λ p. p < length es + 0)) (sym (get_or-append-add es (x ∷ []) 0 no_scope)) (subst (λ n. IfSome x.parent (λ p. p < n)) (omega arith) h))
  ]
]

-- an outcome that waits in a scope that exists
abbrev pub IsWithin : ℕ → Outcome → Type 0
IsWithin n (means y) = Unit {0}
IsWithin n is_free = Unit {0}
IsWithin n (waits s) = s < n

header_within : (t : Tables) (n c : ℕ) (e : Pending) → ParentsFall t.scopes → c < n → WaitsBelow n e → IsWithin n (header_outcome (source_of t) c e)
header_within t n c e f l h = by (is_below (source_of t) c e) (lookup_along (source_of t) e (up_to c (chain (source_of t) e.lookup_scope)))
  where
    out : (o : Option ℕ) → IfSome o (λ p. p < c) → IsWithin n (option_map_or waits o is_free)
    out None k = tt
    out (Some p) k = omega (arith, k, l)

    by : (b : Bool) (o : Lookup) → IsWithin n (cond b (outcome_or (waits_outside (source_of t) c) o) (waits e.lookup_scope))
    by true (tied s y flags) = tt
    by true (barred s) = tt
    by true unanswered = out (parent_of t.scopes c) (f c)
    by false o = h

staying_within : (n : ℕ) (outcome : Pending → Outcome) (es : List Pending) → ((e : Pending) → WaitsBelow n e → IsWithin n (outcome e)) → AllByRecursion (WaitsBelow n) es → AllByRecursion (WaitsBelow n) (staying es (map outcome es))
staying_within n outcome [] f h = tt
staying_within n outcome (e ∷ es) f h = by (outcome e) (f e h.0) (staying_within n outcome es f h.1)
  where
    by : (o : Outcome) → IsWithin n o → AllByRecursion (WaitsBelow n) (staying es (map outcome es)) → AllByRecursion (WaitsBelow n) (waiting_on looked_up_from e o (staying es (map outcome es)))
    by (means y) k rest = rest
    by is_free k rest = rest
    by (waits s) k rest = (k, rest)

pub end_sound : (w : WalkState) (c : ℕ) → c < length w.tables.scopes → IsSound w → IsSound (end_header w c)
end_sound w c l h =
    let same : (end_header w c).tables.scopes ≡ w.tables.scopes = settle_scopes w (header_outcome (source_of w.tables) c) in
    record {
      falls = subst ParentsFall (sym same) h.falls;
      waits = subst (λ es. AllByRecursion (WaitsBelow (length es)) (end_header w c).waiting) (sym same)
          (staying_within (length w.tables.scopes) (header_outcome (source_of w.tables) c) w.waiting (λ e k. header_within w.tables (length w.tables.scopes) c e h.falls l k) h.waits);
    }

-- a header of the scope or of a later one ends
pub end_keeps : (w : WalkState) (c d start : ℕ) → c ≤ d → IsSound w → FirstBelow c start w → KeepsBefore start w (end_header w d)
end_keeps w c d start l s h =
    let stay : AllStay (header_outcome (source_of w.tables) d) (take start w.waiting) = all_stay w.tables d (take start w.waiting) s.falls (below_more c d (take start w.waiting) l h.below) in
    record {
      enough = enough_staying (header_outcome (source_of w.tables) d) start w.waiting h.enough stay;
      same = take_staying (header_outcome (source_of w.tables) d) start w.waiting stay;
    }

-- what holds after steps: what waited first still does, and all is sound
pub record GoesOn (start : ℕ) (w v : WalkState) : Type 0 where
  pub before : KeepsBefore start w v
  pub sound : IsSound v

goes_then : (start : ℕ) (w v u : WalkState) → KeepsBefore start w v → GoesOn start v u → GoesOn start w u
goes_then start w v u h k = record { before = before_then start w v u h k.before; sound = k.sound }

-- events that end no header
untouched_goes : (start : ℕ) (w v u : WalkState) → GoesOn start w v → Untouched v u → GoesOn start w u
untouched_goes start w v u h k = record {
  before = before_then start w v u h.before (same_waiting start v u h.before.enough k.waiting);
  sound = same_sound v u k.scopes k.waiting h.sound;
}

refer_goes : (start : ℕ) (w : WalkState) (p : Place) → scope_of_place p < length w.tables.scopes → start ≤ length w.waiting → IsSound w → GoesOn start w (note_reference w p)
refer_goes start w p l enough s = by (is kind.IdentifierReference p.node)
  where
    new : Pending
    new = record { name = p.node.text; reference = length w.tables.references; lookup_scope = scope_of_place p }

    by : (b : Bool) → GoesOn start w (cond b (refer w p) w)
    by true = record {
      before = record { enough = omega (arith, enough, length-append w.waiting (new ∷ [])); same = take_left start w.waiting (new ∷ []) enough };
      sound = record { falls = s.falls; waits = below-push (length w.tables.scopes) w.waiting new s.waits l };
    }
    by false = record { before = before_itself start w enough; sound = s }

note_goes : (start : ℕ) (w v : WalkState) (p : Place) → GoesOn start w v → GoesOn start w (note_eval v p)
note_goes start w v p h = by (is_direct_eval p.node)
  where
    by : (b : Bool) → GoesOn start w (cond b (add_eval v (scope_of_place p)) v)
    by true = record { before = record { enough = h.before.enough; same = h.before.same }; sound = eval_sound v (scope_of_place p) h.sound }
    by false = h

pub entering_goes : (ds : List Declaration) (start : ℕ) (w : WalkState) (p : Place) → scope_of_place p < length w.tables.scopes → start ≤ length w.waiting → IsSound w → GoesOn start w (after ds w (entering p))
entering_goes ds start w p l enough s =
    untouched_goes start w (prepare w (entering p)) (after ds w (entering p)) (note_goes start w (note_reference w p) p (refer_goes start w p l enough s))
    (acts_untouched (prepare w (entering p)) (events_of ds (entering p)) (entering_declares ds p))

open_goes : (start : ℕ) (w : WalkState) (p : Place) (s : OpenScope) → IfSome (innermost_number p.chain) (λ q. q < length w.tables.scopes) → start ≤ length w.waiting → IsSound w → GoesOn start w (open_scope w p s)
open_goes start w p s l enough h = record {
  before = record { enough = enough; same = refl };
  sound = record {
    falls = falls_push w.tables.scopes new l h.falls;
    waits = below_more (length w.tables.scopes) (length (open_scope w p s).tables.scopes) w.waiting (omega (arith, length-append w.tables.scopes (new ∷ []))) h.waits;
  };
}
  where
    new : Scope
    new = record { parent = innermost_number p.chain; node = s.opener; flags = record { bits = s.flags } }

pub opening_goes : (ds : List Declaration) (start : ℕ) (w : WalkState) (p : Place) (s : OpenScope) → IfSome (innermost_number p.chain) (λ q. q < length w.tables.scopes) → start ≤ length w.waiting → IsSound w → GoesOn start w (after ds w (opening p s))
opening_goes ds start w p s l enough h =
    untouched_goes start w (open_scope w p s) (after ds w (opening p s)) (open_goes start w p s l enough h)
    (acts_untouched (open_scope w p s) (events_of ds (opening p s)) (opening_declares ds p s))

-- what waits when a scope opens waits in scopes before it
pub opening_first : (ds : List Declaration) (w : WalkState) (p : Place) (s : OpenScope) → IsSound w → FirstBelow (length w.tables.scopes) (length w.waiting) (after ds w (opening p s))
opening_first ds w p s h =
    let u : Untouched (open_scope w p s) (after ds w (opening p s)) = acts_untouched (open_scope w p s) (events_of ds (opening p s)) (opening_declares ds p s) in
    first_kept (length w.tables.scopes) (length w.waiting) w (after ds w (opening p s)) (same_waiting (length w.waiting) w (after ds w (opening p s)) (omega arith) u.waiting)
    (record { enough = omega arith; below = subst (AllByRecursion (WaitsBelow (length w.tables.scopes))) (sym (take_all w.waiting)) h.waits })

pub closing_goes : (ds : List Declaration) (start : ℕ) (w : WalkState) (p : Place) (s : OpenScope) → start ≤ length w.waiting → IsSound w → GoesOn start w (after ds w (closing p s))
closing_goes ds start w p s enough h = by (meets (scope_of w.tables s.number).flags.bits flag.DirectEval.bits) (scope_of w.tables s.number).parent
  where
    itself : GoesOn start w w
    itself = record { before = before_itself start w enough; sound = h }

    by : (b : Bool) (o : Option ℕ) → GoesOn start w (cond b (option_map_or (add_eval w) o w) w)
    by true None = itself
    by true (Some q) = record { before = record { enough = enough; same = refl }; sound = eval_sound w q h }
    by false o = itself

pub ending_goes : (ds : List Declaration) (c start : ℕ) (w : WalkState) (p : Place) (s : OpenScope) → c ≤ s.number → s.number < length w.tables.scopes → IsSound w → FirstBelow c start w → GoesOn start w (after ds w (header_ending p s))
ending_goes ds c start w p s l k h f = record { before = end_keeps w c s.number start l h f; sound = end_sound w s.number k h }

-- steps in scopes that exist, of which so many are opened before; headers end of no scope before the scope
abbrev pub StepsFrom : (c n : ℕ) → List Step → Type 0
StepsFrom c n [] = Unit {0}
StepsFrom c n (entering p ∷ ss) = (scope_of_place p < n) × StepsFrom c n ss
StepsFrom c n (opening p s ∷ ss) = IfSome (innermost_number p.chain) (λ q. q < n) × StepsFrom c (suc n) ss
StepsFrom c n (header_ending p s ∷ ss) = ((c ≤ s.number) × (s.number < n)) × StepsFrom c n ss
StepsFrom c n (closing p s ∷ ss) = StepsFrom c n ss
StepsFrom c n (leaving p ∷ ss) = StepsFrom c n ss

-- step by step, the first ones stay
pub steps_go : (ds : List Declaration) (c start n : ℕ) (w : WalkState) (ss : List Step) → StepsFrom c n ss → length w.tables.scopes ≡ n → IsSound w → FirstBelow c start w → GoesOn start w (after_all ds w ss)
steps_go ds c start n w [] k e s f = record { before = before_itself start w f.enough; sound = s }
steps_go ds c start n w (entering p ∷ ss) k e s f =
    let g : GoesOn start w (after ds w (entering p)) = entering_goes ds start w p (omega (arith, k.0, e)) f.enough s in
    goes_then start w (after ds w (entering p)) (after_all ds w (entering p ∷ ss)) g.before
    (steps_go ds c start n (after ds w (entering p)) ss k.1 (omega (arith, after_count ds w (entering p ∷ []), e)) g.sound (first_kept c start w (after ds w (entering p)) g.before f))
steps_go ds c start n w (opening p s ∷ ss) k e h f =
    let g : GoesOn start w (after ds w (opening p s)) = opening_goes ds start w p s (subst (λ m. IfSome (innermost_number p.chain) (λ q. q < m)) (sym e) k.0) f.enough h in
    goes_then start w (after ds w (opening p s)) (after_all ds w (opening p s ∷ ss)) g.before
    (steps_go ds c start (suc n) (after ds w (opening p s)) ss k.1 (omega (arith, after_count ds w (opening p s ∷ []), e)) g.sound (first_kept c start w (after ds w (opening p s)) g.before f))
steps_go ds c start n w (header_ending p s ∷ ss) k e h f =
    let g : GoesOn start w (after ds w (header_ending p s)) = ending_goes ds c start w p s k.0.0 (omega (arith, k.0.1, e)) h f in
    goes_then start w (after ds w (header_ending p s)) (after_all ds w (header_ending p s ∷ ss)) g.before
    (steps_go ds c start n (after ds w (header_ending p s)) ss k.1 (omega (arith, after_count ds w (header_ending p s ∷ []), e)) g.sound (first_kept c start w (after ds w (header_ending p s)) g.before f))
steps_go ds c start n w (closing p s ∷ ss) k e h f =
    let g : GoesOn start w (after ds w (closing p s)) = closing_goes ds start w p s f.enough h in
    goes_then start w (after ds w (closing p s)) (after_all ds w (closing p s ∷ ss)) g.before
    (steps_go ds c start n (after ds w (closing p s)) ss k (omega (arith, after_count ds w (closing p s ∷ []), e)) g.sound (first_kept c start w (after ds w (closing p s)) g.before f))
steps_go ds c start n w (leaving p ∷ ss) k e h f = steps_go ds c start n w ss k e h f
