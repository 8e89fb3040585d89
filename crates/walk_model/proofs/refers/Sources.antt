-- What the walk's tables tell as a source is what the definitions ask.
use Rattle.std.proofs.Common.{◌≡◌, ℕ, zero, suc, ◌+◌, ◌<◌, ◌==◌, List, [], ◌∷◌, ◌++◌, Option, Some, None, Bool, true, false, ◌&&◌, not, inl, inr, refl, sym, ap, subst, ◌∙◌, map, length, slice_index_or, arith}
use Rattle.std.specs.Prelude.{slice_get}
use Rattle.std.specs.Option.{option_map_or}
use Rattle.std.specs.Int.RustNames.{bit_and}
use Rattle.std.specs.Int.Bits.{or_zero_r}
use Rattle.std.proofs.lemmas.Nat.{and_or_apart}
use Rattle.std.proofs.lemmas.Bool.Decides.{eqb_tells}
use Rattle.semantic_syntax.specs.declared.scope_flags.TheConstants.ScopeFlags as scope
use Rattle.semantic_syntax.specs.Sets.{meets, union}
use Rattle.semantic_syntax.specs.Tables.{Name, Scope}
use Rattle.semantic_syntax.specs.Source.{chain_within, chain}
use Rattle.semantic_syntax.specs.Reading.{no_scope, scope_flags, symbol_flags, parent_of}
use Rattle.semantic_syntax.specs.Told.{source_of}
use Rattle.semantic_model.specs.Place.{OpenScope}
use Rattle.semantic_model.specs.Binding.{get}
use Rattle.semantic_syntax.specs.Members.{contains}
use Rattle.semantic_model.specs.Event.{Event}
use Rattle.semantic_model.specs.Fold.{State, start}
use Rattle.semantic_model.specs.Hoist.{run}
use Rattle.semantic_syntax.specs.Lookup.{is_arguments, ends_after}
use Rattle.semantic_model.specs.Tie.{until_end_of, seen_as, answer}
use Rattle.semantic_syntax.specs.Outcome.{up_to, answer as source_answer}
use Rattle.semantic_model.proofs.fits.Outwards.{flags_at}
use Rattle.walk_model.specs.WalkState.{WalkState}
use Rattle.semantic_model.specs.TablesOf.{numbers}
use Rattle.walk_model.proofs.places.Nested.{AreLinked, Descends}
use Rattle.walk_model.proofs.shows.Represents.{Shows, bound_as}
use Rattle.walk_model.proofs.opens.EvalFlags.{flagged, flag_if, flagged_parent}
use Rattle.walk_model.proofs.opens.EvalReach.{reached, head_of}
use Rattle.walk_model.proofs.opens.OpenedScopes.{ShowsScopes, parent_seen, as_many}
use Rattle.walk_model.proofs.headers.Headed.{AreFlagged}
use Rattle.walk_model.proofs.refers.Lookups.{AreAlike}
use Rattle.walk_model.proofs.headers.Frozen.{Frozen}

-- bindings
symbol_seen : (n : ℕ) (w : WalkState) (st : State) (o : Option ℕ) → Shows n w st → option_map_or (λ y. Some (record { symbol = y; flags = symbol_flags w.tables y })) o None ≡ seen_as st o
symbol_seen n w st None h = refl
symbol_seen n w st (Some y) h = rw (h.symbols, flags_at st.symbols y) refl

pub answer_bound : (n : ℕ) (w : WalkState) (st : State) (c : ℕ) (x : Name) → Shows n w st → (source_answer (source_of w.tables) x c).bound ≡ seen_as st (get st.bindings c x)
answer_bound n w st c x h = ap (λ o. option_map_or (λ y. Some (record { symbol = y; flags = symbol_flags w.tables y })) o None) (bound_as n w st c x h) ∙ symbol_seen n w st (get st.bindings c x) h

-- the flag of `eval` ends no lookup
meets_flagged : (f : ℕ) (b : Bool) (m : ℕ) → bit_and scope.DirectEval.bits m ≡ 0 → meets (union f (flag_if b)) m ≡ meets f m
meets_flagged f true m e = ap (λ k. not (k == 0)) (and_or_apart m f scope.DirectEval.bits e)
meets_flagged f false m e = ap (λ k. not (bit_and k m == 0)) (or_zero_r f)

ends_flagged : (x : Name) (way f : ℕ) (b : Bool) → ends_after x way (union f (flag_if b)) ≡ ends_after x way f
ends_flagged x way f b = λ i. is_arguments x way && meets_flagged f b scope.Function.bits refl i && not (meets_flagged f b scope.Arrow.bits refl i)

flags_listed : (g : ℕ → Bool) (k : ℕ) (bare : List Scope) (i f : ℕ) → slice_get (map (λ e. e.flags.bits) bare) i ≡ Some f → (slice_index_or (flagged g k bare) i no_scope).flags.bits ≡ union f (flag_if (g (k + i)))
flags_listed g k [] i f h = absurd cc
flags_listed g k (e ∷ es) zero f h =
    let q : e.flags.bits ≡ f = cc in
    let n : k ≡ k + 0 = omega arith in
    λ i. union (q i) (flag_if (g (n i)))
flags_listed g k (e ∷ es) (suc i) f h = flags_listed g (suc k) es i f h ∙ (let n : suc k + i ≡ k + suc i = omega arith in λ j. union f (flag_if (g (n j))))

pub ends_alike : (x : Name) (way : ℕ) (stack : List ℕ) (seen calls : List (List ℕ)) (bare : List Scope) (fs : List ℕ) (w : WalkState) (s : OpenScope) → ShowsScopes stack seen calls bare w → map (λ e. e.flags.bits) bare ≡ fs → slice_get fs s.number ≡ Some s.flags
    → ends_after x way (scope_flags w.tables s.number) ≡ ends_after x way s.flags
ends_alike x way stack seen calls bare fs w s h e g =
    let listed : scope_flags w.tables s.number ≡ union s.flags (flag_if (reached stack calls (0 + s.number))) =
    ap (λ es. (slice_index_or es s.number no_scope).flags.bits) h.scopes ∙ flags_listed (reached stack calls) 0 bare s.number s.flags (subst (λ l. slice_get l s.number ≡ Some s.flags) (sym e) g) in
    ap (ends_after x way) listed ∙ ends_flagged x way s.flags (reached stack calls (0 + s.number))

-- the chain by parents
pub parent_is : (stack : List ℕ) (seen calls : List (List ℕ)) (bare : List Scope) (w : WalkState) (i : ℕ) (around : List ℕ) → ShowsScopes stack seen calls bare w → slice_get seen i ≡ Some around → parent_of w.tables.scopes i ≡ head_of around
parent_is stack seen calls bare w i around h e =
    ap (λ es. parent_of es i) h.scopes ∙ flagged_parent (reached stack calls) 0 bare i ∙ parent_seen bare seen i around h.parents e

chain_along : (parent : ℕ → Option ℕ) (seen : List (List ℕ)) → ((i : ℕ) (around : List ℕ) → slice_get seen i ≡ Some around → parent i ≡ head_of around) → (rounds : ℕ) (s : OpenScope) (ss : List OpenScope) → AreLinked seen (s ∷ ss) → Descends rounds (s ∷ ss) → chain_within parent rounds s.number ≡ numbers (s ∷ ss)
unfolding chain_within
chain_along parent seen p zero s ss l d = absurd (omega (arith, d.0))
chain_along parent seen p (suc rounds) s [] l d = ap (λ o. s.number ∷ option_map_or (chain_within parent rounds) o []) (p s.number [] l.0)
chain_along parent seen p (suc rounds) s (t ∷ ts) l d =
    ap (λ o. s.number ∷ option_map_or (chain_within parent rounds) o []) (p s.number (numbers (t ∷ ts)) l.0)
    ∙ ap (λ ns. s.number ∷ ns) (chain_along parent seen p rounds t ts l.1 (omega (arith, d.0, d.1.0), d.1.1))

flagged_count : (g : ℕ → Bool) (k : ℕ) (es : List Scope) → length (flagged g k es) ≡ length es
flagged_count g k [] = refl
flagged_count g k (e ∷ es) = omega (arith, flagged_count g (suc k) es)

pub chain_is : (stack : List ℕ) (seen calls : List (List ℕ)) (bare : List Scope) (w : WalkState) (s : OpenScope) (ss : List OpenScope) → ShowsScopes stack seen calls bare w → AreLinked seen (s ∷ ss) → Descends (length seen) (s ∷ ss)
    → chain (source_of w.tables) s.number ≡ numbers (s ∷ ss)
chain_is stack seen calls bare w s ss h l d =
    let count : length w.tables.scopes ≡ length seen = omega (arith, ap length h.scopes, flagged_count (reached stack calls) 0 bare, as_many bare seen h.parents) in
    ap (λ n. chain_within (parent_of w.tables.scopes) n s.number) count
    ∙ chain_along (parent_of w.tables.scopes) seen (λ i around e. parent_is stack seen calls bare w i around h e) (length seen) s ss l d

-- the scopes up to one of them
pub up_to_is : (c : ℕ) (seg : List OpenScope) (h : OpenScope) (tail : List OpenScope) → h.number ≡ c → contains (numbers seg) c ≡ false → up_to c (numbers (seg ++ h ∷ tail)) ≡ numbers (seg ++ h ∷ [])
up_to_is c [] h tail e n = elim (eqb_tells h.number c) [ inl q ↦ rw q.0 refl | inr q ↦ absurd (q.1 e) ]
up_to_is c (s ∷ ss) h tail e n = elim (eqb_tells s.number c) [
  | inl q ↦ (let w : true ≡ false = rw q.0 at n in absurd cc)
  | inr q ↦ rw q.0 (ap (λ l. s.number ∷ l) (up_to_is c ss h tail e (rw q.0 at n)))
]

-- scopes are seen alike, where the views are those of the state
abbrev pub IsViewed : State → State → List Event → Name → OpenScope → Type 0
IsViewed st final es x s = seen_as st (get st.bindings s.number x) ≡ (answer final es x s).bound

abbrev pub AllViewed : State → State → List Event → Name → List OpenScope → Type 0
AllViewed st final es x [] = Unit {0}
AllViewed st final es x (s ∷ ss) = IsViewed st final es x s × AllViewed st final es x ss

pub viewed-append : (st final : State) (es : List Event) (x : Name) (xs ys : List OpenScope) → AllViewed st final es x xs → AllViewed st final es x ys → AllViewed st final es x (xs ++ ys)
viewed-append st final es x [] ys h k = k
viewed-append st final es x (s ∷ ss) ys h k = (h.0, viewed-append st final es x ss ys h.1 k)

pub all_alike : (n : ℕ) (w : WalkState) (st final : State) (es : List Event) (x : Name) (way : ℕ) (stack : List ℕ) (seen calls : List (List ℕ)) (bare : List Scope) (fs : List ℕ) (ss : List OpenScope) → Shows n w st → ShowsScopes stack seen calls bare w → map (λ e. e.flags.bits) bare ≡ fs → AreFlagged fs ss → AllViewed st final es x ss
    → AreAlike x way (map (source_answer (source_of w.tables) x) (numbers ss)) (map (answer final es x) ss)
all_alike n w st final es x way stack seen calls bare fs [] h k e f v = tt
all_alike n w st final es x way stack seen calls bare fs (s ∷ ss) h k e f v = (
  record { scope = refl; bound = answer_bound n w st s.number x h ∙ v.0; ends = ends_alike x way stack seen calls bare fs w s k e f.0 },
  all_alike n w st final es x way stack seen calls bare fs ss h k e f.1 v.1,
)

-- a scope whose header doesn't hold the place is seen as it stays
pub viewed_frozen : (c n : ℕ) (st final : State) (es : List Event) (x : Name) (s : OpenScope) → Frozen c n st final → c < s.number → s.number < n → s.in_header ≡ false → IsViewed st final es x s
viewed_frozen c n st final es x s f l m e = rw e (same (get st.bindings s.number x) refl)
  where
    same : (o : Option ℕ) → get st.bindings s.number x ≡ o → seen_as st (get st.bindings s.number x) ≡ seen_as final (get final.bindings s.number x)
    same None q = ap (seen_as st) q ∙ sym (ap (seen_as final) (f.bound s.number x l m ∙ q))
    same (Some y) q = ap (seen_as st) q ∙ (λ i. Some (record { symbol = y; flags = sym (f.flags s.number x y l m q) i })) ∙ sym (ap (seen_as final) (f.bound s.number x l m ∙ q))

-- the header's own as it stands when the header ends
pub viewed_ending : (c : ℕ) (st final : State) (es : List Event) (x : Name) (s : OpenScope) → s.number ≡ c → s.in_header ≡ true → run start (until_end_of c es) ≡ st → IsViewed st final es x s
viewed_ending c st final es x s e h r = rw h (sym (ap (λ (v : State). seen_as v (get v.bindings s.number x)) (ap (λ m. run start (until_end_of m es)) e ∙ r)))
