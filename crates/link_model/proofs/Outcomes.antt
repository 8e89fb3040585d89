-- The outcome that is computed is the outcome by reachability.
use Rattle.std.proofs.Common.{◌≡◌, ◌⊎◌, inl, inr, ℕ, zero, suc, ◌==◌, List, [], ◌∷◌, ◌++◌, Bool, true, false, ◌&&◌, ◌||◌, Some, None, cond, refl, sym, ap, subst, ◌∙◌, bytes_eq, eq-eqb}
use Rattle.std.specs.Prelude.{flat_map, filter}
use Rattle.std.specs.List.{list_any}
use Rattle.std.proofs.lemmas.Bool.{eqb-true, and_parts}
use Rattle.semantic_syntax.specs.Tables.{Name}
use Rattle.reachability.specs.Rows.{Among}
use Rattle.reachability.proofs.Lists.{among_left, among_right, among_either}
use Rattle.link_search.specs.Reaches.{Reaches, ReachesItself, ReachesTerminal, ReachesNone}
use Rattle.link_model.specs.declared.outcome.LinkOutcome.TheVariants as outcome
use Rattle.link_model.specs.Module.{Analysed}
use Rattle.link_model.specs.Leads.{LinkEnd, pair, symbol, default_of, namespace_of, outside, is_terminal, leads}
use Rattle.link_model.specs.Outcome.{outcome_at, IsOfOne, IsOutcome}
use Rattle.link_model.specs.Computed.{same_end, is_among, new_ends, reached_within, reach_bound, ends_reached_from, returned_from, returns, all_same, loose_outcome, outcome_by, outcome_of, are_among, leads_within, is_closed, all_return_closed, suffices}

not_true : {P : Type 0} → false ≡ true → P
not_true h = absurd cc

names_are : (x y : Name) → bytes_eq x y ≡ true → x ≡ y
names_are [] [] e = refl
names_are [] (d ∷ y) e = not_true e
names_are (c ∷ x) [] e = not_true e
names_are (c ∷ x) (d ∷ y) e = let w : ((c == d) ≡ true) × (bytes_eq x y ≡ true) = and_parts (c == d) (bytes_eq x y) e in λ i. eqb-true c d w.0 i ∷ names_are x y w.1 i

same_is : (e f : LinkEnd) → same_end e f ≡ true → e ≡ f
same_is (pair m x) (pair n y) e = let w : ((m == n) ≡ true) × (bytes_eq x y ≡ true) = and_parts (m == n) (bytes_eq x y) e in λ i. pair (eqb-true m n w.0 i) (names_are x y w.1 i)
same_is (pair m x) (symbol n s) e = not_true e
same_is (pair m x) (default_of n) e = not_true e
same_is (pair m x) (namespace_of n) e = not_true e
same_is (pair m x) (outside s y) e = not_true e
same_is (symbol m s) (pair n y) e = not_true e
same_is (symbol m s) (symbol n r) e = let w : ((m == n) ≡ true) × ((s == r) ≡ true) = and_parts (m == n) (s == r) e in λ i. symbol (eqb-true m n w.0 i) (eqb-true s r w.1 i)
same_is (symbol m s) (default_of n) e = not_true e
same_is (symbol m s) (namespace_of n) e = not_true e
same_is (symbol m s) (outside t y) e = not_true e
same_is (default_of m) (pair n y) e = not_true e
same_is (default_of m) (symbol n s) e = not_true e
same_is (default_of m) (default_of n) e = ap default_of (eqb-true m n e)
same_is (default_of m) (namespace_of n) e = not_true e
same_is (default_of m) (outside t y) e = not_true e
same_is (namespace_of m) (pair n y) e = not_true e
same_is (namespace_of m) (symbol n s) e = not_true e
same_is (namespace_of m) (default_of n) e = not_true e
same_is (namespace_of m) (namespace_of n) e = ap namespace_of (eqb-true m n e)
same_is (namespace_of m) (outside t y) e = not_true e
same_is (outside s x) (pair n y) e = not_true e
same_is (outside s x) (symbol n r) e = not_true e
same_is (outside s x) (default_of n) e = not_true e
same_is (outside s x) (namespace_of n) e = not_true e
same_is (outside s None) (outside t None) e = let w : (bytes_eq s t ≡ true) × (true ≡ true) = and_parts (bytes_eq s t) true e in ap (λ u. outside u None) (names_are s t w.0)
same_is (outside s None) (outside t (Some y)) e = let w : (bytes_eq s t ≡ true) × (false ≡ true) = and_parts (bytes_eq s t) false e in not_true w.1
same_is (outside s (Some x)) (outside t None) e = let w : (bytes_eq s t ≡ true) × (false ≡ true) = and_parts (bytes_eq s t) false e in not_true w.1
same_is (outside s (Some x)) (outside t (Some y)) e = let w : (bytes_eq s t ≡ true) × (bytes_eq x y ≡ true) = and_parts (bytes_eq s t) (bytes_eq x y) e in λ i. outside (names_are s t w.0 i) (Some (names_are x y w.1 i))

name_itself : (x : Name) → bytes_eq x x ≡ true
name_itself [] = refl
name_itself (c ∷ x) = ap (λ b. b && bytes_eq x x) (eq-eqb c c refl) ∙ name_itself x

itself_same : (e : LinkEnd) → same_end e e ≡ true
itself_same (pair m x) = ap (λ b. b && bytes_eq x x) (eq-eqb m m refl) ∙ name_itself x
itself_same (symbol m s) = ap (λ b. b && (s == s)) (eq-eqb m m refl) ∙ eq-eqb s s refl
itself_same (default_of m) = eq-eqb m m refl
itself_same (namespace_of m) = eq-eqb m m refl
itself_same (outside s None) = ap (λ b. b && true) (name_itself s)
itself_same (outside s (Some x)) = ap (λ b. b && bytes_eq x x) (name_itself s) ∙ name_itself x

is_there : (e : LinkEnd) (es : List LinkEnd) → is_among e es ≡ true → Among e es
is_there e [] h = not_true h
is_there e (f ∷ es) h = go (same_end e f) refl h (λ k. is_there e es k)
  where
    go : (b : Bool) → same_end e f ≡ b → (b || is_among e es) ≡ true → (is_among e es ≡ true → Among e es) → Among e (f ∷ es)
    go true k h more = inl (sym (same_is e f k))
    go false k h more = inr (more h)

there_is : (e : LinkEnd) (es : List LinkEnd) → Among e es → is_among e es ≡ true
there_is e [] i = absurd i
there_is e (f ∷ es) (inl same) = ap (λ b. b || is_among e es) (subst (λ g. same_end e g ≡ true) (sym same) (itself_same e))
there_is e (f ∷ es) (inr i) = go (same_end e f) (there_is e es i)
  where
    go : (b : Bool) → is_among e es ≡ true → (b || is_among e es) ≡ true
    go true h = refl
    go false h = h

in_flat : (f : LinkEnd → List LinkEnd) (e x : LinkEnd) (es : List LinkEnd) → Among e es → Among x (f e) → Among x (flat_map f es)
in_flat f e x [] i j = absurd i
in_flat f e x (g ∷ es) (inl same) j = among_left x (f g) (flat_map f es) (subst (λ h. Among x (f h)) (sym same) j)
in_flat f e x (g ∷ es) (inr i) j = among_right x (f g) (flat_map f es) (in_flat f e x es i j)

pub record From (f : LinkEnd → List LinkEnd) (es : List LinkEnd) (x : LinkEnd) : Type 0 where
  pub source : LinkEnd
  pub is_source : Among source es
  pub is_led : Among x (f source)

of_flat : (f : LinkEnd → List LinkEnd) (x : LinkEnd) (es : List LinkEnd) → Among x (flat_map f es) → From f es x
of_flat f x [] i = absurd i
of_flat f x (g ∷ es) i = go (among_either x (f g) (flat_map f es) i) (λ j. of_flat f x es j)
  where
    go : Among x (f g) ⊎ Among x (flat_map f es) → (Among x (flat_map f es) → From f es x) → From f (g ∷ es) x
    go (inl j) more = record { source = g; is_source = inl refl; is_led = j }
    go (inr j) more = let w : From f es x = more j in record { source = w.source; is_source = inr w.is_source; is_led = w.is_led }

new_only : (old es : List LinkEnd) (x : LinkEnd) → Among x (new_ends old es) → Among x es
new_only old [] x i = i
new_only old (e ∷ es) x i = go (is_among e old) i (λ j. new_only old es x j) (λ j. new_only (e ∷ old) es x j)
  where
    go : (b : Bool) → Among x (cond b (new_ends old es) (e ∷ new_ends (e ∷ old) es)) → (Among x (new_ends old es) → Among x es) → (Among x (new_ends (e ∷ old) es) → Among x es) → Among x (e ∷ es)
    go true i more later = inr (more i)
    go false (inl same) more later = inl same
    go false (inr j) more later = inr (later j)

new_all : (old es : List LinkEnd) (x : LinkEnd) → Among x es → Among x (new_ends old es) ⊎ Among x old
new_all old [] x i = absurd i
new_all old (e ∷ es) x i = go (is_among e old) refl i (λ j. new_all old es x j) (λ j. new_all (e ∷ old) es x j)
  where
    later_or : Among x (new_ends (e ∷ old) es) ⊎ Among x (e ∷ old) → Among x (e ∷ new_ends (e ∷ old) es) ⊎ Among x old
    later_or (inl k) = inl (inr k)
    later_or (inr (inl same)) = inl (inl same)
    later_or (inr (inr k)) = inr k

    go : (b : Bool) → is_among e old ≡ b → Among x (e ∷ es) → (Among x es → Among x (new_ends old es) ⊎ Among x old) → (Among x es → Among x (new_ends (e ∷ old) es) ⊎ Among x (e ∷ old)) → Among x (cond b (new_ends old es) (e ∷ new_ends (e ∷ old) es)) ⊎ Among x old
    go true k (inl same) more later = inr (subst (λ y. Among y old) same (is_there e old k))
    go true k (inr j) more later = more j
    go false k (inl same) more later = inl (inl same)
    go false k (inr j) more later = later_or (later j)

module _ (ms : List Analysed) where
  -- what holds of all that it begins with, and of what that leads to, holds of all that is reached
  all_have : (P : LinkEnd → Type 0) → ((x y : LinkEnd) → P x → Among y (leads ms x) → P y) → (rounds : ℕ) (old new : List LinkEnd) → ((x : LinkEnd) → Among x old → P x) → ((x : LinkEnd) → Among x new → P x) → (x : LinkEnd) → Among x (reached_within ms rounds old new) → P x
  all_have P step rounds old [] h k x i = h x i
  all_have P step zero old (e ∷ es) h k x i = go (among_either x old (e ∷ es) i)
    where
      go : Among x old ⊎ Among x (e ∷ es) → P x
      go (inl j) = h x j
      go (inr j) = k x j
  all_have P step (suc rounds) old (e ∷ es) h k x i =
      all_have P step rounds (old ++ e ∷ es) (new_ends (old ++ e ∷ es) (flat_map (leads ms) (e ∷ es)))
      (λ y j. older y (among_either y old (e ∷ es) j))
      (λ y j. newer y (of_flat (leads ms) y (e ∷ es) (new_only (old ++ e ∷ es) (flat_map (leads ms) (e ∷ es)) y j))) x i
    where
      older : (y : LinkEnd) → Among y old ⊎ Among y (e ∷ es) → P y
      older y (inl j) = h y j
      older y (inr j) = k y j

      newer : (y : LinkEnd) → From (leads ms) (e ∷ es) y → P y
      newer y w = step w.source y (k w.source w.is_source) w.is_led

  stays : (rounds : ℕ) (old new : List LinkEnd) (x : LinkEnd) → Among x old ⊎ Among x new → Among x (reached_within ms rounds old new)
  stays rounds old [] x (inl i) = i
  stays rounds old [] x (inr i) = absurd i
  stays zero old (e ∷ es) x (inl i) = among_left x old (e ∷ es) i
  stays zero old (e ∷ es) x (inr i) = among_right x old (e ∷ es) i
  stays (suc rounds) old (e ∷ es) x (inl i) = stays rounds (old ++ e ∷ es) (new_ends (old ++ e ∷ es) (flat_map (leads ms) (e ∷ es))) x (inl (among_left x old (e ∷ es) i))
  stays (suc rounds) old (e ∷ es) x (inr i) = stays rounds (old ++ e ∷ es) (new_ends (old ++ e ∷ es) (flat_map (leads ms) (e ∷ es))) x (inl (among_right x old (e ∷ es) i))

  further : (e f g : LinkEnd) → Reaches (leads ms) e f → Among g (leads ms f) → Reaches (leads ms) e g
  further e _ g (Reaches.itself _) i = Reaches.onward e g g i (Reaches.itself g)
  further e f g (Reaches.onward _ h _ j rest) i = Reaches.onward e h g j (further h f g rest i)

  each_among : (all es : List LinkEnd) (x : LinkEnd) → are_among all es ≡ true → Among x es → Among x all
  each_among all [] x h i = absurd i
  each_among all (e ∷ es) x h (inl same) = subst (λ y. Among y all) same (is_there e all (and_parts (is_among e all) (are_among all es) h).0)
  each_among all (e ∷ es) x h (inr i) = each_among all es x (and_parts (is_among e all) (are_among all es) h).1 i

  leads_in : (all es : List LinkEnd) (x y : LinkEnd) → leads_within ms all es ≡ true → Among x es → Among y (leads ms x) → Among y all
  leads_in all [] x y h i j = absurd i
  leads_in all (e ∷ es) x y h (inl same) j = each_among all (leads ms e) y (and_parts (are_among all (leads ms e)) (leads_within ms all es) h).0 (subst (λ z. Among y (leads ms z)) (sym same) j)
  leads_in all (e ∷ es) x y h (inr i) j = leads_in all es x y (and_parts (are_among all (leads ms e)) (leads_within ms all es) h).1 i j

  -- a closed list has all that its members reach
  closed_has : (all : List LinkEnd) (x y : LinkEnd) → is_closed ms all ≡ true → Among x all → Reaches (leads ms) x y → Among y all
  closed_has all x _ h i (Reaches.itself _) = i
  closed_has all x y h i (Reaches.onward _ f _ j rest) = closed_has all f y h (leads_in all all x f h i j) rest

  module _ (e : LinkEnd) where
    all_reached : (x : LinkEnd) → Among x (ends_reached_from ms e) → Reaches (leads ms) e x
    all_reached x i = all_have (Reaches (leads ms) e) (λ y z r j. further e y z r j) (reach_bound ms) [] (e ∷ []) (λ y j. absurd j) (λ y j. begin y j) x i
      where
        begin : (y : LinkEnd) → Among y (e ∷ []) → Reaches (leads ms) e y
        begin y (inl same) = subst (Reaches (leads ms) e) same (Reaches.itself e)
        begin y (inr none) = absurd none

    begins : Among e (ends_reached_from ms e)
    begins = stays (reach_bound ms) [] (e ∷ []) e (inr (inl refl))

    -- a number that returns reaches itself
    pub record OnceReached (x y : LinkEnd) : Type 0 where
      pub next : LinkEnd
      pub step : Among next (leads ms x)
      pub rest : Reaches (leads ms) next y

    all_returned : (x y : LinkEnd) → Among y (returned_from ms x) → OnceReached x y
    all_returned x y i = all_have (OnceReached x) (λ z w r j. record { next = r.next; step = r.step; rest = further r.next z w r.rest j }) (reach_bound ms) [] (new_ends [] (leads ms x)) (λ z j. absurd j) (λ z j. record { next = z; step = new_only [] (leads ms x) z j; rest = Reaches.itself z }) y i

    returns_is : (x : LinkEnd) → returns ms x ≡ true → ReachesItself (leads ms) x
    returns_is x h = let w : OnceReached x x = all_returned x x (is_there x (returned_from ms x) h) in record { next = w.next; step = w.step; back = w.rest }

    is_returns : (x : LinkEnd) → is_closed ms (returned_from ms x) ≡ true → ReachesItself (leads ms) x → returns ms x ≡ true
    is_returns x c r = there_is x (returned_from ms x) (closed_has (returned_from ms x) r.next x c (stays (reach_bound ms) [] (new_ends [] (leads ms x)) r.next (inr (first (new_all [] (leads ms x) r.next r.step)))) r.back)
      where
        first : Among r.next (new_ends [] (leads ms x)) ⊎ ⊥ → Among r.next (new_ends [] (leads ms x))
        first (inl i) = i
        first (inr none) = absurd none

    kept : (p : LinkEnd → Bool) (x : LinkEnd) (es : List LinkEnd) → Among x es → p x ≡ true → Among x (filter p es)
    kept p x [] i h = absurd i
    kept p x (f ∷ es) i h = go (p f) refl i (λ j. kept p x es j h)
      where
        go : (b : Bool) → p f ≡ b → Among x (f ∷ es) → (Among x es → Among x (filter p es)) → Among x (cond b (f ∷ filter p es) (filter p es))
        go true k (inl same) more = inl same
        go true k (inr j) more = inr (more j)
        go false k (inl same) more = not_true (sym k ∙ ap p same ∙ h)
        go false k (inr j) more = more j

    of_kept : (p : LinkEnd → Bool) (x : LinkEnd) (es : List LinkEnd) → Among x (filter p es) → Among x es × (p x ≡ true)
    of_kept p x [] i = absurd i
    of_kept p x (f ∷ es) i = go (p f) refl i (λ j. of_kept p x es j)
      where
        go : (b : Bool) → p f ≡ b → Among x (cond b (f ∷ filter p es) (filter p es)) → (Among x (filter p es) → Among x es × (p x ≡ true)) → Among x (f ∷ es) × (p x ≡ true)
        go true k (inl same) more = (inl same, subst (λ y. p y ≡ true) same k)
        go true k (inr j) more = let w : Among x es × (p x ≡ true) = more j in (inr w.0, w.1)
        go false k j more = let w : Among x es × (p x ≡ true) = more j in (inr w.0, w.1)

    found : (t : LinkEnd) → Among t (filter is_terminal (ends_reached_from ms e)) → ReachesTerminal (leads ms) is_terminal e t
    found t i = let w : Among t (ends_reached_from ms e) × (is_terminal t ≡ true) = of_kept is_terminal t (ends_reached_from ms e) i in (all_reached t w.0, w.1)

    every : is_closed ms (ends_reached_from ms e) ≡ true → (t : LinkEnd) → ReachesTerminal (leads ms) is_terminal e t → Among t (filter is_terminal (ends_reached_from ms e))
    every c t r = kept is_terminal t (ends_reached_from ms e) (closed_has (ends_reached_from ms e) e t c begins r.0) r.1

    some_returns : (es : List LinkEnd) → list_any (returns ms) es ≡ true → (x : LinkEnd) × Among x es × (returns ms x ≡ true)
    some_returns [] h = not_true h
    some_returns (f ∷ es) h = go (returns ms f) refl h (λ k. some_returns es k)
      where
        go : (b : Bool) → returns ms f ≡ b → (b || list_any (returns ms) es) ≡ true → (list_any (returns ms) es ≡ true → (x : LinkEnd) × Among x es × (returns ms x ≡ true)) → (x : LinkEnd) × Among x (f ∷ es) × (returns ms x ≡ true)
        go true k h more = (f, inl refl, k)
        go false k h more = let w : (x : LinkEnd) × Among x es × (returns ms x ≡ true) = more h in (w.0, inr w.1, w.2)

    no_returns : (es : List LinkEnd) (x : LinkEnd) → list_any (returns ms) es ≡ false → Among x es → returns ms x ≡ true → ⊥
    no_returns [] x h i r = absurd i
    no_returns (f ∷ es) x h i r = go (returns ms f) refl h i (λ k j. no_returns es x k j r)
      where
        go : (b : Bool) → returns ms f ≡ b → (b || list_any (returns ms) es) ≡ false → Among x (f ∷ es) → (list_any (returns ms) es ≡ false → Among x es → ⊥) → ⊥
        go true k h i more = not_true (sym h)
        go false k h (inl same) more = not_true (sym k ∙ ap (returns ms) same ∙ r)
        go false k h (inr j) more = more h j

    closed_at : (es : List LinkEnd) (x : LinkEnd) → all_return_closed ms es ≡ true → Among x es → is_closed ms (returned_from ms x) ≡ true
    closed_at [] x h i = absurd i
    closed_at (f ∷ es) x h (inl same) = subst (λ y. is_closed ms (returned_from ms y) ≡ true) same (and_parts (is_closed ms (returned_from ms f)) (all_return_closed ms es) h).0
    closed_at (f ∷ es) x h (inr i) = closed_at es x (and_parts (is_closed ms (returned_from ms f)) (all_return_closed ms es) h).1 i

    one_of : (t : LinkEnd) (more : List LinkEnd) → all_same t more ≡ true → (u : LinkEnd) → Among u (t ∷ more) → u ≡ t
    one_of t more h u (inl same) = sym same
    one_of t [] h u (inr i) = absurd i
    one_of t (f ∷ more) h u (inr i) = one_of t more (and_parts (same_end t f) (all_same t more) h).1 u (next i)
      where
        next : Among u (f ∷ more) → Among u (t ∷ more)
        next (inl same) = inl (same_is t f (and_parts (same_end t f) (all_same t more) h).0 ∙ same)
        next (inr j) = inr j

    another : (t : LinkEnd) (more : List LinkEnd) → all_same t more ≡ false → (u : LinkEnd) × Among u more × (t ≡ u → ⊥)
    another t [] h = not_true (sym h)
    another t (f ∷ more) h = go (same_end t f) refl h (λ k. another t more k)
      where
        go : (b : Bool) → same_end t f ≡ b → (b && all_same t more) ≡ false → (all_same t more ≡ false → (u : LinkEnd) × Among u more × (t ≡ u → ⊥)) → (u : LinkEnd) × Among u (f ∷ more) × (t ≡ u → ⊥)
        go true k h rest = let w : (u : LinkEnd) × Among u more × (t ≡ u → ⊥) = rest h in (w.0, inr w.1, w.2)
        go false k h rest = (f, inl refl, (λ same. not_true (sym k ∙ subst (λ g. same_end t g ≡ true) same (itself_same t))))

    at_one : (t : LinkEnd) → is_terminal t ≡ true → IsOfOne ms e (outcome_at t) → IsOutcome ms e (outcome_at t)
    at_one (pair m x) h r = not_true h
    at_one (symbol m s) h r = r
    at_one (default_of m) h r = r
    at_one (namespace_of m) h r = r
    at_one (outside s x) h r = r

    pub computed : suffices ms e ≡ true → IsOutcome ms e (outcome_of ms e)
    computed h = go (filter is_terminal (ends_reached_from ms e)) refl
      where
        closed : is_closed ms (ends_reached_from ms e) ≡ true
        closed = (and_parts (is_closed ms (ends_reached_from ms e)) (all_return_closed ms (ends_reached_from ms e)) h).0

        closed_each : all_return_closed ms (ends_reached_from ms e) ≡ true
        closed_each = (and_parts (is_closed ms (ends_reached_from ms e)) (all_return_closed ms (ends_reached_from ms e)) h).1

        in' : (ts : List LinkEnd) → filter is_terminal (ends_reached_from ms e) ≡ ts → (t : LinkEnd) → Among t ts → ReachesTerminal (leads ms) is_terminal e t
        in' ts k t i = found t (subst (λ l. Among t l) (sym k) i)

        of_all : (ts : List LinkEnd) → filter is_terminal (ends_reached_from ms e) ≡ ts → (t : LinkEnd) → ReachesTerminal (leads ms) is_terminal e t → Among t ts
        of_all ts k t r = subst (λ l. Among t l) k (every closed t r)

        none : filter is_terminal (ends_reached_from ms e) ≡ [] → ReachesNone (leads ms) is_terminal e
        none k t r = absurd (of_all [] k t r)

        ringed : (b : Bool) → list_any (returns ms) (ends_reached_from ms e) ≡ b → filter is_terminal (ends_reached_from ms e) ≡ [] → IsOutcome ms e (outcome_by ms (ends_reached_from ms e) [])
        ringed true r k = subst (λ b. IsOutcome ms e (loose_outcome b)) (sym r) (none k, (let w : (x : LinkEnd) × Among x (ends_reached_from ms e) × (returns ms x ≡ true) = some_returns (ends_reached_from ms e) r in record { there = w.0; reached = all_reached w.0 w.1; again = returns_is w.0 w.2 }))
        ringed false r k = subst (λ b. IsOutcome ms e (loose_outcome b)) (sym r) (none k, (λ w. no_returns (ends_reached_from ms e) w.there r (closed_has (ends_reached_from ms e) e w.there closed begins w.reached) (is_returns w.there (closed_at (ends_reached_from ms e) w.there closed_each (closed_has (ends_reached_from ms e) e w.there closed begins w.reached)) w.again)))

        several : (t : LinkEnd) (more : List LinkEnd) (b : Bool) → all_same t more ≡ b → filter is_terminal (ends_reached_from ms e) ≡ t ∷ more → IsOutcome ms e (cond b (outcome_at t) outcome.Ambiguous)
        several t more true s k = at_one t (in' (t ∷ more) k t (inl refl)).1 (record { terminal = t; reached = record { reached = in' (t ∷ more) k t (inl refl); alone = λ u r. one_of t more s u (of_all (t ∷ more) k u r) }; told = refl })
        several t more false s k = (let w : (u : LinkEnd) × Among u more × (t ≡ u → ⊥) = another t more s in record { one = t; other = w.0; reached_one = in' (t ∷ more) k t (inl refl); reached_other = in' (t ∷ more) k w.0 (inr w.1); differ = w.2 })

        go : (ts : List LinkEnd) → filter is_terminal (ends_reached_from ms e) ≡ ts → IsOutcome ms e (outcome_by ms (ends_reached_from ms e) (filter is_terminal (ends_reached_from ms e)))
        go [] k = subst (λ l. IsOutcome ms e (outcome_by ms (ends_reached_from ms e) l)) (sym k) (ringed (list_any (returns ms) (ends_reached_from ms e)) refl k)
        go (t ∷ more) k = subst (λ l. IsOutcome ms e (outcome_by ms (ends_reached_from ms e) l)) (sym k) (several t more (all_same t more) refl k)
