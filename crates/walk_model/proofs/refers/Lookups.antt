-- Lookups along a chain in parts, and the header at whose end they are settled.
use Rattle.std.proofs.Common.{◌≡◌, ℕ, ◌==◌, List, [], ◌∷◌, ◌++◌, Option, Some, None, Bool, true, false, cond, inl, inr, refl, sym, ap, ◌∙◌, map, arith}
use Rattle.std.proofs.lemmas.Bool.Decides.{eqb_tells}
use Rattle.semantic_syntax.specs.Tables.{Name}
use Rattle.semantic_model.specs.Place.{OpenScope}
use Rattle.semantic_syntax.specs.Members.{contains}
use Rattle.semantic_syntax.specs.Lookup.{Seen, Asked, Lookup, tied, barred, unanswered, fits, ends_after, tied_by, or_lookup, lookup}
use Rattle.semantic_model.specs.Tie.{first_header, header_from, moment_by, is_at}
use Rattle.semantic_model.specs.TablesOf.{numbers}

-- the scope that ends the lookup
abbrev pub answered_in : Lookup → Option ℕ
answered_in (tied c s f) = Some c
answered_in (barred c) = Some c
answered_in unanswered = None

-- what the first scope gives, before the others
first_step : (a c s f : ℕ) (t b : Bool) (more other : Lookup) → (answered_in more ≡ Some c → other ≡ more)
    → answered_in (or_lookup (cond t (Some (tied a s f)) None) (cond b (barred a) more)) ≡ Some c
    → or_lookup (cond t (Some (tied a s f)) None) (cond b (barred a) other) ≡ or_lookup (cond t (Some (tied a s f)) None) (cond b (barred a) more)
first_step a c s f true b more other rest q = refl
first_step a c s f false true more other rest q = refl
first_step a c s f false false more other rest q = rest q

first_bare : (a c : ℕ) (b : Bool) (more other : Lookup) → (answered_in more ≡ Some c → other ≡ more) → answered_in (cond b (barred a) more) ≡ Some c → cond b (barred a) other ≡ cond b (barred a) more
first_bare a c true more other rest q = refl
first_bare a c false more other rest q = rest q

pub lookup_first : (x : Name) (w : ℕ) (ls bs : List Asked) (c : ℕ) → answered_in (lookup x w ls) ≡ Some c → lookup x w (ls ++ bs) ≡ lookup x w ls
lookup_first x w [] bs c h = absurd cc
lookup_first x w (a ∷ ls) bs c h = by (lookup_first x w ls bs c) a.bound h
  where
    by : (answered_in (lookup x w ls) ≡ Some c → lookup x w (ls ++ bs) ≡ lookup x w ls) → (o : Option Seen)
        → answered_in (or_lookup (tied_by x w a.scope o) (cond (ends_after x w a.flags) (barred a.scope) (lookup x w ls))) ≡ Some c
        → or_lookup (tied_by x w a.scope o) (cond (ends_after x w a.flags) (barred a.scope) (lookup x w (ls ++ bs))) ≡ or_lookup (tied_by x w a.scope o) (cond (ends_after x w a.flags) (barred a.scope) (lookup x w ls))
    by rest None q = first_bare a.scope c (ends_after x w a.flags) (lookup x w ls) (lookup x w (ls ++ bs)) rest q
    by rest (Some s) q = first_step a.scope c s.symbol s.flags (fits x w s.flags) (ends_after x w a.flags) (lookup x w ls) (lookup x w (ls ++ bs)) rest q

-- nothing is answered by the first scope
through_step : (a s f : ℕ) (t b : Bool) (more other last : Lookup) → (answered_in more ≡ None → other ≡ last)
    → answered_in (or_lookup (cond t (Some (tied a s f)) None) (cond b (barred a) more)) ≡ None → or_lookup (cond t (Some (tied a s f)) None) (cond b (barred a) other) ≡ last
through_step a s f true b more other last rest q = absurd cc
through_step a s f false true more other last rest q = absurd cc
through_step a s f false false more other last rest q = rest q

through_bare : (a : ℕ) (b : Bool) (more other last : Lookup) → (answered_in more ≡ None → other ≡ last) → answered_in (cond b (barred a) more) ≡ None → cond b (barred a) other ≡ last
through_bare a true more other last rest q = absurd cc
through_bare a false more other last rest q = rest q

pub lookup_through : (x : Name) (w : ℕ) (ls bs : List Asked) → answered_in (lookup x w ls) ≡ None → lookup x w (ls ++ bs) ≡ lookup x w bs
lookup_through x w [] bs h = refl
lookup_through x w (a ∷ ls) bs h = by (lookup_through x w ls bs) a.bound h
  where
    by : (answered_in (lookup x w ls) ≡ None → lookup x w (ls ++ bs) ≡ lookup x w bs) → (o : Option Seen)
        → answered_in (or_lookup (tied_by x w a.scope o) (cond (ends_after x w a.flags) (barred a.scope) (lookup x w ls))) ≡ None
        → or_lookup (tied_by x w a.scope o) (cond (ends_after x w a.flags) (barred a.scope) (lookup x w (ls ++ bs))) ≡ lookup x w bs
    by rest None q = through_bare a.scope (ends_after x w a.flags) (lookup x w ls) (lookup x w (ls ++ bs)) (lookup x w bs) rest q
    by rest (Some s) q = through_step a.scope s.symbol s.flags (fits x w s.flags) (ends_after x w a.flags) (lookup x w ls) (lookup x w (ls ++ bs)) (lookup x w bs) rest q

-- the answer comes from one of the scopes
among_step : (a c s f : ℕ) (t b : Bool) (more : Lookup) (cs : List ℕ) → (answered_in more ≡ Some c → contains cs c ≡ true)
    → answered_in (or_lookup (cond t (Some (tied a s f)) None) (cond b (barred a) more)) ≡ Some c → contains (a ∷ cs) c ≡ true
among_step a c s f true b more cs rest q = let e : a ≡ c = cc in grind (arith, eqb_tells a c)
among_step a c s f false true more cs rest q = let e : a ≡ c = cc in grind (arith, eqb_tells a c)
among_step a c s f false false more cs rest q = let e : contains cs c ≡ true = rest q in grind (arith, eqb_tells a c)

among_bare : (a c : ℕ) (b : Bool) (more : Lookup) (cs : List ℕ) → (answered_in more ≡ Some c → contains cs c ≡ true) → answered_in (cond b (barred a) more) ≡ Some c → contains (a ∷ cs) c ≡ true
among_bare a c true more cs rest q = let e : a ≡ c = cc in grind (arith, eqb_tells a c)
among_bare a c false more cs rest q = let e : contains cs c ≡ true = rest q in grind (arith, eqb_tells a c)

pub answered_among : (x : Name) (w : ℕ) (ls : List Asked) (c : ℕ) → answered_in (lookup x w ls) ≡ Some c → contains (map (λ a. a.scope) ls) c ≡ true
answered_among x w [] c h = absurd cc
answered_among x w (a ∷ ls) c h = by (answered_among x w ls c) a.bound h
  where
    by : (answered_in (lookup x w ls) ≡ Some c → contains (map (λ (b : Asked). b.scope) ls) c ≡ true) → (o : Option Seen)
        → answered_in (or_lookup (tied_by x w a.scope o) (cond (ends_after x w a.flags) (barred a.scope) (lookup x w ls))) ≡ Some c → contains (a.scope ∷ map (λ (b : Asked). b.scope) ls) c ≡ true
    by rest None q = among_bare a.scope c (ends_after x w a.flags) (lookup x w ls) (map (λ (b : Asked). b.scope) ls) rest q
    by rest (Some s) q = among_step a.scope c s.symbol s.flags (fits x w s.flags) (ends_after x w a.flags) (lookup x w ls) (map (λ (b : Asked). b.scope) ls) rest q

-- what a lookup ties is bound by one of the scopes
pub data IsSeenBy (y f : ℕ) : List Asked → Type 0 where
  first_sees : {a : Asked} {ls : List Asked} → a.bound ≡ Some (record { symbol = y; flags = f }) → IsSeenBy y f (a ∷ ls)
  later_sees : {a : Asked} {ls : List Asked} → IsSeenBy y f ls → IsSeenBy y f (a ∷ ls)

seen_step : (a : Asked) (ls : List Asked) (c y f : ℕ) (t b : Bool) (s : Seen) (more : Lookup) → a.bound ≡ Some s → (more ≡ tied c y f → IsSeenBy y f ls)
    → or_lookup (cond t (Some (tied a.scope s.symbol s.flags)) None) (cond b (barred a.scope) more) ≡ tied c y f → IsSeenBy y f (a ∷ ls)
seen_step a ls c y f true b s more e rest q =
    let i : s.symbol ≡ y = cc in
    let j : s.flags ≡ f = cc in
    first_sees (e ∙ (λ k. Some (record { symbol = i k; flags = j k })))
seen_step a ls c y f false true s more e rest q = absurd cc
seen_step a ls c y f false false s more e rest q = later_sees (rest q)

seen_bare : (a : Asked) (ls : List Asked) (c y f : ℕ) (b : Bool) (more : Lookup) → (more ≡ tied c y f → IsSeenBy y f ls) → cond b (barred a.scope) more ≡ tied c y f → IsSeenBy y f (a ∷ ls)
seen_bare a ls c y f true more rest q = absurd cc
seen_bare a ls c y f false more rest q = later_sees (rest q)

pub tied_is_seen : (x : Name) (w : ℕ) (ls : List Asked) (c y f : ℕ) → lookup x w ls ≡ tied c y f → IsSeenBy y f ls
tied_is_seen x w [] c y f h = absurd cc
tied_is_seen x w (a ∷ ls) c y f h = by (tied_is_seen x w ls c y f) a.bound refl h
  where
    by : (lookup x w ls ≡ tied c y f → IsSeenBy y f ls) → (o : Option Seen) → a.bound ≡ o
        → or_lookup (tied_by x w a.scope o) (cond (ends_after x w a.flags) (barred a.scope) (lookup x w ls)) ≡ tied c y f → IsSeenBy y f (a ∷ ls)
    by rest None e q = seen_bare a ls c y f (ends_after x w a.flags) (lookup x w ls) rest q
    by rest (Some s) e q = seen_step a ls c y f (fits x w s.flags) (ends_after x w a.flags) s (lookup x w ls) e rest q

-- scopes that give the same
pub record Alike (x : Name) (w : ℕ) (a b : Asked) : Type 0 where
  pub scope : a.scope ≡ b.scope
  pub bound : a.bound ≡ b.bound
  pub ends : ends_after x w a.flags ≡ ends_after x w b.flags

abbrev pub AreAlike : Name → ℕ → List Asked → List Asked → Type 0
AreAlike x w [] [] = Unit {0}
AreAlike x w [] (b ∷ bs) = ⊥
AreAlike x w (a ∷ ls) [] = ⊥
AreAlike x w (a ∷ ls) (b ∷ bs) = Alike x w a b × AreAlike x w ls bs

pub lookup_alike : (x : Name) (w : ℕ) (ls bs : List Asked) → AreAlike x w ls bs → lookup x w ls ≡ lookup x w bs
lookup_alike x w [] [] h = refl
lookup_alike x w [] (b ∷ bs) h = absurd h
lookup_alike x w (a ∷ ls) [] h = absurd h
lookup_alike x w (a ∷ ls) (b ∷ bs) h = λ i. or_lookup (tied_by x w (h.0.scope i) (h.0.bound i)) (cond (h.0.ends i) (barred (h.0.scope i)) (lookup_alike x w ls bs h.1 i))

-- the scopes of the chain whose header holds the place
abbrev pub in_headers : List OpenScope → List ℕ
in_headers [] = []
in_headers (s ∷ ss) = cond s.in_header (s.number ∷ in_headers ss) (in_headers ss)

first_among : (chain : List OpenScope) (d : ℕ) → first_header chain ≡ Some d → contains (in_headers chain) d ≡ true
first_among [] d h = absurd cc
first_among (s ∷ ss) d h = by s.in_header (first_among ss d) h
  where
    by : (b : Bool) → (first_header ss ≡ Some d → contains (in_headers ss) d ≡ true) → cond b (Some s.number) (first_header ss) ≡ Some d → contains (cond b (s.number ∷ in_headers ss) (in_headers ss)) d ≡ true
    by true rest q = let e : s.number ≡ d = cc in grind (arith, eqb_tells s.number d)
    by false rest q = rest q

more_among : (s : OpenScope) (ss : List OpenScope) (d : ℕ) → contains (in_headers ss) d ≡ true → contains (in_headers (s ∷ ss)) d ≡ true
more_among s ss d h = by s.in_header
  where
    by : (b : Bool) → contains (cond b (s.number ∷ in_headers ss) (in_headers ss)) d ≡ true
    by true = grind (arith, eqb_tells s.number d)
    by false = h

pub header_among : (c : ℕ) (chain : List OpenScope) (d : ℕ) → header_from c chain ≡ Some d → contains (in_headers chain) d ≡ true
header_among c [] d h = absurd cc
header_among c (s ∷ ss) d h = by (s.number == c) (header_among c ss d) h
  where
    by : (b : Bool) → (header_from c ss ≡ Some d → contains (in_headers ss) d ≡ true) → cond b (first_header (s ∷ ss)) (header_from c ss) ≡ Some d → contains (in_headers (s ∷ ss)) d ≡ true
    by true rest q = first_among (s ∷ ss) d q
    by false rest q = more_among s ss d (rest q)

-- past scopes of other numbers
pub header_skip : (c : ℕ) (asked rest : List OpenScope) → contains (numbers asked) c ≡ false → header_from c (asked ++ rest) ≡ header_from c rest
header_skip c [] rest h = refl
header_skip c (s ∷ ss) rest h = elim (eqb_tells s.number c) [
  | inl e ↦ (let q : true ≡ false = rw e.0 at h in absurd cc)
  | inr e ↦ rw e.0 (header_skip c ss rest (rw e.0 at h))
]

abbrev pub NoneInHeader : List OpenScope → Type 0
NoneInHeader [] = Unit {0}
NoneInHeader (s ∷ ss) = (s.in_header ≡ false) × NoneInHeader ss

first_of_parts : (seg : List OpenScope) (h : OpenScope) (tail : List OpenScope) → NoneInHeader seg → h.in_header ≡ true → first_header (seg ++ h ∷ tail) ≡ Some h.number
first_of_parts [] h tail n e = rw e refl
first_of_parts (s ∷ ss) h tail n e = rw n.0 (first_of_parts ss h tail n.1 e)

-- from a scope inside a header, or the header's own
pub header_at : (c : ℕ) (seg : List OpenScope) (h : OpenScope) (tail : List OpenScope) → NoneInHeader seg → h.in_header ≡ true → contains (numbers (seg ++ h ∷ [])) c ≡ true → header_from c (seg ++ h ∷ tail) ≡ Some h.number
header_at c [] h tail n e k = elim (eqb_tells h.number c) [
  | inl q ↦ rw (q.0, e) refl
  | inr q ↦ (let w : false ≡ true = rw q.0 at k in absurd cc)
]
header_at c (s ∷ ss) h tail n e k = elim (eqb_tells s.number c) [
  | inl q ↦ rw q.0 (first_of_parts (s ∷ ss) h tail n e)
  | inr q ↦ rw q.0 (header_at c ss h tail n.1 e (rw q.0 at k))
]

first_none : (chain : List OpenScope) → NoneInHeader chain → first_header chain ≡ None
first_none [] n = refl
first_none (s ∷ ss) n = rw n.0 (first_none ss n.1)

pub header_none : (c : ℕ) (chain : List OpenScope) → NoneInHeader chain → header_from c chain ≡ None
header_none c [] n = refl
header_none c (s ∷ ss) n = by (s.number == c) (header_none c ss n.1)
  where
    by : (b : Bool) → header_from c ss ≡ None → cond b (first_header (s ∷ ss)) (header_from c ss) ≡ None
    by true h = first_none (s ∷ ss) n
    by false h = h

pub moment_answered : (l : Lookup) (chain : List OpenScope) (c : ℕ) → answered_in l ≡ Some c → moment_by l chain ≡ header_from c chain
moment_answered (tied d s f) chain c h = let e : d ≡ c = cc in ap (λ n. header_from n chain) e
moment_answered (barred d) chain c h = let e : d ≡ c = cc in ap (λ n. header_from n chain) e
moment_answered unanswered chain c h = absurd cc

pub moment_unanswered : (l : Lookup) (chain : List OpenScope) → answered_in l ≡ None → moment_by l chain ≡ None
moment_unanswered (tied d s f) chain h = absurd cc
moment_unanswered (barred d) chain h = absurd cc
moment_unanswered unanswered chain h = refl

-- it is not at a header that holds none of the scopes
pub not_at : (c : ℕ) (l : Lookup) (chain : List OpenScope) → ((d : ℕ) → answered_in l ≡ Some d → header_from d chain ≡ Some c → ⊥) → is_at c (moment_by l chain) ≡ false
not_at c l chain h = by (answered_in l) refl
  where
    at_option : (o : Option ℕ) → (o ≡ Some c → ⊥) → is_at c o ≡ false
    at_option None n = refl
    at_option (Some d) n = elim (eqb_tells c d) [ inl q ↦ absurd (n (ap Some (sym q.1))) | inr q ↦ q.0 ]

    by : (o : Option ℕ) → answered_in l ≡ o → is_at c (moment_by l chain) ≡ false
    by None e = ap (is_at c) (moment_unanswered l chain e)
    by (Some d) e = ap (is_at c) (moment_answered l chain d e) ∙ at_option (header_from d chain) (h d e)
