-- Numbers lead to one another as the names do that have them.
use Rattle.std.proofs.Common.{◌≡◌, ℕ, List, Some, refl, sym, subst, ◌∙◌, slice_get}
use Rattle.reachability.specs.Rows.{Among, row}
use Rattle.link_search.specs.Numbering.{Pair, AreDistinctPairs}
use Rattle.link_search.specs.Graph.{AreRowsOf}
use Rattle.link_search.specs.Steps.{Leads, LeadsOn, LeadsToRing}
use Rattle.link_search.specs.declared.exports.SetExports.{SetExports}
use Rattle.link_search.specs.declared.target.Target.{Target}
use Rattle.link_search.specs.declared.target.Target.TheVariants.{Name, End}
use Rattle.link_search.specs.declared.terminal.Terminal.{Terminal}
use Rattle.link_search.specs.Exports.{targets_of, leads_of}
use Rattle.link_search.specs.Reaches.{Reaches, ReachesItself, ReachesRing}
use Rattle.link_search.specs.Targets.{target_names}
use Rattle.link_search.proofs.Members.{name_among, among_name, has_number, of_number, one_place, some_same}

-- where names lead to names
abbrev pub names_of : SetExports → Pair → List Pair
names_of s p = target_names (targets_of s p)

pub further : (s : SetExports) (x y z : Target) → Reaches (leads_of s) x y → Among z (leads_of s y) → Reaches (leads_of s) x z
further s x _ z (Reaches.itself _) i = Reaches.onward x z z i (Reaches.itself z)
further s x y z (Reaches.onward _ b _ j rest) i = Reaches.onward x b z j (further s b y z rest i)

-- a terminal leads nowhere
stays_at : (s : SetExports) (x y : Target) (t : Terminal) → x ≡ End t → Reaches (leads_of s) x y → End t ≡ y
stays_at s x _ t is (Reaches.itself _) = sym is
stays_at s x y t is (Reaches.onward _ b _ i rest) = absurd (subst (λ z. Among b (leads_of s z)) is i)

pub is_stuck : (s : SetExports) (t : Terminal) (y : Target) → Reaches (leads_of s) (End t) y → End t ≡ y
is_stuck s t y r = stays_at s (End t) y t refl r

module _ (s : SetExports) (keys : List Pair) (rows : List (List ℕ)) (are : AreRowsOf (names_of s) keys rows) where
  -- what is known in numbers of a target that the name with the number reaches
  abbrev pub Lands : ℕ → Target → Type 0
  Lands i (Name m k) = (j : ℕ) × (slice_get keys j ≡ Some (m, k)) × Leads rows i j
  Lands i (End t) = (j : ℕ) × (q : Pair) × (slice_get keys j ≡ Some q) × Leads rows i j × Among (End t) (targets_of s q)

  ahead : (i j : ℕ) (y : Target) → Among j (row rows i) → Lands j y → Lands i y
  ahead i j (Name m k) a w = (w.0, w.1, Leads.onward i j w.0 a w.2)
  ahead i j (End t) a w = (w.0, w.1, w.2, Leads.onward i j w.0 a w.3, w.4)

  -- the name to which a name leads has a number in its row
  pub step_number : (i m k n l : ℕ) → slice_get keys i ≡ Some (m, k) → Among (Name n l) (targets_of s (m, k)) → (j : ℕ) × Among j (row rows i) × (slice_get keys j ≡ Some (n, l))
  step_number i m k n l e a = of_number keys (row rows i) (names_of s (m, k)) (are.each i (m, k) e) (n, l) (among_name (targets_of s (m, k)) n l a)

  onto : (i m k : ℕ) (b y : Target) → slice_get keys i ≡ Some (m, k) → Among b (targets_of s (m, k)) → Reaches (leads_of s) b y
      → ((j n l : ℕ) → b ≡ Name n l → slice_get keys j ≡ Some (n, l) → Lands j y) → Lands i y
  onto i m k (Name n l) y e a rest more =
      let w : (j : ℕ) × Among j (row rows i) × (slice_get keys j ≡ Some (n, l)) = step_number i m k n l e a in ahead i w.0 y w.1 (more w.0 n l refl w.2)
  onto i m k (End t) y e a rest more = subst (Lands i) (is_stuck s t y rest) (i, (m, k), e, Leads.itself i, a)

  lands_from : (x y : Target) → Reaches (leads_of s) x y → (i m k : ℕ) → x ≡ Name m k → slice_get keys i ≡ Some (m, k) → Lands i y
  lands_from x _ (Reaches.itself _) i m k is e = subst (Lands i) (sym is) (i, e, Leads.itself i)
  lands_from x y (Reaches.onward _ b _ a rest) i m k is e =
      onto i m k b y e (subst (λ z. Among b (leads_of s z)) is a) rest (λ j n l same there. lands_from b y rest j n l same there)

  -- what a name reaches is found in numbers
  pub lands : (i m k : ℕ) (y : Target) → slice_get keys i ≡ Some (m, k) → Reaches (leads_of s) (Name m k) y → Lands i y
  lands i m k y e r = lands_from (Name m k) y r i m k refl e

  -- what a number leads to has a name that is reached
  pub reaches : (i j : ℕ) → Leads rows i j → (p : Pair) → slice_get keys i ≡ Some p → (q : Pair) × (slice_get keys j ≡ Some q) × Reaches (leads_of s) (Name p.0 p.1) (Name q.0 q.1)
  reaches i _ (Leads.itself _) p e = (p, e, Reaches.itself (Name p.0 p.1))
  reaches i j (Leads.onward _ b _ a rest) p e =
      let w : (q : Pair) × (slice_get keys b ≡ Some q) × Among q (names_of s p) = has_number keys (row rows i) (names_of s p) (are.each i p e) b a in
      let v : (r : Pair) × (slice_get keys j ≡ Some r) × Reaches (leads_of s) (Name w.0.0 w.0.1) (Name r.0 r.1) = reaches b j rest w.0 w.1 in
      (v.0, v.1, Reaches.onward (Name p.0 p.1) (Name w.0.0 w.0.1) (Name v.0.0 v.0.1) (name_among (targets_of s p) w.0 w.2) v.2)

  -- ---- rings

  -- a number that leads to itself is that of a name that does
  itself_of : (j : ℕ) (q : Pair) → slice_get keys j ≡ Some q → LeadsOn rows j j → ReachesItself (leads_of s) (Name q.0 q.1)
  itself_of j q e l =
      let w : (r : Pair) × (slice_get keys l.next ≡ Some r) × Among r (names_of s q) = has_number keys (row rows j) (names_of s q) (are.each j q e) l.next l.step in
      let v : (r : Pair) × (slice_get keys j ≡ Some r) × Reaches (leads_of s) (Name w.0.0 w.0.1) (Name r.0 r.1) = reaches l.next j l.rest w.0 w.1 in
      let same : v.0 ≡ q = some_same v.0 q (sym v.1 ∙ e) in
      record { next = Name w.0.0 w.0.1; step = name_among (targets_of s q) w.0 w.2; back = subst (λ (r : Pair). Reaches (leads_of s) (Name w.0.0 w.0.1) (Name r.0 r.1)) same v.2 }

  pub ring_of : (i : ℕ) (p : Pair) → slice_get keys i ≡ Some p → LeadsToRing rows i → ReachesRing (leads_of s) (Name p.0 p.1)
  ring_of i p e r =
      let w : (q : Pair) × (slice_get keys r.there ≡ Some q) × Reaches (leads_of s) (Name p.0 p.1) (Name q.0 q.1) = reaches i r.there r.reached p e in
      record { there = Name w.0.0 w.0.1; reached = w.2; again = itself_of r.there w.0 w.1 r.ring }

  module _ (distinct : AreDistinctPairs keys) where
    leads_on : (j n l : ℕ) (b : Target) → slice_get keys j ≡ Some (n, l) → Among b (targets_of s (n, l)) → Reaches (leads_of s) b (Name n l) → LeadsOn rows j j
    leads_on j n l (End t) e a back = absurd (let h : End t ≡ Name n l = is_stuck s t (Name n l) back in cc)
    leads_on j n l (Name c d) e a back =
        let w : (h : ℕ) × Among h (row rows j) × (slice_get keys h ≡ Some (c, d)) = step_number j n l c d e a in
        let v : (h : ℕ) × (slice_get keys h ≡ Some (n, l)) × Leads rows w.0 h = lands w.0 c d (Name n l) w.2 back in
        record { next = w.0; step = w.1; rest = subst (Leads rows w.0) (one_place keys distinct v.0 j (n, l) v.1 e) v.2 }

    ring_at : (i : ℕ) (y : Target) → Lands i y → ReachesItself (leads_of s) y → LeadsToRing rows i
    ring_at i (Name n l) w again = record { there = w.0; reached = w.2; ring = leads_on w.0 n l again.next w.1 again.step again.back }
    ring_at i (End t) w again = absurd again.step

    pub of_ring : (i m k : ℕ) → slice_get keys i ≡ Some (m, k) → ReachesRing (leads_of s) (Name m k) → LeadsToRing rows i
    of_ring i m k e r = ring_at i r.there (lands i m k r.there e r.reached) r.again
