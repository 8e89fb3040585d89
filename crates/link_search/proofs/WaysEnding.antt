-- Numbers whose ways all end are on no ring.
use Rattle.std.proofs.Common.{ℕ, List}
use Rattle.reachability.specs.Rows.{Among, row}
use Rattle.link_search.specs.Steps.{Leads, LeadsOn, LeadsToRing}
use Rattle.link_search.specs.Keeping.{WaysEnd, they_end}

module _ (rows : List (List ℕ)) where
  pub further : (a b c : ℕ) → Leads rows a b → Among c (row rows b) → Leads rows a c
  further a _ c (Leads.itself _) i = Leads.onward a c c i (Leads.itself c)
  further a b c (Leads.onward _ d _ j rest) i = Leads.onward a d c j (further d b c rest i)

  -- from a to b, and a step to c
  pub step_on : (a b c : ℕ) → LeadsOn rows a b → Among c (row rows b) → LeadsOn rows a c
  step_on a b c l i = record { next = l.next; step = l.step; rest = further l.next b c l.rest i }

  pub one_step : (a b : ℕ) → Among b (row rows a) → LeadsOn rows a b
  one_step a b i = record { next = b; step = i; rest = Leads.itself b }

  -- the next number on a ring is on it too
  ring_on : (a : ℕ) (l : LeadsOn rows a a) → LeadsOn rows l.next l.next
  ring_on a l = go l.next l.step l.rest
    where
      go : (b : ℕ) → Among b (row rows a) → Leads rows b a → LeadsOn rows b b
      go _ i (Leads.itself _) = one_step a a i
      go b i (Leads.onward _ c _ j rest) = record { next = c; step = j; rest = further c a b rest i }

  no_ring : (a : ℕ) → WaysEnd rows a → LeadsOn rows a a → ⊥
  no_ring _ (they_end a f) l = no_ring l.next (f l.next l.step) (ring_on a l)

  on_the_way : (a b : ℕ) → WaysEnd rows a → Leads rows a b → WaysEnd rows b
  on_the_way a _ w (Leads.itself _) = w
  on_the_way _ b (they_end a f) (Leads.onward _ c _ i rest) = on_the_way c b (f c i) rest

  pub leads_to_none : (a : ℕ) → WaysEnd rows a → LeadsToRing rows a → ⊥
  leads_to_none a w r = no_ring r.there (on_the_way a r.there w r.reached) r.ring

  pub ring_before : (a b : ℕ) → Among b (row rows a) → LeadsToRing rows b → LeadsToRing rows a
  ring_before a b i r = record { there = r.there; reached = Leads.onward a b r.there i r.reached; ring = r.ring }
