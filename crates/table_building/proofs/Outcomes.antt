-- Over a lawful source each outcome names a symbol or a scope that exists.
use Rattle.std.proofs.Common.{ℕ, zero, suc, ◌==◌, ◌<◌, Bool, true, false, cond, List, [], ◌∷◌, Option, None, Some, IfSome, map}
use Rattle.std.specs.List.{AllByRecursion}
use Rattle.std.specs.Option.{option_map_or}
use Rattle.semantic_syntax.specs.Tables.{Name}
use Rattle.semantic_syntax.specs.Source.{Source, IsSource, chain, chain_within}
use Rattle.semantic_syntax.specs.Lookup.{Lookup, tied, barred, unanswered, fits, ends_after, tied_by, or_lookup, lookup}
use Rattle.semantic_syntax.specs.Outcome.{Pending, Outcome, waits, is_free, up_to, answer, answered, outcome_or, lookup_along, waits_outside, is_below, header_outcome, last_outcome}
use Rattle.table_building.specs.Settled.{IsOutcomeWithin}

module _ (source : Source) (law : IsSource source) where
  abbrev exists : Outcome → Type 0
  exists = IsOutcomeWithin source.symbols source.scopes

  -- the scopes outward exist
  pub chain_within-below : (n s : ℕ) → s < source.scopes → AllByRecursion (λ c. c < source.scopes) (chain_within source.parent n s)
  unfolding chain_within
  chain_within-below zero s h = tt
  chain_within-below (suc n) s h = (h, outward (source.parent s) (law.parents s h) (λ p h'. chain_within-below n p h'))
    where
      outward : (o : Option ℕ) → IfSome o (λ p. p < source.scopes)
          → ((p : ℕ) → p < source.scopes → AllByRecursion (λ c. c < source.scopes) (chain_within source.parent n p))
          → AllByRecursion (λ c. c < source.scopes) (option_map_or (chain_within source.parent n) o [])
      outward None h' further = tt
      outward (Some p) h' further = further p h'

  up_to-below : (last : ℕ) (ss : List ℕ) → AllByRecursion (λ c. c < source.scopes) ss → AllByRecursion (λ c. c < source.scopes) (up_to last ss)
  up_to-below last [] h = tt
  up_to-below last (s ∷ ss) h = (h.0, by (s == last) (up_to-below last ss h.1))
    where
      by : (b : Bool) → AllByRecursion (λ c. c < source.scopes) (up_to last ss) → AllByRecursion (λ c. c < source.scopes) (cond b [] (up_to last ss))
      by true further = tt
      by false further = further

  -- what scopes that exist answer exists
  found-below : (x : Name) (w : ℕ) (ss : List ℕ) → AllByRecursion (λ c. c < source.scopes) ss → IfSome (answered (lookup x w (map (answer source x) ss))) exists
  found-below x w [] h = tt
  found-below x w (s ∷ ss) h = by (source.bound s x) (law.bound_symbols s x h.0) (ends_after x w (source.scope_flags s)) (found-below x w ss h.1)
    where
      later : Lookup
      later = lookup x w (map (answer source x) ss)

      further : (b : Bool) → IfSome (answered later) exists → IfSome (answered (cond b (barred s) later)) exists
      further true rest = tt
      further false rest = rest

      fitting : (y : ℕ) (t b : Bool) → y < source.symbols → IfSome (answered later) exists
          → IfSome (answered (or_lookup (cond t (Some (tied s y (source.symbol_flags y))) None) (cond b (barred s) later))) exists
      fitting y true b h' rest = h'
      fitting y false b h' rest = further b rest

      by : (o : Option ℕ) → IfSome o (λ y. y < source.symbols) → (b : Bool) → IfSome (answered later) exists
          → IfSome (answered (or_lookup (tied_by x w s (option_map_or (λ y. Some (record { symbol = y; flags = source.symbol_flags y })) o None)) (cond b (barred s) later))) exists
      by None h' b rest = further b rest
      by (Some y) h' b rest = fitting y (fits x w (source.symbol_flags y)) b h' rest

  outcome_or-below : (other : Outcome) (l : Lookup) → exists other → IfSome (answered l) exists → exists (outcome_or other l)
  outcome_or-below other (tied c y flags) h h' = h'
  outcome_or-below other (barred c) h h' = tt
  outcome_or-below other unanswered h h' = h

  outside-below : (scope : ℕ) → scope < source.scopes → exists (waits_outside source scope)
  outside-below scope h = by (source.parent scope) (law.parents scope h)
    where
      by : (o : Option ℕ) → IfSome o (λ p. p < source.scopes) → exists (option_map_or waits o is_free)
      by None h' = tt
      by (Some p) h' = h'

  pub header_outcome-below : (scope : ℕ) (e : Pending) → scope < source.scopes → e.lookup_scope < source.scopes → exists (header_outcome source scope e)
  header_outcome-below scope e h h' = by (is_below source scope e)
    where
      scopes : List ℕ
      scopes = up_to scope (chain source e.lookup_scope)

      by : (b : Bool) → exists (cond b (outcome_or (waits_outside source scope) (lookup_along source e scopes)) (waits e.lookup_scope))
      by true = outcome_or-below (waits_outside source scope) (lookup_along source e scopes) (outside-below scope h)
          (found-below e.name (source.way e.reference) scopes (up_to-below scope _ (chain_within-below source.scopes e.lookup_scope h')))
      by false = h'

  pub last_outcome-below : (e : Pending) → e.lookup_scope < source.scopes → exists (last_outcome source e)
  last_outcome-below e h =
      outcome_or-below is_free (lookup_along source e (chain source e.lookup_scope)) tt
      (found-below e.name (source.way e.reference) (chain source e.lookup_scope) (chain_within-below source.scopes e.lookup_scope h))
