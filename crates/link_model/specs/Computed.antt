-- The outcome of an import by computation, in so many rounds.
use Rattle.std.specs.Prelude.{ℕ, zero, suc, ◌+◌, ◌*◌, ◌==◌, List, [], ◌∷◌, ◌++◌, Bool, true, false, ◌&&◌, ◌||◌, Option, Some, None, cond, bytes_eq, flat_map, filter, length}
use Rattle.std.specs.List.{list_any}
use Rattle.semantic_syntax.specs.Tables.{Name}
use Rattle.link_model.specs.declared.outcome.LinkOutcome.{LinkOutcome}
use Rattle.link_model.specs.declared.outcome.LinkOutcome.TheVariants as outcome
use Rattle.link_model.specs.Module.{Analysed}
use Rattle.link_model.specs.Exports.{exports}
use Rattle.link_model.specs.Imports.{imports}
use Rattle.link_model.specs.Leads.{LinkEnd, pair, symbol, default_of, namespace_of, outside, is_terminal, leads}
use Rattle.link_model.specs.Outcome.{outcome_at}

abbrev pub same_asked : Option Name → Option Name → Bool
same_asked None None = true
same_asked (Some x) (Some y) = bytes_eq x y
same_asked _ _ = false

abbrev pub same_end : LinkEnd → LinkEnd → Bool
same_end (pair m x) (pair n y) = m == n && bytes_eq x y
same_end (symbol m s) (symbol n r) = m == n && s == r
same_end (default_of m) (default_of n) = m == n
same_end (namespace_of m) (namespace_of n) = m == n
same_end (outside s x) (outside t y) = bytes_eq s t && same_asked x y
same_end _ _ = false

abbrev pub is_among : LinkEnd → List LinkEnd → Bool
is_among e [] = false
is_among e (f ∷ fs) = same_end e f || is_among e fs

-- those that are not among the others, each once
abbrev pub new_ends : List LinkEnd → List LinkEnd → List LinkEnd
new_ends old [] = []
new_ends old (e ∷ es) = cond (is_among e old) (new_ends old es) (e ∷ new_ends (e ∷ old) es)

-- all that is reached in so many rounds, from what is reached already and what is new
abbrev pub reached_within : List Analysed → ℕ → List LinkEnd → List LinkEnd → List LinkEnd
reached_within ms rounds old [] = old
reached_within ms zero old (e ∷ es) = old ++ e ∷ es
reached_within ms (suc rounds) old (e ∷ es) =
    reached_within ms rounds (old ++ e ∷ es) (new_ends (old ++ e ∷ es) (flat_map (leads ms) (e ∷ es)))

-- more than all names that can be reached: modules times names that are exported or wanted
abbrev pub reach_bound : List Analysed → ℕ
reach_bound ms = length ms * (1 + length (flat_map exports ms) + length (flat_map imports ms)) + 1

abbrev pub ends_reached_from : List Analysed → LinkEnd → List LinkEnd
ends_reached_from ms e = reached_within ms (reach_bound ms) [] (e ∷ [])

abbrev pub returned_from : List Analysed → LinkEnd → List LinkEnd
returned_from ms e = reached_within ms (reach_bound ms) [] (new_ends [] (leads ms e))

abbrev pub returns : List Analysed → LinkEnd → Bool
returns ms e = is_among e (returned_from ms e)

abbrev pub loose_outcome : Bool → LinkOutcome
loose_outcome true = outcome.Ring
loose_outcome false = outcome.Missing

abbrev pub all_same : LinkEnd → List LinkEnd → Bool
all_same t [] = true
all_same t (u ∷ more) = same_end t u && all_same t more

abbrev pub outcome_by : List Analysed → List LinkEnd → List LinkEnd → LinkOutcome
outcome_by ms reached [] = loose_outcome (list_any (returns ms) reached)
outcome_by ms reached (t ∷ more) = cond (all_same t more) (outcome_at t) outcome.Ambiguous

abbrev pub outcome_among : List Analysed → List LinkEnd → LinkOutcome
outcome_among ms reached = outcome_by ms reached (filter is_terminal reached)

-- the outcome of what leads to an end
abbrev pub outcome_of : List Analysed → LinkEnd → LinkOutcome
outcome_of ms e = outcome_among ms (ends_reached_from ms e)

-- the bound sufficed: what was reached leads to nothing else
abbrev pub are_among : List LinkEnd → List LinkEnd → Bool
are_among all [] = true
are_among all (e ∷ es) = is_among e all && are_among all es

abbrev pub leads_within : List Analysed → List LinkEnd → List LinkEnd → Bool
leads_within ms all [] = true
leads_within ms all (e ∷ es) = are_among all (leads ms e) && leads_within ms all es

abbrev pub is_closed : List Analysed → List LinkEnd → Bool
is_closed ms all = leads_within ms all all

abbrev pub all_return_closed : List Analysed → List LinkEnd → Bool
all_return_closed ms [] = true
all_return_closed ms (e ∷ es) = is_closed ms (returned_from ms e) && all_return_closed ms es

abbrev pub suffices : List Analysed → LinkEnd → Bool
suffices ms e = is_closed ms (ends_reached_from ms e) && all_return_closed ms (ends_reached_from ms e)
