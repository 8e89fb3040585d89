-- What it is for tables and language to agree on a name at a place.
use Rattle.std.proofs.Common.{◌≡◌, ℕ, List, [], ◌∷◌, Option, Some, None, Bool, true, false}
use Rattle.semantic_kinds.specs.declared.kind.AstType.TheVariants as kind
use Rattle.semantic_syntax.specs.Tables.{Name}
use Rattle.semantic_tree.specs.Tree.{Tree}
use Rattle.semantic_tree.specs.Views.{is}
use Rattle.semantic_model.specs.Analysis.{analysis_of, symbol_at}
use Rattle.semantic_model.specs.Event.{events, is_catch_body}
use Rattle.semantic_model.specs.Fold.{start}
use Rattle.semantic_model.specs.Hoist.{run}
use Rattle.semantic_model.specs.Place.{Place, OpenScope, outside}
use Rattle.semantic_model.specs.Step.{Step, entering, opening, header_ending, closing, leaving, steps}
use Rattle.language_ties.specs.AgreeingNames.{StandsInExpressions}
use Rattle.language_ties.specs.Environments.{Environment, environments}
use Rattle.language_ties.specs.Meaning.{Meaning, unbound, of_object, bound, meaning_past_objects as meaning}
use Rattle.language_ties.specs.NearestScopes.{nearest_symbol}
use Rattle.language_ties.proofs.moved.Settled.{settled_bounds, bound_as_settled}

abbrev pub outside_innermost : List Environment → List Environment
outside_innermost [] = []
outside_innermost (e ∷ es) = es

module _ (p : Tree) where
  abbrev pub AllAre : List ℕ → ℕ → Type 0
  AllAre [] s = Unit {0}
  AllAre (i ∷ is) s = (symbol_at (analysis_of p) i ≡ Some s) × AllAre is s

  -- the symbol is that of all identifiers, and none where nothing binds the name
  abbrev pub Matches : Option ℕ → Meaning → Type 0
  Matches o unbound = o ≡ None
  Matches o (of_object d) = ⊥
  Matches o (bound d []) = ⊥
  Matches o (bound d (i ∷ is)) = (s : ℕ) × (o ≡ Some s) × AllAre (i ∷ is) s

  module _ (x : Name) where
    -- the nearest of the scopes has the symbol of what the nearest of the environments binds
    abbrev pub MatchIn : List OpenScope → List Environment → Type 0
    MatchIn chain ds = Matches (nearest_symbol (run start (events (steps p))) (events (steps p)) x chain) (meaning (bound_as_settled p) ds x)

    -- so it is at a place that stands in expressions among the parameters that bind the name
    abbrev pub Agrees : Place → Type 0
    Agrees q = StandsInExpressions (settled_bounds p) x q.node q.path → MatchIn q.chain (environments q.node q.path)

    -- or, of the body of a clause, what is round the clause: its own scope takes over that of the clause
    abbrev pub AgreesRound : Place → Type 0
    AgreesRound q = StandsInExpressions (settled_bounds p) x q.node q.path → MatchIn (outside q.chain) (outside_innermost (environments q.node q.path))

    abbrev pub AgreesBy : Bool → Place → Type 0
    AgreesBy true q = AgreesRound q
    AgreesBy false q = Agrees q

    abbrev pub AgreesAt : Step → Type 0
    AgreesAt (entering q) = is kind.BindingIdentifier q.node ≡ false → AgreesBy (is_catch_body q) q
    AgreesAt (opening q o) = Unit {0}
    AgreesAt (header_ending q o) = Unit {0}
    AgreesAt (closing q o) = Unit {0}
    AgreesAt (leaving q) = Unit {0}
