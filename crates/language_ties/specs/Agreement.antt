-- Whether the tables of a program tie references to what they mean.
use Rattle.std.specs.Prelude.{ℕ, ◌==◌, List, [], ◌∷◌, Bool, true, false, ◌&&◌, not, Option, Some, None, map, filter, bytes_eq}
use Rattle.std.specs.List.{list_all}
use Rattle.semantic_syntax.specs.Tables.{Name}
use Rattle.semantic_tree.specs.Tree.{Tree}
use Rattle.semantic_model.specs.Analysis.{Analysis, analysis_of, symbol_at, tied_at}
use Rattle.semantic_model.specs.Step.{steps}
use Rattle.language_ties.specs.Bound.{Bound}
use Rattle.language_ties.specs.Meaning.{Meaning, unbound, of_object, bound, meaning, meaning_past_objects, Use, uses}
use Rattle.language_ties.specs.Moved.{bound_of}

abbrev pub is_symbol : ℕ → Option ℕ → Bool
is_symbol s None = false
is_symbol s (Some t) = t == s

abbrev pub is_none : Option ℕ → Bool
is_none None = true
is_none (Some s) = false

-- tied to the symbol of all these identifiers
abbrev pub is_tied_to_all : Analysis → List ℕ → Option ℕ → Bool
is_tied_to_all a ids None = false
is_tied_to_all a ids (Some s) = list_all (λ id. is_symbol s (symbol_at a id)) ids

-- tied to the symbol of all that binds it, and free where no declaration does
abbrev pub is_tied_as_bound : Analysis → List ℕ → Option ℕ → Bool
is_tied_as_bound a [] tied = is_none tied
is_tied_as_bound a (id ∷ ids) tied = is_tied_to_all a (id ∷ ids) tied

-- the reference is free where no declaration binds its name, else tied to the symbol of what binds it
abbrev pub agrees : Analysis → ℕ → Meaning → Bool
agrees a node unbound = is_none (tied_at a node)
agrees a node (of_object e) = false
agrees a node (bound e ids) = is_tied_as_bound a ids (tied_at a node)

abbrev pub use_agrees : Analysis → List Bound → Use → Bool
use_agrees a bs u = agrees a u.node (meaning bs u.round u.name)

-- so it is if no object of a `with` has the name
abbrev pub use_agrees_past_objects : Analysis → List Bound → Use → Bool
use_agrees_past_objects a bs u = agrees a u.node (meaning_past_objects bs u.round u.name)

-- the references of the name of which tables and language say something else
abbrev pub differing : Tree → Name → List ℕ
differing p name =
    map (λ u. u.node) (filter (λ u. bytes_eq u.name name && not (use_agrees (analysis_of p) (bound_of p) u)) (uses (steps p)))
