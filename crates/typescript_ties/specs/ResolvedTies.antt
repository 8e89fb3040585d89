-- Whether the tables of a program tie references to what they mean.
use Rattle.std.specs.Prelude.{ℕ, ◌==◌, List, Bool, true, false, ◌&&◌, not, Option, Some, None, map, filter, bytes_eq}
use Rattle.std.specs.List.{list_all}
use Rattle.semantic_syntax.specs.Tables.{Name}
use Rattle.semantic_tree.specs.Tree.{Tree}
use Rattle.semantic_model.specs.Analysis.{Analysis, analysis_of, symbol_at, tied_at}
use Rattle.typescript_ties.specs.NamedDeclarations.{NamedDeclaration, named_in}
use Rattle.typescript_ties.specs.Resolved.{Resolved, nowhere, declared_in, NameUse, name_uses, resolved_by}

abbrev pub is_that_symbol : ℕ → Option ℕ → Bool
is_that_symbol s None = false
is_that_symbol s (Some t) = t == s

abbrev pub is_untied : Option ℕ → Bool
is_untied None = true
is_untied (Some s) = false

-- tied to the symbol of all these identifiers
abbrev pub is_tied_to_each : Analysis → List ℕ → Option ℕ → Bool
is_tied_to_each a ids None = false
is_tied_to_each a ids (Some s) = list_all (λ id. is_that_symbol s (symbol_at a id)) ids

-- the reference is free where its name means nothing, else tied to the symbol of all that it means
abbrev pub is_tied_as_resolved : Analysis → ℕ → Resolved → Bool
is_tied_as_resolved a node nowhere = is_untied (tied_at a node)
is_tied_as_resolved a node (declared_in c ids) = is_tied_to_each a ids (tied_at a node)

abbrev pub is_use_tied : Analysis → List NamedDeclaration → NameUse → Bool
is_use_tied a ds u = is_tied_as_resolved a u.node (resolved_by ds u)

-- the references of the name of which tables and language say something else
abbrev pub parting_uses : Tree → Name → List ℕ
parting_uses p name =
    map (λ u. u.node) (filter (λ u. bytes_eq u.name name && not (is_use_tied (analysis_of p) (named_in p) u)) (name_uses p))
