-- References that wait and their outcomes, in the terms of the definitions.
use Rattle.std.specs.Prelude.{◌≡◌, ℕ, ◌==◌, Bool, true, false, List, Option, None, Some, map, codes}
use Rattle.std.specs.Option.{option_map}
use Rattle.std.specs.Str.{bytes_eq}
use Rattle.semantic_syntax.specs.Tables.{Name}
use Rattle.semantic_syntax.specs.Lookup.{tied, tied_by}
use Rattle.semantic_syntax.specs.Source.{Source, chain}
use Rattle.semantic_syntax.specs.Outcome as model
use Rattle.scoping_rows.specs.Names.{name_of}
use Rattle.resolver.specs.declared.outcomes.Outcome.{Outcome}
use Rattle.resolver.specs.declared.outcomes.Outcome.TheVariants.{Tied, Free, Pending}
use Rattle.resolver.specs.declared.pending.UnresolvedReference.{UnresolvedReference}

abbrev pub outcome_of : Outcome → model.Outcome
outcome_of (Tied y) = model.means y
outcome_of Free = model.is_free
outcome_of (Pending s) = model.waits s

abbrev pub pending_of : UnresolvedReference → model.Pending
pending_of u = record { name = name_of u.name; reference = u.reference_id; lookup_scope = u.lookup_scope_id }

-- whether the name is `arguments`, by its letters
abbrev pub is_arguments_name : Name → Bool
is_arguments_name x = bytes_eq x (codes "arguments")

-- what is told of a name: if it may not be `arguments`, it isn't
abbrev pub MayBeArguments : Name → Bool → Type 0
MayBeArguments x may_be = may_be ≡ false → is_arguments_name x ≡ false

-- the reference, to be looked up from the scope
abbrev pub looked_up_from : UnresolvedReference → ℕ → UnresolvedReference
looked_up_from u scope = record u { lookup_scope_id = scope }

-- the references that wait on, each with its new scope
abbrev pub staying : List UnresolvedReference → List Outcome → List UnresolvedReference
staying us outcomes = model.staying_by looked_up_from us (map outcome_of outcomes)

-- whether the outcome lets nothing wait on
abbrev pub is_settled : Outcome → Bool
is_settled (Tied y) = true
is_settled Free = true
is_settled (Pending s) = false

-- the symbol, if any, is the one that the scope ties a reference to
abbrev pub IsTied : Source → Name → ℕ → ℕ → Option ℕ → Type 0
IsTied source x w s symbol = option_map (λ y. tied s y (source.symbol_flags y)) symbol ≡ tied_by x w s (model.answer source x s).bound

-- whether the scope is the last one
abbrev pub ends_at : Option ℕ → ℕ → Bool
ends_at None s = false
ends_at (Some last) s = s == last

-- the scopes up to the last one, with it, or all of them
abbrev pub up_to_last : Option ℕ → List ℕ → List ℕ
up_to_last None ss = ss
up_to_last (Some last) ss = model.up_to last ss

-- the scopes that a look-up from the scope asks at most
abbrev pub scopes_from : Source → Option ℕ → ℕ → List ℕ
scopes_from source last s = up_to_last last (chain source s)
