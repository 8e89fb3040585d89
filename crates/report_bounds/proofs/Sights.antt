-- Sights of which all spans are of numbers that are told.
use Rattle.std.proofs.Common.{ℕ, ◌≤◌, nat_lt, nat_eq, Bool, true, false, if◌then◌else◌, List, [], ◌∷◌, Option, Some, None, length, ◌-◌, option_and_then, arith, IfSome}
use Rattle.std.specs.Prelude.{slice_get}
use Rattle.std.specs.Map.{lookup}
use Rattle.std.specs.Option.{unwrap_or}
use Rattle.std.specs.List.{AllByRecursion}
use Rattle.semantic_syntax.specs.Tables.{Symbol}
use Rattle.semantic_syntax.specs.declared.references.Redeclaration.{Redeclaration}
use Rattle.semantic_syntax.specs.declared.spans.Span.{Span}
use Rattle.semantic_tree.specs.declared.node.Node.{Node}
use Rattle.semantic_model.specs.Class.{PrivateUse}
use Rattle.semantic_model.specs.Element.{Element}
use Rattle.check_model.specs.Entries.{before_last, one_before_last}
use Rattle.check_model.specs.Sight.{Sight, entries_in, symbol_entries}
use Rattle.check_model.specs.Surroundings.{first_bytes}
use Rattle.table_bounds.specs.Tellable.{IsTellableEntry, AreTellableEntries, IsTellableSymbol}
use Rattle.table_bounds.proofs.Nodes.{IsShort}
use Rattle.report_bounds.proofs.Rows.{HasNumbers, AreShort, all_there, all_taken}

-- all that is seen has short spans, or spans of numbers that are told
pub record IsFine (s : Sight) : Type 0 where
  pub node : AreShort s.node
  pub path : AllByRecursion AreShort s.path
  pub symbols : AllByRecursion IsTellableSymbol s.symbols
  pub uses : AllByRecursion (λ (u : PrivateUse). HasNumbers u.span) s.uses
  pub elements : AllByRecursion (AllByRecursion (λ (e : Element). HasNumbers e.span)) s.elements

-- some bytes from the start of a short span
pub first_numbers : (count : ℕ) (span : Span) → count ≤ 100 → IsShort span → HasNumbers (first_bytes count span)
first_numbers count span few h = (omega (arith, h.start), omega (arith, h.start, few))

-- ---- declarations of symbols

pub entry_numbers : (e : Redeclaration) → IsTellableEntry e → HasNumbers e.span
entry_numbers e h = (h.start, h.end)

listed : (o : Option (List Redeclaration)) → AreTellableEntries o → AllByRecursion IsTellableEntry (unwrap_or o [])
listed None h = tt
listed (Some []) h = absurd h
listed (Some (e ∷ es)) h = h

pub entries_fine : (o : Option Symbol) → IfSome o IsTellableSymbol → AllByRecursion IsTellableEntry (entries_in o)
entries_fine None h = tt
entries_fine (Some y) h = listed y.redeclarations h.redeclarations

pub entries_of_fine : (s : Sight) (ident : Node) → IsFine s → AllByRecursion IsTellableEntry (symbol_entries s ident)
entries_of_fine s ident h = entries_fine (option_and_then (slice_get s.symbols) (lookup (nat_eq ident.node_id) s.declared)) (by (lookup (nat_eq ident.node_id) s.declared))
  where
    by : (o : Option ℕ) → IfSome (option_and_then (slice_get s.symbols) o) IsTellableSymbol
    by None = tt
    by (Some y) = all_there IsTellableSymbol s.symbols y h.symbols

pub before_fine : (entries : List Redeclaration) → AllByRecursion IsTellableEntry entries → IfSome (one_before_last entries) IsTellableEntry
before_fine entries h = by (nat_lt 1 (length entries))
  where
    by : (b : Bool) → IfSome (if b then slice_get entries (length entries - 2) else None) IsTellableEntry
    by true = all_there IsTellableEntry entries (length entries - 2) h
    by false = tt

pub earlier_fine : (entries : List Redeclaration) → AllByRecursion IsTellableEntry entries → AllByRecursion IsTellableEntry (before_last entries)
earlier_fine entries h = all_taken IsTellableEntry (length entries - 1) entries h
