-- What iterators have left.
use Rattle.std.specs.Prelude.{◌≡◌, ℕ, ◌+◌, ◌<◌, List, [], ◌++◌, length, map, drop, slice_index_or, IfSome}
use Rattle.std.specs.List.{AllByRecursion}
use Rattle.std.specs.Option.{option_to_list, option_map_or}
use Rattle.std.specs.Slice.Iter.{iter_rest}
use Rattle.semantic_syntax.specs.declared.references.Reference.{Reference}
use Rattle.semantic_syntax.specs.Tables.{Name, Bindings, FreeLists}
use Rattle.scoping.specs.declared.bindings.BindingsIter.TheInside as bindings_iter
use Rattle.scoping.specs.declared.bindings.AllBindings.TheInside as all_bindings
use Rattle.scoping.specs.declared.symbol_iterators.SymbolNames.TheInside as symbol_names
use Rattle.scoping.specs.declared.symbol_iterators.Declarations.TheInside as declarations
use Rattle.scoping.specs.declared.scope_iterators.ScopeAncestors.TheInside as ancestors
use Rattle.scoping.specs.declared.reference_iterators.ReferencesIter.TheInside as references
use Rattle.scoping.specs.declared.unresolved.UnresolvedIter.TheInside as unresolved
use Rattle.scoping_rows.specs.Names.{name_at, named}
use Rattle.scoping.specs.Numbering.{numbered_from}
use Rattle.scoping_rows.specs.Row.{Row}
use Rattle.semantic_syntax.specs.Reading.{no_reference, chain, IsForest}
use Rattle.scoping.specs.View.{scope_of_row}

-- the pairs of a scope that are left
abbrev pub pairs_left : bindings_iter.Inside → Bindings
pairs_left a = named a.names.now a.bound

-- each number that is left has a name
abbrev pub ArePairsLeft : bindings_iter.Inside → Type 0
ArePairsLeft a = AllByRecursion (λ (e : ℕ × ℕ). e.0 < length a.names.now) a.bound

abbrev pub scopes_left : all_bindings.Inside → List (ℕ × Bindings)
scopes_left a = numbered_from a.next (map (named a.names.now) (drop a.next a.table.now))

pub record AreScopesLeft (a : all_bindings.Inside) : Type 0 where
  pub count : a.next + a.left ≡ length a.table.now
  pub fits : a.next + a.left < 4294967296
  pub known : AllByRecursion (AllByRecursion (λ (e : ℕ × ℕ). e.0 < length a.names.now)) a.table.now

abbrev pub names_left : symbol_names.Inside → List Name
names_left a = map (λ (y : Row). name_at a.names.now y.name) (iter_rest a.rows)

abbrev pub AreNamesLeft : symbol_names.Inside → Type 0
AreNamesLeft a = AllByRecursion (λ (y : Row). y.name < length a.names.now) (iter_rest a.rows)

abbrev pub declarations_left : declarations.Inside → List ℕ
declarations_left a = option_to_list a.first ++ map (λ d. d.declaration) (iter_rest a.rest)

-- the chain of the next scope
abbrev pub ancestors_left : ancestors.Inside → List ℕ
ancestors_left a = option_map_or (chain (map scope_of_row a.scopes.now)) a.next []

pub record AreAncestorsLeft (a : ancestors.Inside) : Type 0 where
  pub forest : IsForest (map scope_of_row a.scopes.now)
  pub within : IfSome a.next (λ s. s < length a.scopes.now)

abbrev pub references_left : references.Inside → List Reference
references_left a = map (λ r. slice_index_or a.references.now r no_reference) (iter_rest a.ids)

abbrev pub AreReferencesLeft : references.Inside → Type 0
AreReferencesLeft a = AllByRecursion (λ r. r < length a.references.now) (iter_rest a.ids)

abbrev pub lists_left : unresolved.Inside → FreeLists
lists_left a = named a.names.now (map (λ e. (e.0, e.1.items)) a.lists)

abbrev pub AreListsLeft : unresolved.Inside → Type 0
AreListsLeft a = AllByRecursion (λ e. e.0 < length a.names.now) a.lists
