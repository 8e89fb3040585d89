-- What clones show.
use Rattle.std.proofs.Common.{◌≡◌, ℕ, List, length, map, sym, ap, ◌∙◌}
use Rattle.std.proofs.lemmas.List.{length-map}
use Rattle.semantic_syntax.specs.declared.references.Reference.{Reference}
use Rattle.semantic_syntax.specs.Tables.{Name, Tables}
use Rattle.scoping.specs.declared.scoping.ScopeRow.{ScopeRow}
use Rattle.scoping.specs.declared.scoping.Scoping.TheInside.{Inside}
use Rattle.scoping_rows.specs.Flat.{Numbered}
use Rattle.scoping_rows.specs.Names.{named}
use Rattle.scoping_rows.specs.Row.{Row, symbol_of_row}
use Rattle.scoping.specs.View.{IsSound, scope_of_row, tables}
use Rattle.scoping_rows.proofs.Rows.{rows}
use Rattle.scoping.proofs.Shown.{tables_eq}

-- fields that are equal show the same tables
pub tables_same : (a : Inside) (names : List Name) (scopes : List ScopeRow) (bindings : List Numbered) (symbols : List Row) (references : List Reference) (uses : List (List ℕ)) (free : List (ℕ × List ℕ)) (pure_symbols : List ℕ)
    → names ≡ a.names → scopes ≡ a.scopes.items → bindings ≡ a.bindings → symbols ≡ a.symbols.items → references ≡ a.references.items → uses ≡ rows a.uses.items → free ≡ a.free → pure_symbols ≡ a.pure_symbols.keys
    → (let shown : Tables = record { scopes = map scope_of_row scopes; bindings = map (named names) bindings; symbols = map (symbol_of_row names) symbols; references = references; uses = uses; free = named names free; pure_symbols = pure_symbols } in shown ≡ tables a)
tables_same a _ _ _ _ _ _ _ _ names scopes bindings symbols references uses free pure_symbols =
    tables_eq _ _
    (ap (map scope_of_row) scopes)
    (λ j. map (named (names j)) (bindings j))
    (λ j. map (symbol_of_row (names j)) (symbols j))
    references
    uses
    (λ j. named (names j) (free j))
    pure_symbols

-- fields that are equal are as sound
pub sound_same : (a b : Inside) → IsSound a → b.names ≡ a.names → b.scopes.items ≡ a.scopes.items → b.bindings ≡ a.bindings → b.symbols.items ≡ a.symbols.items
    → b.references.items ≡ a.references.items → rows b.uses.items ≡ rows a.uses.items → b.free ≡ a.free → IsSound b
sound_same a b sound names scopes bindings symbols references uses free = record {
  counted = rw (bindings, scopes) sound.counted;
  bound = rw (names, symbols, bindings) sound.bound;
  named = rw (names, symbols) sound.named;
  used = sym (length-map b.uses.items (λ v. v.items)) ∙ ap length uses ∙ length-map a.uses.items (λ v. v.items) ∙ sound.used ∙ sym (ap length symbols);
  uses = rw (uses, references) sound.uses;
  free = rw (names, references, free) sound.free;
  forest = rw scopes sound.forest;
  symbols_fit = rw symbols sound.symbols_fit;
  scopes_fit = rw scopes sound.scopes_fit;
  references_fit = rw references sound.references_fit;
}
