-- Tables in which a symbol is bound under another name.
use Rattle.std.proofs.Common.{◌≡◌, ℕ, ◌<◌, List, length, map, get_or, ap, subst, ◌∙◌}
use Rattle.std.proofs.Math.ListN.{set}
use Rattle.semantic_syntax.specs.Reading.{symbol_of, no_symbol}
use Rattle.semantic_syntax.specs.Tables.{Name, Symbol}
use Rattle.scoping.specs.declared.scoping.Scoping.TheInside.{Inside}
use Rattle.scoping_rows.specs.Flat.{renumbered}
use Rattle.scoping_rows.specs.Names.{name_at, IsNumberOf, IsInterned}
use Rattle.scoping_rows.specs.Row.{Row, symbol_of_row, no_row}
use Rattle.scoping.specs.View.{IsSound, tables}
use Rattle.semantic_syntax.specs.Writing.{with_symbol, with_symbol_name, binding_renamed}
use Rattle.scoping.proofs.Moves.{bound_renumbered, length_renumbered, renumbered_is}
use Rattle.scoping.proofs.Shown.{scope_within, symbol_within, sound_bindings, sound_interned, tables_interned, symbols_interned, shown_number}

-- the new name has a number
module _ (a : Inside) (sound : IsSound a) (names : List Name) (new : Name) (n : ℕ) (interned : IsInterned a.names names new n) (s y : ℕ) where
  pub sound_renamed : (m : ℕ) → y < length (tables a).symbols → IsSound (record a { names = names; bindings = renumbered a.bindings s m n y })
  sound_renamed m symbol =
      let before = sound_interned a sound names new n interned in
      sound_bindings _ before _ (length_renumbered s m n y a.bindings)
      (bound_renumbered _ _ s m n y a.bindings interned.number.within (symbol_within a sound y symbol) before.bound)

  module _ (scope : s < length (tables a).scopes) (m : ℕ) where
    -- and so has the old one
    pub is_renamed : (old : Name) → IsNumberOf names old m → tables (record a { names = names; bindings = renumbered a.bindings s m n y }) ≡ binding_renamed (tables a) s y old new
    is_renamed old number =
        renumbered_is names _ a.bindings (sound_interned a sound names new n interned).bound (tables (record a { names = names })) s (scope_within a sound s scope) y old new m n number interned.number
        ∙ ap (λ t. binding_renamed t s y old new) (tables_interned a sound names new n interned)

    -- the old name is the symbol's own, and the symbol gets the new one
    pub symbol_renamed : y < length (tables a).symbols → IsNumberOf names (name_at names (get_or a.symbols.items y no_row).name) m → (ys : List Row)
        → map (symbol_of_row names) ys ≡ with_symbol_name new (map (symbol_of_row names) a.symbols.items) y
        → record (tables (record a { names = names; bindings = renumbered a.bindings s m n y })) { symbols = map (symbol_of_row names) ys }
        ≡ with_symbol (binding_renamed (tables a) s y (symbol_of (tables a) y).name new) y (record (symbol_of (tables a) y) { name = new })
    symbol_renamed symbol number ys changed =
        let shown = symbols_interned a sound names new n interned in
        let own = subst (λ (zs : List Symbol). IsNumberOf names (get_or zs y no_symbol).name m) shown (shown_number names a.symbols.items y m (symbol_within a sound y symbol) number) in
        ap (λ zs. record (tables (record a { names = names; bindings = renumbered a.bindings s m n y })) { symbols = zs }) (changed ∙ ap (λ zs. set (map (symbol_of_row names) a.symbols.items) y (record (get_or zs y no_symbol) { name = new })) shown)
        ∙ ap (λ t. with_symbol t y (record (symbol_of (tables a) y) { name = new })) (is_renamed (symbol_of (tables a) y).name own)
