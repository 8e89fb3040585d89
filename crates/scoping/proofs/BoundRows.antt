-- Tables with one symbol more, which a scope binds to its name.
use Rattle.std.proofs.Common.{◌≡◌, ℕ, ◌<◌, nat_eq, List, [], ◌∷◌, ◌++◌, length, get_or, map, refl, sym, ap, ◌∙◌, arith}
use Rattle.std.specs.Global.{Vec}
use Rattle.std.specs.Str.{bytes_eq}
use Rattle.smallvec.specs.SmallVec.{SmallVec}
use Rattle.std.proofs.Math.ListN.{set}
use Rattle.std.proofs.lemmas.List.{length-set, length-map}
use Rattle.indexmap.specs.IndexMap.{insert_entry}
use Rattle.semantic_syntax.specs.Tables.{Name}
use Rattle.scoping.specs.declared.scoping.Scoping.TheInside.{Inside}
use Rattle.scoping_rows.specs.Flat.{Numbered}
use Rattle.scoping_rows.specs.Names.{named, IsInterned}
use Rattle.scoping_rows.specs.Row.{Row, symbol_of_row}
use Rattle.scoping.specs.View.{IsSound, tables}
use Rattle.scoping_rows.proofs.Rows.{rows}
use Rattle.scoping.proofs.Pushed.{count_pushed, tables_pushed, sound_pushed}
use Rattle.scoping.proofs.Shown.{bound_insert, shown_insert, sound_interned, sound_bindings, bindings_interned}

module _ (a : Inside) (sound : IsSound a) (names : List Name) (name : Name) (row : Row) (interned : IsInterned a.names names name row.name) (s : ℕ) (within : s < length a.bindings) (y : Row) (is : y ≡ row)
    (bs : List Numbered) (bound : bs ≡ set a.bindings s (insert_entry nat_eq (get_or a.bindings s []) y.name (length a.symbols.items)))
    (symbols : Vec Row) (pushed : symbols.items ≡ a.symbols.items ++ y ∷ [])
    (uses : Vec (SmallVec ℕ)) (listed : rows uses.items ≡ rows a.uses.items ++ [] ∷ []) where
  bound_row : bs ≡ set a.bindings s (insert_entry nat_eq (get_or a.bindings s []) row.name (length a.symbols.items))
  bound_row = bound ∙ ap (λ (k : Row). set a.bindings s (insert_entry nat_eq (get_or a.bindings s []) k.name (length a.symbols.items))) is

  shown_bound : map (named names) bs ≡ set (tables a).bindings s (insert_entry bytes_eq (get_or (tables a).bindings s []) name (length (tables a).symbols))
  shown_bound =
      ap (map (named names)) bound_row
      ∙ shown_insert names _ a.bindings (sound_interned a sound names name row.name interned).bound s within name row.name interned.number (length a.symbols.items)
      ∙ ap (λ cs. set cs s (insert_entry bytes_eq (get_or cs s []) name (length a.symbols.items))) (bindings_interned a sound names name row.name interned)
      ∙ ap (λ n. set (tables a).bindings s (insert_entry bytes_eq (get_or (tables a).bindings s []) name n)) (sym (length-map a.symbols.items (symbol_of_row a.names)))

  pub tables_bound : tables (record a { names = names; bindings = bs; symbols = symbols; uses = uses })
      ≡ record (tables a) {
        bindings = set (tables a).bindings s (insert_entry bytes_eq (get_or (tables a).bindings s []) name (length (tables a).symbols));
        symbols = (tables a).symbols ++ record (symbol_of_row names row) { name = name } ∷ [];
        uses = (tables a).uses ++ [] ∷ [];
      }
  tables_bound =
      let shown = tables_pushed a sound names name row interned symbols a.symbols.items y pushed refl is uses a.uses.items listed refl in
      λ j. record (shown j) { bindings = shown_bound j }

  pub sound_bound : length (tables a).symbols < 4294967295 → IsSound (record a { names = names; bindings = bs; symbols = symbols; uses = uses })
  sound_bound room =
      let more = sound_pushed a sound names name row interned symbols a.symbols.items y pushed refl is uses a.uses.items listed refl room in
      let count = count_pushed a sound names name row interned symbols a.symbols.items y pushed refl is uses a.uses.items listed refl in
      rw bound_row
      (sound_bindings _ more _ (length-set a.bindings s _)
      (bound_insert _ _ s row.name (length a.symbols.items) a.bindings interned.number.within (omega (arith, count)) more.bound))
