-- Tables with one symbol more.
use Rattle.std.proofs.Common.{◌≡◌, ℕ, ◌<◌, ◌≤◌, ◌+◌, List, [], ◌∷◌, ◌++◌, length, map, refl, ap, ◌∙◌, arith, length-append}
use Rattle.std.specs.Global.{Vec}
use Rattle.std.specs.List.{AllByRecursion}
use Rattle.smallvec.specs.SmallVec.{SmallVec}
use Rattle.semantic_syntax.specs.declared.references.Reference.{Reference}
use Rattle.std.proofs.lemmas.List.{length-map}
use Rattle.semantic_syntax.specs.Tables.{Name}
use Rattle.semantic_syntax.proofs.Every.{every-push, every-more}
use Rattle.scoping.specs.declared.scoping.Scoping.TheInside.{Inside}
use Rattle.scoping_rows.specs.Names.{IsInterned}
use Rattle.scoping_rows.specs.Row.{Row, symbol_of_row}
use Rattle.scoping.specs.View.{IsSound, tables}
use Rattle.scoping_rows.proofs.Rows.{rows}
use Rattle.scoping.proofs.Shown.{tables_eq, bound_more, listed_more, symbols_pushed, sound_interned, bindings_interned, symbols_interned, free_interned}

-- the row is pushed, and an empty list of uses for it, where room was made for each
module _ (a : Inside) (sound : IsSound a) (names : List Name) (name : Name) (row : Row) (interned : IsInterned a.names names name row.name)
    (symbols : Vec Row) (had : List Row) (y : Row) (pushed : symbols.items ≡ had ++ y ∷ []) (kept : had ≡ a.symbols.items) (is : y ≡ row)
    (uses : Vec (SmallVec ℕ)) (had_uses : List (SmallVec ℕ)) (listed : rows uses.items ≡ rows had_uses ++ [] ∷ []) (kept_uses : had_uses ≡ a.uses.items) where
  made : symbols.items ≡ a.symbols.items ++ row ∷ []
  made = pushed ∙ (λ j. kept j ++ is j ∷ [])

  lists : rows uses.items ≡ rows a.uses.items ++ [] ∷ []
  lists = listed ∙ ap (λ us. rows us ++ [] ∷ []) kept_uses

  pub count_pushed : length symbols.items ≡ length a.symbols.items + 1
  count_pushed = ap length made ∙ length-append a.symbols.items (row ∷ [])

  pub tables_pushed : tables (record a { names = names; symbols = symbols; uses = uses })
      ≡ record (tables a) { symbols = (tables a).symbols ++ record (symbol_of_row names row) { name = name } ∷ []; uses = (tables a).uses ++ [] ∷ [] }
  tables_pushed =
      tables_eq _ _ refl
      (bindings_interned a sound names name row.name interned)
      (ap (map (symbol_of_row names)) made
      ∙ symbols_pushed names row (record (symbol_of_row names row) { name = name }) (λ j. record (symbol_of_row names row) { name = interned.number.named j }) a.symbols.items
      ∙ ap (λ ys. ys ++ record (symbol_of_row names row) { name = name } ∷ []) (symbols_interned a sound names name row.name interned))
      refl
      lists
      (free_interned a sound names name row.name interned)
      refl

  pub sound_pushed : length (tables a).symbols < 4294967295 → IsSound (record a { names = names; symbols = symbols; uses = uses })
  sound_pushed room =
      let before = sound_interned a sound names name row.name interned in
      record {
        counted = before.counted;
        bound = bound_more _ _ _ _ (omega arith) (omega (arith, count_pushed)) a.bindings before.bound;
        named = rw made (every-push _ row a.symbols.items before.named interned.number.within);
        used = omega (arith, count_pushed, length-map uses.items (λ v. v.items), length-map a.uses.items (λ v. v.items), ap length lists, length-append (rows a.uses.items) ([] ∷ []), before.used);
        uses = rw lists (every-push _ [] (rows a.uses.items) before.uses tt);
        free = before.free;
        forest = before.forest;
        symbols_fit = omega (arith, count_pushed, rw length-map at room);
        scopes_fit = before.scopes_fit;
        references_fit = before.references_fit;
      }

-- one reference more
pub sound_referenced : (a : Inside) → IsSound a → (v : Vec Reference) (r : Reference) → v.items ≡ a.references.items ++ r ∷ [] → length a.references.items < 4294967295 → IsSound (record a { references = v })
sound_referenced a sound v r pushed room =
    let count : length v.items ≡ length a.references.items + 1 = ap length pushed ∙ length-append a.references.items (r ∷ []) in
    let more : length a.references.items ≤ length v.items = omega (arith, count) in
    record {
      counted = sound.counted;
      bound = sound.bound;
      named = sound.named;
      used = sound.used;
      uses =
          every-more (AllByRecursion (λ k. k < length a.references.items)) (AllByRecursion (λ k. k < length v.items))
          (λ ks w. every-more (λ k. k < length a.references.items) (λ k. k < length v.items) (λ k l. omega (arith, l, more)) ks w) (rows a.uses.items) sound.uses;
      free = listed_more _ _ _ _ (omega arith) more a.free sound.free;
      forest = sound.forest;
      symbols_fit = sound.symbols_fit;
      scopes_fit = sound.scopes_fit;
      references_fit = omega (arith, count, room);
    }
