-- Steps of loops over scopes that are passed.
use Rattle.std.proofs.Common.{◌≡◌, ℕ, ◌+◌, ◌<◌, ◌≤◌, List, [], ◌∷◌, length, get_or, drop, Option, None, Some, refl, sym}
use Rattle.std.proofs.Math.ListN.{drop_of_length-le}
use Rattle.semantic_syntax.specs.Tables.{Name}
use Rattle.semantic_syntax.proofs.Truth.{drop_here}
use Rattle.semantic_model.specs.Naming.{Naming}
use Rattle.walk_model.specs.WalkState.{WalkState}
use Rattle.walk_model.specs.Declares.{found}
use Rattle.walk_model.specs.Hoists.{value_symbol, passed_symbol, against_found, against_way, remember, remember_all}

pub remember_turn : (w : WalkState) (x : Name) (y : ℕ) (items : List ℕ) (i here : ℕ) → i < length items → here ≡ get_or items i here
    → remember_all w (drop i items) x y ≡ remember_all (remember w here x y) (drop (i + 1) items) x y
remember_turn w x y items i here h e = rw (drop_here items i here h e) refl

pub remember_end : (w : WalkState) (x : Name) (y : ℕ) (items : List ℕ) (i : ℕ) → length items ≤ i → remember_all w (drop i items) x y ≡ w
remember_end w x y items i h = rw (drop_of_length-le items h) refl

-- conflicts don't change which passed symbol is found
passed_symbol-against : (w : WalkState) (d : Naming) (o : Option ℕ) (ss : List ℕ) (x : Name) → passed_symbol (against_found w d o) ss x ≡ passed_symbol w ss x
passed_symbol-against w d None ss x = refl
passed_symbol-against w d (Some y) [] x = refl
passed_symbol-against w d (Some y) (s ∷ ss) x = rw (passed_symbol-against w d (Some y) ss x) refl

module _ (w : WalkState) (d : Naming) (items : List ℕ) (i here : ℕ) (within : i < length items) (is : here ≡ get_or items i here) where
  pub way_on : value_symbol w.tables (found w here d.name) ≡ None
      → against_way w d (drop i items) ≡ against_way (against_found w d (found w here d.name)) d (drop (i + 1) items)
  way_on none = rw (drop_here items i here within is, none) refl

  pub way_off : (y : ℕ) → value_symbol w.tables (found w here d.name) ≡ Some y → against_way w d (drop i items) ≡ against_found w d (found w here d.name)
  way_off y some = rw (drop_here items i here within is, some) refl

  pub passed_symbol_on : value_symbol w.tables (found w here d.name) ≡ None
      → passed_symbol w (drop i items) d.name ≡ passed_symbol (against_found w d (found w here d.name)) (drop (i + 1) items) d.name
  passed_symbol_on none = rw (drop_here items i here within is, none) (sym (passed_symbol-against w d (found w here d.name) (drop (i + 1) items) d.name))

  pub passed_symbol_off : (y : ℕ) → value_symbol w.tables (found w here d.name) ≡ Some y → passed_symbol w (drop i items) d.name ≡ Some (record { scope = here; symbol = y })
  passed_symbol_off y some = rw (drop_here items i here within is, some) refl

pub way_end : (w : WalkState) (d : Naming) (items : List ℕ) (i : ℕ) → length items ≤ i → against_way w d (drop i items) ≡ w
way_end w d items i h = rw (drop_of_length-le items h) refl

pub passed_symbol_end : (w : WalkState) (x : Name) (items : List ℕ) (i : ℕ) → length items ≤ i → passed_symbol w (drop i items) x ≡ None
passed_symbol_end w x items i h = rw (drop_of_length-le items h) refl

pub ruleset passing = (remember_turn, remember_end, way_end, passed_symbol_end)
