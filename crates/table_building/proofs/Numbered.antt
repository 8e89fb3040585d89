-- Names that scopes remember, under the numbers of the names.
use Rattle.std.proofs.Common.{◌≡◌, ℕ, ◌<◌, ◌≤◌, ◌==◌, ◌&&◌, Bool, true, false, cond, if◌then◌else◌, List, [], ◌∷◌, ◌++◌, None, Some, length, refl, sym, ap, arith, length-append}
use Rattle.std.specs.Map.{lookup}
use Rattle.std.specs.Str.{bytes_eq}
use Rattle.std.proofs.lemmas.Slice.Eq.{bytes_eq-Decides}
use Rattle.std.proofs.lemmas.Bool.Decides.{same_from_decides}
use Rattle.std.proofs.Math.ListN.{get_or-append}
use Rattle.indexmap.specs.IndexMap.{insert_entry}
use Rattle.semantic_syntax.specs.Tables.{Name}
use Rattle.semantic_syntax.proofs.Truth.{same_turned}
use Rattle.scoping_rows.specs.Flat.{key_eq}
use Rattle.scoping_rows.specs.Names.{name_at, IsUnknown, IsNumberOf, IsInterned}
use Rattle.semantic_model.specs.Binding.{is_binding_of, get, put}
use Rattle.table_building.specs.Numbered.{binding_of, bindings_named, AreNumbered}

pub bytes_eq_flip : (a b : Name) → bytes_eq a b ≡ bytes_eq b a
bytes_eq_flip a b = same_from_decides (bytes_eq a b) (bytes_eq b a) (bytes_eq-Decides a b)
    (λ t. sym ((bytes_eq-Decides b a).0 t), λ e. (bytes_eq-Decides b a).1 (sym e))

-- more names change none of the bindings
pub named_grown : (names added : List Name) (es : List ((ℕ × ℕ) × ℕ)) → AreNumbered (length names) es → bindings_named (names ++ added) es ≡ bindings_named names es
named_grown names added [] h = refl
named_grown names added (e ∷ es) h =
    let same : name_at (names ++ added) e.0.1 ≡ name_at names e.0.1 = get_or-append names added [] e.0.1 h.0 in
    rw (same, named_grown names added es h.1) refl

pub numbered_more : (n m : ℕ) (es : List ((ℕ × ℕ) × ℕ)) → n ≤ m → AreNumbered n es → AreNumbered m es
numbered_more n m [] h below = tt
numbered_more n m (e ∷ es) h below = (omega (arith, h, below.0), numbered_more n m es h below.1)

pub numbered_insert : (n s k y : ℕ) (es : List ((ℕ × ℕ) × ℕ)) → k < n → AreNumbered n es → AreNumbered n (insert_entry key_eq es (s, k) y)
numbered_insert n s k y [] h below = (h, tt)
numbered_insert n s k y (e ∷ es) h below = by (key_eq (s, k) e.0) (numbered_insert n s k y es h below.1)
  where
    by : (b : Bool) → AreNumbered n (insert_entry key_eq es (s, k) y) → AreNumbered n (if b then (e.0, y) ∷ es else e ∷ insert_entry key_eq es (s, k) y)
    by true rest = (below.0, below.1)
    by false rest = (below.0, rest)

module _ (names : List Name) (x : Name) (s : ℕ) where
  pub get_unknown : IsUnknown names x → (es : List ((ℕ × ℕ) × ℕ)) → AreNumbered (length names) es → get (bindings_named names es) s x ≡ None
  get_unknown unknown [] h = refl
  get_unknown unknown (e ∷ es) h = by (e.0.0 == s) (get_unknown unknown es h.1)
    where
      by : (b : Bool) → get (bindings_named names es) s x ≡ None → cond (b && bytes_eq (name_at names e.0.1) x) (Some e.1) (get (bindings_named names es) s x) ≡ None
      by true rest = rw (bytes_eq_flip (name_at names e.0.1) x, unknown.none e.0.1 h.0) rest
      by false rest = rest

  module _ (n : ℕ) (number : IsNumberOf names x n) where
    same_key : (e : (ℕ × ℕ) × ℕ) → e.0.1 < length names → is_binding_of s x (binding_of names e) ≡ key_eq (s, n) e.0
    same_key e h = rw (bytes_eq_flip (name_at names e.0.1) x, number.only e.0.1 h, same_turned e.0.0 s) refl

    pub get_numbered : (es : List ((ℕ × ℕ) × ℕ)) → AreNumbered (length names) es → get (bindings_named names es) s x ≡ lookup (key_eq (s, n)) es
    get_numbered [] h = refl
    get_numbered (e ∷ es) h = rw (same_key e h.0, get_numbered es h.1) refl

    pub put_numbered : (y : ℕ) (es : List ((ℕ × ℕ) × ℕ)) → AreNumbered (length names) es → bindings_named names (insert_entry key_eq es (s, n) y) ≡ put (bindings_named names es) s x y
    put_numbered y [] h = rw number.named refl
    put_numbered y (e ∷ es) h = by (key_eq (s, n) e.0) (same_key e h.0) (put_numbered y es h.1)
      where
        by : (b : Bool) → is_binding_of s x (binding_of names e) ≡ b → bindings_named names (insert_entry key_eq es (s, n) y) ≡ put (bindings_named names es) s x y
            → bindings_named names (if b then (e.0, y) ∷ es else e ∷ insert_entry key_eq es (s, n) y) ≡ put (bindings_named names (e ∷ es)) s x y
        by true same rest = rw same refl
        by false same rest = rw (same, rest) refl

-- a name that is interned changes none of the bindings
module _ (old new : List Name) (x : Name) (n : ℕ) (interned : IsInterned old new x n) where
  pub interned_same : (es : List ((ℕ × ℕ) × ℕ)) → AreNumbered (length old) es → bindings_named new es ≡ bindings_named old es
  interned_same es h = rw interned.grown (named_grown old interned.added es h)

  pub interned_numbered : (es : List ((ℕ × ℕ) × ℕ)) → AreNumbered (length old) es → AreNumbered (length new) es
  interned_numbered es h = numbered_more (length old) (length new) es (omega (arith, ap length interned.grown, length-append old interned.added)) h
