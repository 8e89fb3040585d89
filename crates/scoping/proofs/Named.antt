-- Values under names' numbers, with the names in place of their numbers.
use Rattle.std.proofs.Common.{◌≡◌, ℕ, ◌<◌, ◌==◌, nat_eq, Bool, true, false, cond, if◌then◌else◌, List, [], ◌∷◌, ◌++◌, Option, None, Some, MatchOption, length, map, refl, sym, ap}
use Rattle.std.specs.List.{AllByRecursion}
use Rattle.std.specs.Map.{lookup, values_of}
use Rattle.std.specs.Str.{bytes_eq}
use Rattle.std.proofs.Math.ListN.{get_or-append}
use Rattle.indexmap.specs.IndexMap.{insert_entry, shift_remove_entry}
use Rattle.semantic_syntax.specs.Tables.{Name}
use Rattle.scoping_rows.specs.Flat.{Numbered, bound_under}
use Rattle.scoping_rows.specs.Names.{name_at, named, IsUnknown, IsNumberOf}

-- each number is that of a name
abbrev pub AreKnown : {X : Type 0} → ℕ → List (ℕ × X) → Type 0
AreKnown count es = AllByRecursion (λ e. e.0 < count) es

pub named-grown : {X : Type 0} (names added : List Name) (es : List (ℕ × X)) → AreKnown (length names) es → named (names ++ added) es ≡ named names es
named-grown names added [] h = refl
named-grown names added (e ∷ es) h =
    let same : name_at (names ++ added) e.0 ≡ name_at names e.0 = get_or-append names added [] e.0 h.0 in
    rw (same, named-grown names added es h.1) refl

module _ {X : Type 0} (names : List Name) (name : Name) where
  pub lookup-unknown : IsUnknown names name → (es : List (ℕ × X)) → AreKnown (length names) es → lookup (bytes_eq name) (named names es) ≡ None
  lookup-unknown unknown [] h = refl
  lookup-unknown unknown (e ∷ es) h = rw (unknown.none e.0 h.0) (lookup-unknown unknown es h.1)

  pub remove-unknown : IsUnknown names name → (es : List (ℕ × X)) → AreKnown (length names) es → shift_remove_entry (bytes_eq name) (named names es) ≡ named names es
  remove-unknown unknown [] h = refl
  remove-unknown unknown (e ∷ es) h = rw (unknown.none e.0 h.0) (ap (λ t. (name_at names e.0, e.1) ∷ t) (remove-unknown unknown es h.1))

  module _ (n : ℕ) (number : IsNumberOf names name n) where
    pub lookup-named : (es : List (ℕ × X)) → AreKnown (length names) es → lookup (bytes_eq name) (named names es) ≡ lookup (nat_eq n) es
    lookup-named [] h = refl
    lookup-named (e ∷ es) h = rw (number.only e.0 h.0, lookup-named es h.1) refl

    pub insert-named : (v : X) (es : List (ℕ × X)) → AreKnown (length names) es → named names (insert_entry nat_eq es n v) ≡ insert_entry bytes_eq (named names es) name v
    insert-named v [] h = rw number.named refl
    insert-named v (e ∷ es) h = by (n == e.0) (number.only e.0 h.0) (insert-named v es h.1)
      where
        by : (b : Bool) → bytes_eq name (name_at names e.0) ≡ b → named names (insert_entry nat_eq es n v) ≡ insert_entry bytes_eq (named names es) name v
            → named names (if b then (e.0, v) ∷ es else e ∷ insert_entry nat_eq es n v) ≡ insert_entry bytes_eq (named names (e ∷ es)) name v
        by true same rest = rw same refl
        by false same rest = rw (same, rest) refl

    pub remove-named : (es : List (ℕ × X)) → AreKnown (length names) es → named names (shift_remove_entry (nat_eq n) es) ≡ shift_remove_entry (bytes_eq name) (named names es)
    remove-named [] h = refl
    remove-named (e ∷ es) h = by (n == e.0) (number.only e.0 h.0) (remove-named es h.1)
      where
        by : (b : Bool) → bytes_eq name (name_at names e.0) ≡ b → named names (shift_remove_entry (nat_eq n) es) ≡ shift_remove_entry (bytes_eq name) (named names es)
            → named names (cond b es (e ∷ shift_remove_entry (nat_eq n) es)) ≡ shift_remove_entry (bytes_eq name) (named names (e ∷ es))
        by true same rest = rw same refl
        by false same rest = rw (same, rest) refl

-- what the lists bind under the number of a name is what they bind to the name
pub under-named : (names : List Name) (name : Name) (number : Option ℕ) → MatchOption number (IsUnknown names name) (λ n. IsNumberOf names name n)
    → (bs : List Numbered) → AllByRecursion (AreKnown (length names)) bs → map (bound_under number) bs ≡ map (lookup (bytes_eq name)) (map (named names) bs)
under-named names name number told [] h = refl
under-named names name number told (b ∷ bs) h = λ j. here number told j ∷ under-named names name number told bs h.1 j
  where
    here : (number : Option ℕ) → MatchOption number (IsUnknown names name) (λ n. IsNumberOf names name n) → bound_under number b ≡ lookup (bytes_eq name) (named names b)
    here None unknown = sym (lookup-unknown names name unknown b h.0)
    here (Some n) known = sym (lookup-named names name n known b h.0)

-- the values stay
pub values-named : {X : Type 0} (names : List Name) (es : List (ℕ × X)) → values_of (named names es) ≡ values_of es
values-named names [] = refl
values-named names (e ∷ es) = ap (λ t. e.1 ∷ t) (values-named names es)

pub empty-named : {X : Type 0} (names : List Name) (es : List (ℕ × X)) → named names es ≡ [] → es ≡ []
empty-named names [] none = refl
empty-named names (e ∷ es) none = absurd (cc)
