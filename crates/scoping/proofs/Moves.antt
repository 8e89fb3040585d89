-- Bindings that move and are renamed.
use Rattle.std.proofs.Common.{◌≡◌, ℕ, ◌<◌, ◌==◌, nat_eq, Bool, true, false, cond, if◌then◌else◌, List, [], ◌∷◌, Option, None, Some, length, get_or, map, refl, sym, ap, ◌∙◌}
use Rattle.std.specs.List.{AllByRecursion}
use Rattle.std.specs.Option.{option_map_or}
use Rattle.std.specs.Map.{lookup}
use Rattle.std.specs.Str.{bytes_eq}
use Rattle.std.proofs.lemmas.List.{length-set}
use Rattle.semantic_syntax.specs.Tables.{Name, Tables}
use Rattle.scoping_rows.specs.Flat.{Numbered, put, cut, moved_number, renumbered}
use Rattle.scoping_rows.specs.Names.{named, IsUnknown, IsNumberOf}
use Rattle.scoping.specs.View.{IsBoundWithin}
use Rattle.semantic_syntax.specs.Writing.{bound, unbound, name_moved, binding_renamed}
use Rattle.scoping.proofs.Shown.{AreBound, bound_at, bound_insert, bound_remove, shown_insert, shown_remove, shown_lookup, shown_lookup_unknown}

value_within : (names symbols n y : ℕ) (b : Numbered) → AllByRecursion (IsBoundWithin names symbols) b → lookup (nat_eq n) b ≡ Some y → y < symbols
value_within names symbols n y [] h found = absurd (cc)
value_within names symbols n y (e ∷ b) h found = by (nat_eq n e.0) found (value_within names symbols n y b h.1)
  where
    by : (t : Bool) → cond t (Some e.1) (lookup (nat_eq n) b) ≡ Some y → (lookup (nat_eq n) b ≡ Some y → y < symbols) → y < symbols
    by true found rest = let same : e.1 ≡ y = cc in rw (← same) h.0.1
    by false found rest = rest found

module _ (names symbols : ℕ) (bs : List Numbered) (h : AreBound names symbols bs) (from to n : ℕ) where
  pub bound_moved : n < names → AreBound names symbols (moved_number bs from to n)
  bound_moved known = by (lookup (nat_eq n) (get_or bs from [])) refl
    where
      by : (o : Option ℕ) → lookup (nat_eq n) (get_or bs from []) ≡ o → AreBound names symbols (option_map_or (λ y. cut (put bs to n y) from n) o bs)
      by None e = h
      by (Some y) e = bound_remove names symbols from n (put bs to n y) (bound_insert names symbols to n y bs known (value_within names symbols n y (get_or bs from []) (bound_at names symbols bs from h) e) h)

  pub length_moved : length (moved_number bs from to n) ≡ length bs
  length_moved = by (lookup (nat_eq n) (get_or bs from []))
    where
      by : (o : Option ℕ) → length (option_map_or (λ y. cut (put bs to n y) from n) o bs) ≡ length bs
      by None = refl
      by (Some y) = length-set (put bs to n y) from _ ∙ length-set bs to _

module _ (names : List Name) (symbols : ℕ) (bs : List Numbered) (h : AreBound (length names) symbols bs) (t : Tables) where
  -- tables that show these bindings
  abbrev pub showing : List Numbered → Tables
  showing b = record t { bindings = map (named names) b }

  module _ (s : ℕ) (within : s < length bs) (name : Name) where
    module _ (n : ℕ) (number : IsNumberOf names name n) where
      pub bound_is : (y : ℕ) → showing (put bs s n y) ≡ bound (showing bs) s name y
      bound_is y = ap (λ b. record t { bindings = b }) (shown_insert names symbols bs h s within name n number y)

      pub unbound_is : showing (cut bs s n) ≡ unbound (showing bs) s name
      unbound_is = ap (λ b. record t { bindings = b }) (shown_remove names symbols bs h s within name n number)

  module _ (from to : ℕ) (first : from < length bs) (second : to < length bs) (name : Name) where
    pub moved_unknown : IsUnknown names name → name_moved (showing bs) from to name ≡ showing bs
    moved_unknown unknown = rw (shown_lookup_unknown names symbols bs h from first name unknown) refl

    pub moved_is : (n : ℕ) → IsNumberOf names name n → showing (moved_number bs from to n) ≡ name_moved (showing bs) from to name
    moved_is n number = by (lookup (nat_eq n) (get_or bs from [])) refl
      where
        by : (o : Option ℕ) → lookup (nat_eq n) (get_or bs from []) ≡ o
            → showing (option_map_or (λ y. cut (put bs to n y) from n) o bs)
            ≡ option_map_or (λ y. unbound (bound (showing bs) to name y) from name) (lookup (bytes_eq name) (get_or (map (named names) bs) from [])) (showing bs)
        by None e = rw (shown_lookup names symbols bs h from first name n number ∙ e) refl
        by (Some y) e =
            let value = value_within (length names) symbols n y (get_or bs from []) (bound_at (length names) symbols bs from h) e in
            let inner = bound_insert (length names) symbols to n y bs number.within value h in
            rw (shown_lookup names symbols bs h from first name n number ∙ e)
            (ap (λ b. record t { bindings = b }) (shown_remove names symbols (put bs to n y) inner from (rw length-set first) name n number)
            ∙ ap (λ u. unbound u from name) (bound_is to second name n number y))

  module _ (s : ℕ) (within : s < length bs) (y : ℕ) (old new : Name) (m n : ℕ) (first : IsNumberOf names old m) (second : IsNumberOf names new n) where
    tells : (b : Bool) → (n == m) ≡ b → bytes_eq new old ≡ b
    tells b e = ap (bytes_eq new) (sym first.named) ∙ second.only m first.within ∙ e

    rename_same : (n == m) ≡ true → binding_renamed (showing bs) s y old new ≡ showing bs
    rename_same same = rw (tells true same) refl

    rename_is : (n == m) ≡ false → showing (put (cut bs s m) s n y) ≡ binding_renamed (showing bs) s y old new
    rename_is apart =
        let inner = bound_remove (length names) symbols s m bs h in
        rw (tells false apart)
        (ap (λ b. record t { bindings = b }) (shown_insert names symbols (cut bs s m) inner s (rw length-set within) new n second y)
        ∙ ap (λ u. bound u s new y) (unbound_is s within old m first))

    pub renumbered_is : showing (renumbered bs s m n y) ≡ binding_renamed (showing bs) s y old new
    renumbered_is = by (n == m) refl
      where
        by : (b : Bool) → (n == m) ≡ b → showing (if b then bs else put (cut bs s m) s n y) ≡ binding_renamed (showing bs) s y old new
        by true e = sym (rename_same e)
        by false e = rename_is e

pub bound_renumbered : (names symbols s m n y : ℕ) (bs : List Numbered) → n < names → y < symbols → AreBound names symbols bs → AreBound names symbols (renumbered bs s m n y)
bound_renumbered names symbols s m n y bs l k h = by (n == m)
  where
    by : (b : Bool) → AreBound names symbols (if b then bs else put (cut bs s m) s n y)
    by true = h
    by false = bound_insert names symbols s n y (cut bs s m) l k (bound_remove names symbols s m bs h)

pub length_renumbered : (s m n y : ℕ) (bs : List Numbered) → length (renumbered bs s m n y) ≡ length bs
length_renumbered s m n y bs = by (n == m)
  where
    by : (b : Bool) → length (if b then bs else put (cut bs s m) s n y) ≡ length bs
    by true = refl
    by false = length-set (cut bs s m) s _ ∙ length-set bs s _
