-- The names of flags, added one after the other.
use Rattle.std.proofs.Common.{◌≡◌, ℕ, ◌+◌, suc, ◌<◌, ◌≤◌, ◌==◌, arith, Bool, true, false, List, [], ◌∷◌, ◌++◌, length, get_or, drop, map, flat_map, ap, sym, ◌∙◌, refl, drop-cons, add-one, append_assoc}
use Rattle.std.proofs.lemmas.Grind.{common_steps}
use Rattle.std.specs.Int.RustNames.{bit_and}
use Rattle.report_lines.specs.Pieces.{name_if_set, behind_plus, flags_text}

-- what the flags that are left add
abbrev pub names_left : Bool → ℕ → List (List ℕ × ℕ) → List ℕ
names_left true bits rows = flags_text rows bits
names_left false bits rows = flat_map (name_if_set bits) rows

take : (first : Bool) (bits : ℕ) (row : List ℕ × ℕ) (rows : List (List ℕ × ℕ)) → (bit_and bits row.1 == row.1) ≡ true
    → names_left first bits (row ∷ rows) ≡ behind_plus first row.0 ++ names_left false bits rows
take true bits row rows set = rw set refl
take false bits row rows set = rw set refl

skip : (first : Bool) (bits : ℕ) (row : List ℕ × ℕ) (rows : List (List ℕ × ℕ)) → (bit_and bits row.1 == row.1) ≡ false
    → names_left first bits (row ∷ rows) ≡ names_left first bits rows
skip true bits row rows unset = rw unset refl
skip false bits row rows unset = rw unset refl

module _ {X : Type 0} (row : X → List ℕ × ℕ) (bits i : ℕ) (xs : List X) (x : X) where
  left-cons : (first : Bool) → i < length xs → x ≡ get_or xs i x → names_left first bits (map row (drop i xs)) ≡ names_left first bits (row x ∷ map row (drop (suc i) xs))
  left-cons first inside is =
      ap (λ ys. names_left first bits (map row ys)) (drop-cons xs i x inside) ∙ ap (λ y. names_left first bits (row y ∷ map row (drop (suc i) xs))) (sym is)

  -- the next flag is set
  pub names_take : (line : List ℕ) (first : Bool) → i < length xs → x ≡ get_or xs i x → (bit_and bits (row x).1 == (row x).1) ≡ true
      → (line ++ behind_plus first (row x).0) ++ names_left false bits (map row (drop (i + 1) xs)) ≡ line ++ names_left first bits (map row (drop i xs))
  names_take line first inside is set =
      append_assoc line (behind_plus first (row x).0) (names_left false bits (map row (drop (i + 1) xs)))
      ∙ rw (add-one) (ap (λ rest. line ++ rest) (sym (left-cons first inside is ∙ take first bits (row x) (map row (drop (suc i) xs)) set)))

  -- the next flag isn't set
  pub names_skip : (line : List ℕ) (first : Bool) → i < length xs → x ≡ get_or xs i x → (bit_and bits (row x).1 == (row x).1) ≡ false
      → line ++ names_left first bits (map row (drop (i + 1) xs)) ≡ line ++ names_left first bits (map row (drop i xs))
  names_skip line first inside is unset =
      rw (add-one) (ap (λ rest. line ++ rest) (sym (left-cons first inside is ∙ skip first bits (row x) (map row (drop (suc i) xs)) unset)))

-- no flag is left
pub names_end : {X : Type 0} (row : X → List ℕ × ℕ) (bits i : ℕ) (xs : List X) (first : Bool) → length xs ≤ i → names_left first bits (map row (drop i xs)) ≡ names_left first bits []
names_end row bits i xs first past =
    let none : drop i xs ≡ [] = grind (arith, common_steps) in
    ap (λ ys. names_left first bits (map row ys)) none
