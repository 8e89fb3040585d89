-- The names that change with their new names, one by one.
use Rattle.std.proofs.Common.{◌≡◌, ℕ, ◌+◌, ◌-◌, ◌<◌, ◌≤◌, List, [], ◌∷◌, Bool, true, false, cond, Option, Some, None, length, drop, filter, zip, get_or, bytes_eq, refl, sym, ap, subst, ◌∙◌, arith}
use Rattle.std.specs.Map.{lookup}
use Rattle.std.proofs.lemmas.List.{drop_more, drop_all}
use Rattle.semantic_syntax.specs.Tables.{Name}
use Rattle.mangle_model.specs.Assignment.{first_name}
use Rattle.mangle_model.specs.OneNameEach.{is_shorter}
use Rattle.mangle_model.specs.ShortNames.{short_name}
use Rattle.simple_names.specs.NextNames.{unused_from, IsNextName}
use Rattle.simple_names.specs.declared.next_name.Short.{Short}
use Rattle.simple_names.proofs.AmongNames.{first_assoc, none_after}
use Rattle.simple_names.proofs.NextTurns.{next_left}

abbrev pub shorter : List Name → List Name → List (Name × Name)
shorter xs ys = filter is_shorter (zip xs ys)

abbrev pub found : List (Name × Name) → Name → Option Name
found pairs q = lookup (bytes_eq q) pairs

-- what one pair adds
abbrev pub with_pair : Name → Name → Option Name → Name → Option Name
with_pair x y old q = cond (is_shorter (x, y)) (first_name old (cond (bytes_eq q x) (Some y) None)) old

first_found : (y : Name) (other : Option Name) (b : Bool) → first_name (cond b (Some y) None) other ≡ cond b (Some y) other
first_found y other true = refl
first_found y other false = refl

found_by : (q x y : Name) (old : Option Name) (more : List (Name × Name)) (b : Bool)
    → first_name (cond b (first_name old (cond (bytes_eq q x) (Some y) None)) old) (found more q) ≡ first_name old (found (cond b ((x, y) ∷ more) more) q)
found_by q x y old more true = first_assoc old (cond (bytes_eq q x) (Some y) None) (found more q) ∙ ap (first_name old) (first_found y (found more q) (bytes_eq q x))
found_by q x y old more false = refl

one_found : (q x y : Name) (old : Option Name) (xs ys : List Name) → first_name (with_pair x y old q) (found (shorter xs ys) q) ≡ first_name old (found (shorter (x ∷ xs) (y ∷ ys)) q)
one_found q x y old xs ys = found_by q x y old (shorter xs ys) (is_shorter (x, y))

module _ (unused : Name → Bool) (changing : List Name) (count : ℕ) where
  -- those so far, and those that are left
  pub record SoFar (i next : ℕ) (pairs : List (Name × Name)) : Type 0 where
    pub enough : length (drop i changing) ≤ length (unused_from unused next (count - next))
    pub rest : (q : Name) → first_name (found pairs q) (found (shorter (drop i changing) (unused_from unused next (count - next))) q) ≡ found (shorter changing (unused_from unused 0 count)) q

  pub at_first : length changing ≤ length (unused_from unused 0 count) → SoFar 0 0 []
  at_first h =
      let none : count - 0 ≡ count = omega arith in record {
        enough = subst (λ n. length changing ≤ length (unused_from unused 0 n)) (sym none) h;
        rest = λ q. ap (λ n. found (shorter changing (unused_from unused 0 n)) q) none;
      }

  pub one_pair : (i next : ℕ) (old new : List (Name × Name)) (name : Name) (short : Short) → i < length changing → name ≡ get_or changing i [] → IsNextName unused next short
      → ((q : Name) → found new q ≡ with_pair name (short_name short.number) (found old q) q) → SoFar i next old → SoFar (i + 1) (short.number + 1) new
  one_pair i next old new name short h is s grown so =
      let x : Name = get_or changing i [] in
      let y : Name = short_name short.number in
      let xs : List Name = drop (i + 1) changing in
      let ys : List Name = unused_from unused (short.number + 1) (count - (short.number + 1)) in
      let more : drop i changing ≡ x ∷ xs = drop_more changing i [] h in
      let many : length (drop i changing) ≡ length (x ∷ xs) = ap length more in
      let next_is : unused_from unused next (count - next) ≡ y ∷ ys = next_left unused count next short.number s.after s.is_unused s.used (omega (arith, so.enough, many)) in
      let left : length (unused_from unused next (count - next)) ≡ length (y ∷ ys) = ap length next_is in record {
        enough = omega (arith, so.enough, many, left);
        rest = λ q.
            ap (λ o. first_name o (found (shorter xs ys) q)) (grown q ∙ ap (λ n. with_pair n y (found old q) q) is)
            ∙ one_found q x y (found old q) xs ys
            ∙ (λ j. first_name (found old q) (found (shorter (sym more j) (sym next_is j)) q))
            ∙ so.rest q;
      }

  pub at_last : (i next : ℕ) (pairs : List (Name × Name)) → length changing ≤ i → SoFar i next pairs → (q : Name) → found pairs q ≡ found (shorter changing (unused_from unused 0 count)) q
  at_last i next pairs h so q =
      sym (none_after (found pairs q))
      ∙ ap (λ xs. first_name (found pairs q) (found (shorter xs (unused_from unused next (count - next))) q)) (sym (drop_all i changing h))
      ∙ so.rest q
