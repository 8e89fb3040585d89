-- A name that is longer than all names of a list, and names that take its place.
use Rattle.std.proofs.Common.{◌≡◌, ◌<◌, List, [], ◌∷◌, ◌++◌, true, false, inl, inr, length, if◌then◌else◌, refl, sym, ap, ◌∙◌, bytes_eq, arith}
use Rattle.std.specs.List.{list_any}
use Rattle.std.proofs.lemmas.List.{length-append}
use Rattle.semantic_syntax.specs.Tables.{Name}
use Rattle.semantic_model.specs.Entries.{Among}
use Rattle.semantic_model.proofs.once.ListedUnder.{name_tells}
use Rattle.swapped_checks.specs.RuleWords.{rule_words, is_rule_word, KeepsRuleWords}
use Rattle.swapped_checks.proofs.Told.{apart, other_way}
use Rattle.renaming_laws.specs.NewNames.{instead}

-- ---- a name that stands in no list

abbrev pub fresh : List Name → Name
fresh [] = 0 ∷ []
fresh (x ∷ xs) = (0 ∷ x) ++ fresh xs

pub longer : (xs : List Name) (x : Name) → Among x xs → length x < length (fresh xs)
longer [] x a = absurd a
longer (y ∷ ys) x (inl e) = omega (arith, ap length e, length-append (0 ∷ y) (fresh ys))
longer (y ∷ ys) x (inr a) = omega (arith, longer ys x a, length-append (0 ∷ y) (fresh ys))

-- a name that is shorter is another one
pub shorter_differs : (x z : Name) → length x < length z → bytes_eq x z ≡ false
shorter_differs x z h = elim (name_tells x z) [ inr k ↦ k.0 | inl k ↦ absurd (omega (arith, h, ap length k.1)) ]

any_same : (z : Name) (ws : List Name) → ((x : Name) → Among x ws → bytes_eq x z ≡ false) → list_any (bytes_eq z) ws ≡ false
any_same z [] h = refl
any_same z (w ∷ ws) h = rw (other_way w z (h w (inl refl)), any_same z ws (λ x a. h x (inr a))) refl

-- a name that is longer than the words of the rules is none of them
pub longer_is_no_word : (z : Name) → ((x : Name) → Among x rule_words → length x < length z) → is_rule_word z ≡ false
longer_is_no_word z h = any_same z rule_words (λ x a. shorter_differs x z (h x a))

-- ---- one name in the place of another

pub itself : (z : Name) → bytes_eq z z ≡ true
itself z = elim (name_tells z z) [ inl k ↦ k.0 | inr k ↦ absurd (k.1 refl) ]

pub taken : (z w : Name) → instead z w z ≡ w
taken z w = ap (λ b. if b then w else z) (itself z)

pub left : (z w x : Name) → bytes_eq x z ≡ false → instead z w x ≡ x
left z w x h = ap (λ b. if b then w else x) h

pub instead_keeps : (z w : Name) → is_rule_word z ≡ false → is_rule_word w ≡ false → KeepsRuleWords (instead z w)
instead_keeps z w h i = record { same = same }
  where
    no_word : (name word : Name) → is_rule_word name ≡ false → is_rule_word word ≡ true → bytes_eq name word ≡ false
    no_word name word j k = other_way word name (apart rule_words name word k j)

    same : (x word : Name) → is_rule_word word ≡ true → bytes_eq (instead z w x) word ≡ bytes_eq x word
    same x word k = elim (name_tells x z) [
      | inl e ↦ ap (λ b. bytes_eq (if b then w else x) word) e.0 ∙ no_word w word i k ∙ sym (ap (λ u. bytes_eq u word) e.1 ∙ no_word z word h k)
      | inr e ↦ ap (λ b. bytes_eq (if b then w else x) word) e.0
    ]
