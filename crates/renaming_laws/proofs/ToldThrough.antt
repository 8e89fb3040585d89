-- What is told again of a third program with two names in the place of one, is told again of one another.
use Rattle.std.proofs.Common.{◌≡◌, ◌<◌, List, [], ◌∷◌, ◌++◌, inl, inr, ◌⊎◌, length, refl, sym, ap, subst, ◌∙◌, codes, arith}
use Rattle.std.proofs.lemmas.List.{length-append}
use Rattle.semantic_syntax.specs.Tables.{Name}
use Rattle.semantic_syntax.specs.declared.spans.Span.{Span}
use Rattle.semantic_diagnostics.specs.declared.diagnostic.Label.{Label}
use Rattle.semantic_diagnostics.specs.declared.diagnostic.Diagnostic.{Diagnostic}
use Rattle.semantic_diagnostics.specs.Names.{redeclaration, undefined_export}
use Rattle.semantic_model.proofs.once.ListedUnder.{name_tells}
use Rattle.swapped_checks.specs.SwappedRows.{IsToldAgain, told_the_same, redeclared_by_name, exported_by_name, AreToldAgain}
use Rattle.renaming_laws.specs.NewNames.{instead}
use Rattle.renaming_laws.proofs.FreshNames.{taken, left}

-- ---- rows that don't have a name

-- the message of the row is shorter than the name
abbrev pub IsShort : Name → Diagnostic → Type 0
IsShort z row = length row.message < length z

abbrev pub AreShort : Name → List Diagnostic → Type 0
AreShort z [] = Unit {0}
AreShort z (row ∷ rows) = IsShort z row × AreShort z rows

pub short_first : (z : Name) (xs ys : List Diagnostic) → AreShort z (xs ++ ys) → AreShort z xs
short_first z [] ys h = tt
short_first z (x ∷ xs) ys h = (h.0, short_first z xs ys h.1)

pub short_rest : (z : Name) (xs ys : List Diagnostic) → AreShort z (xs ++ ys) → AreShort z ys
short_rest z [] ys h = h
short_rest z (x ∷ xs) ys h = short_rest z xs ys h.1

redeclared_long : (z : Name) (first second : Span) → IsShort z (redeclaration z first second) → ⊥
redeclared_long z first second h =
    omega (arith, h, length-append (codes "Identifier `") (z ++ codes "` has already been declared" ++ []), length-append z (codes "` has already been declared" ++ []))

exported_long : (z : Name) (span : Span) → IsShort z (undefined_export z span) → ⊥
exported_long z span h =
    omega (arith, h, length-append (codes "Export '") (z ++ codes "' is not defined" ++ []), length-append z (codes "' is not defined" ++ []))

-- ---- one row

-- what a row is of which another is told
data Told (f : Name → Name) (c x : Diagnostic) : Type 0 where
  same : x ≡ c → Told f c x
  redeclared : (name : Name) (first second : Span) → c ≡ redeclaration name first second → x ≡ redeclaration (f name) first second → Told f c x
  exported : (name : Name) (span : Span) → c ≡ undefined_export name span → x ≡ undefined_export (f name) span → Told f c x

tells : (f : Name → Name) (c x : Diagnostic) → IsToldAgain f c x → Told f c x
tells f _ _ (told_the_same row) = same refl
tells f _ _ (redeclared_by_name name first second) = redeclared name first second refl refl
tells f _ _ (exported_by_name name span) = exported name span refl refl

abbrev no_span : Span
no_span = record { start = 0; end = 0 }

-- the spans of the labels
abbrev first_span : List Label → Span
first_span [] = no_span
first_span (l ∷ ls) = l.span

abbrev second_span : List Label → Span
second_span (k ∷ l ∷ ls) = l.span
second_span _ = no_span

module _ (z old new : Name) where
  abbrev before : Name → Name
  before = instead z old

  abbrev after : Name → Name
  after = instead z new

  abbrev pub renaming : Name → Name
  renaming = instead old new

  -- a row that names the symbol, or is the same
  told_equal : (x y : Diagnostic) → y ≡ x → IsToldAgain renaming x y
  told_equal x y e = subst (IsToldAgain renaming x) (sym e) (told_the_same x)

  -- the name of a row that is told of another name is that of the symbol
  named_or : (name : Name) → ((name ≡ z) ⊎ ((before name ≡ name) × (after name ≡ name)))
  named_or name = elim (name_tells name z) [ inl k ↦ inl k.1 | inr k ↦ inr (left z old name k.0, left z new name k.0) ]

  -- one row by one
  module _ (c x y : Diagnostic) (short : IsShort z x) (short_too : IsShort z y) where
    never : {A : Type 0} → (first second : Span) (w : Diagnostic) → w ≡ redeclaration z first second → IsShort z w → A
    never first second w e h = absurd (redeclared_long z first second (subst (IsShort z) e h))

    never_exported : {A : Type 0} → (span : Span) (w : Diagnostic) → w ≡ undefined_export z span → IsShort z w → A
    never_exported span w e h = absurd (exported_long z span (subst (IsShort z) e h))

    spans_are : (n m : Name) (a b a' b' : Span) → redeclaration n a b ≡ redeclaration m a' b' → (a ≡ a') × (b ≡ b')
    spans_are n m a b a' b' e = (ap (λ (d : Diagnostic). first_span d.labels) e, ap (λ (d : Diagnostic). second_span d.labels) e)

    no_export : (n m : Name) (a b span : Span) → redeclaration n a b ≡ undefined_export m span → ⊥
    no_export n m a b span e = absurd (omega (arith, ap (λ (d : Diagnostic). length d.labels) e))

    by_row : Told before c x → Told after c y → IsToldAgain renaming x y
    by_row (same e) (same k) = told_equal x y (k ∙ sym e)
    by_row (same e) (redeclared n a b i k) = elim (named_or n) [
      | inl q ↦ never a b x (e ∙ i ∙ (λ t. redeclaration (q t) a b)) short
      | inr q ↦ told_equal x y (k ∙ ap (λ u. redeclaration u a b) q.1 ∙ sym (e ∙ i))
    ]
    by_row (same e) (exported n a i k) = elim (named_or n) [
      | inl q ↦ never_exported a x (e ∙ i ∙ (λ t. undefined_export (q t) a)) short
      | inr q ↦ told_equal x y (k ∙ ap (λ u. undefined_export u a) q.1 ∙ sym (e ∙ i))
    ]
    by_row (redeclared n a b i k) (same e) = elim (named_or n) [
      | inl q ↦ never a b y (e ∙ i ∙ (λ t. redeclaration (q t) a b)) short_too
      | inr q ↦ told_equal x y (e ∙ i ∙ sym (k ∙ ap (λ u. redeclaration u a b) q.0))
    ]
    by_row (exported n a i k) (same e) = elim (named_or n) [
      | inl q ↦ never_exported a y (e ∙ i ∙ (λ t. undefined_export (q t) a)) short_too
      | inr q ↦ told_equal x y (e ∙ i ∙ sym (k ∙ ap (λ u. undefined_export u a) q.0))
    ]
    by_row (redeclared n a b i k) (redeclared m a' b' j l) = elim (named_or n) [
      | inl q ↦ elim (named_or m) [
        | inl r ↦ (let (u, v) = spans_are n m a b a' b' (sym i ∙ j) in
            subst (λ w. IsToldAgain renaming w y) (sym (k ∙ ap (λ w. redeclaration w a b) (ap before q ∙ taken z old)))
            (subst (IsToldAgain renaming (redeclaration old a b)) (sym (l ∙ (λ t. redeclaration ((ap after r ∙ taken z new ∙ sym (taken old new)) t) (sym u t) (sym v t)))) (redeclared_by_name old a b)))
        | inr r ↦ never a b y (l ∙ ap (λ u. redeclaration u a' b') r.1 ∙ sym j ∙ i ∙ (λ t. redeclaration (q t) a b)) short_too
      ]
      | inr q ↦ elim (named_or m) [
        | inl r ↦ never a' b' x (k ∙ ap (λ u. redeclaration u a b) q.0 ∙ sym i ∙ j ∙ (λ t. redeclaration (r t) a' b')) short
        | inr r ↦ told_equal x y (l ∙ ap (λ u. redeclaration u a' b') r.1 ∙ sym j ∙ i ∙ sym (k ∙ ap (λ u. redeclaration u a b) q.0))
      ]
    ]
    by_row (redeclared n a b i k) (exported m a' j l) = absurd (no_export n m a b a' (sym i ∙ j))
    by_row (exported n a i k) (redeclared m a' b' j l) = absurd (no_export m n a' b' a (sym j ∙ i))
    by_row (exported n a i k) (exported m b j l) = elim (named_or n) [
      | inl q ↦ elim (named_or m) [
        | inl r ↦ (let u : a ≡ b = ap (λ (d : Diagnostic). first_span d.labels) (sym i ∙ j) in
            subst (λ w. IsToldAgain renaming w y) (sym (k ∙ ap (λ w. undefined_export w a) (ap before q ∙ taken z old)))
            (subst (IsToldAgain renaming (undefined_export old a)) (sym (l ∙ (λ t. undefined_export ((ap after r ∙ taken z new ∙ sym (taken old new)) t) (sym u t)))) (exported_by_name old a)))
        | inr r ↦ never_exported a y (l ∙ ap (λ u. undefined_export u b) r.1 ∙ sym j ∙ i ∙ (λ t. undefined_export (q t) a)) short_too
      ]
      | inr q ↦ elim (named_or m) [
        | inl r ↦ never_exported b x (k ∙ ap (λ u. undefined_export u a) q.0 ∙ sym i ∙ j ∙ (λ t. undefined_export (r t) b)) short
        | inr r ↦ told_equal x y (l ∙ ap (λ u. undefined_export u b) r.1 ∙ sym j ∙ i ∙ sym (k ∙ ap (λ u. undefined_export u a) q.0))
      ]
    ]

  pub told_through : (cs xs ys : List Diagnostic) → AreShort z xs → AreShort z ys → AreToldAgain before cs xs → AreToldAgain after cs ys → AreToldAgain renaming xs ys
  told_through [] [] [] a b h i = tt
  told_through [] (x ∷ xs) ys a b h i = absurd h
  told_through [] [] (y ∷ ys) a b h i = absurd i
  told_through (c ∷ cs) [] ys a b h i = absurd h
  told_through (c ∷ cs) (x ∷ xs) [] a b h i = absurd i
  told_through (c ∷ cs) (x ∷ xs) (y ∷ ys) a b h i = (by_row c x y a.0 b.0 (tells before c x h.0) (tells after c y i.0), told_through cs xs ys a.1 b.1 h.1 i.1)
