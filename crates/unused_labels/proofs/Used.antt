-- How labels come to be used.
use Rattle.std.proofs.Common.{◌≡◌, ℕ, ◌-◌, List, [], ◌∷◌, ◌++◌, Bool, true, false, ◌&&◌, ◌||◌, not, cond, Some, length, take, slice_get, refl, sym, ap, ◌∙◌, inl, inr, arith, length-append}
use Rattle.std.specs.List.{list_any}
use Rattle.semantic_syntax.specs.Tables.{Name}
use Rattle.std.specs.Prelude.{bytes_eq}
use Rattle.std.proofs.lemmas.Slice.Eq.{bytes_eq-Decides}
use Rattle.semantic_syntax.proofs.Truth.{or_false}
use Rattle.semantic_model.proofs.once.ListedUnder.{name_tells}
use Rattle.unused_labels.specs.LabelStack.{Labelled, is_label_named, innermost_used, if_unused, label_left}
use Rattle.unused_labels.specs.Labelling.{used_where}
use Rattle.unused_labels.proofs.Innermost.{lists, unmoved}

-- the statement, which is used or not
abbrev pub marked : Labelled → Bool → Labelled
marked l u = record l { used = u }

pub not_used : (u x : Bool) → (u || (x && false)) ≡ u
not_used true x = refl
not_used false true = refl
not_used false false = refl

-- where the test holds of no label nothing changes
pub used_nowhere : (ls : List Labelled) → used_where (λ label. false) ls ≡ ls
used_nowhere [] = refl
used_nowhere (l ∷ ls) = λ i. marked l (not_used l.used (not (list_any (is_label_named l.name) ls)) i) ∷ used_nowhere ls i

-- tests that hold of the same labels
pub used_alike : (s t : Name → Bool) (ls : List Labelled) → ((label : Name) → s label ≡ t label) → used_where s ls ≡ used_where t ls
used_alike s t [] h = refl
used_alike s t (l ∷ ls) h = λ i. marked l (l.used || (not (list_any (is_label_named l.name) ls) && h l.name i)) ∷ used_alike s t ls h i

pub labels_stay : (name : Name) (test : Name → Bool) (ls : List Labelled) → list_any (is_label_named name) (used_where test ls) ≡ list_any (is_label_named name) ls
labels_stay name test [] = refl
labels_stay name test (l ∷ ls) = ap (λ b. is_label_named name l || b) (labels_stay name test ls)

both_uses : (u x s t : Bool) → ((u || (x && s)) || (x && t)) ≡ (u || (x && (s || t)))
both_uses true x s t = refl
both_uses false true s t = refl
both_uses false false s t = refl

-- one test and then another
pub used_twice : (s t : Name → Bool) (ls : List Labelled) → used_where t (used_where s ls) ≡ used_where (λ label. s label || t label) ls
used_twice s t [] = refl
used_twice s t (l ∷ ls) =
    let x = not (list_any (is_label_named l.name) ls) in
    let u = l.used || (x && s l.name) in
    let first : (u || (not (list_any (is_label_named l.name) (used_where s ls)) && t l.name)) ≡ (l.used || (x && (s l.name || t l.name))) =
    ap (λ b. u || (not b && t l.name)) (labels_stay l.name s ls) ∙ both_uses l.used x (s l.name) (t l.name) in
    λ i. marked l (first i) ∷ used_twice s t ls i

not_inner : (a e t : Bool) → (not (a || (e || false)) && t) ≡ (not a && (not e && t))
not_inner true e t = refl
not_inner false true t = refl
not_inner false false t = refl

list_any_push : (test : Labelled → Bool) (ls : List Labelled) (l : Labelled) → list_any test (ls ++ l ∷ []) ≡ (list_any test ls || (test l || false))
list_any_push test [] l = refl
list_any_push test (x ∷ ls) l = by (test x) (list_any_push test ls l)
  where
    by : (b : Bool) → list_any test (ls ++ l ∷ []) ≡ (list_any test ls || (test l || false)) → (b || list_any test (ls ++ l ∷ [])) ≡ ((b || list_any test ls) || (test l || false))
    by true h = refl
    by false h = h

-- inside a labelled statement its label means it alone
pub used_inside : (test : Name → Bool) (ls : List Labelled) (inner : Labelled)
    → used_where test (ls ++ inner ∷ []) ≡ used_where (λ label. not (bytes_eq inner.name label) && test label) ls ++ marked inner (inner.used || test inner.name) ∷ []
used_inside test [] inner = refl
used_inside test (l ∷ ls) inner =
    let same : (l.used || (not (list_any (is_label_named l.name) (ls ++ inner ∷ [])) && test l.name)) ≡ (l.used || (not (list_any (is_label_named l.name) ls) && (not (bytes_eq inner.name l.name) && test l.name))) =
    ap (λ b. l.used || (not b && test l.name)) (list_any_push (is_label_named l.name) ls inner)
    ∙ ap (λ b. l.used || b) (not_inner (list_any (is_label_named l.name) ls) (bytes_eq inner.name l.name) (test l.name)) in
    λ i. marked l (same i) ∷ used_inside test ls inner i

or_true : (u : Bool) → true ≡ (u || true)
or_true true = refl
or_true false = refl

-- a jump uses its label
pub used_by_jump : (name : Name) (ls : List Labelled) → innermost_used name ls ≡ used_where (λ label. bytes_eq name label) ls
used_by_jump name [] = refl
used_by_jump name (l ∷ ls) = elim (name_tells l.name name) [ inl q ↦ own (used_by_jump name ls) q.0 q.1 | inr q ↦ other (used_by_jump name ls) q.0 q.1 ]
  where
    rest : List Labelled
    rest = used_where (λ label. bytes_eq name label) ls

    a : Bool
    a = list_any (is_label_named name) ls

    inner : List Labelled
    inner = innermost_used name ls

    now : Bool → Bool → List Labelled
    now x e = marked l (l.used || (not x && e)) ∷ rest

    here : (b : Bool) → (b ≡ false → inner ≡ ls) → cond b (l ∷ inner) (marked l true ∷ ls) ≡ marked l (l.used || (not b && true)) ∷ inner
    here true none = λ i. marked l ((sym (or_false l.used)) i) ∷ inner
    here false none = λ i. marked l (or_true l.used i) ∷ sym (none refl) i

    there : (b : Bool) → (b ≡ false → inner ≡ ls) → cond b (l ∷ inner) (l ∷ ls) ≡ l ∷ inner
    there true none = refl
    there false none = ap (λ xs. l ∷ xs) (sym (none refl))

    own : inner ≡ rest → bytes_eq l.name name ≡ true → l.name ≡ name → cond a (l ∷ inner) (cond (is_label_named name l) (marked l true) l ∷ ls) ≡ now (list_any (is_label_named l.name) ls) (bytes_eq name l.name)
    own later e same =
        ap (λ b. cond a (l ∷ inner) (cond b (marked l true) l ∷ ls)) e
        ∙ here a (λ h. unmoved name ls h)
        ∙ ap (λ xs. marked l (l.used || (not a && true)) ∷ xs) later
        ∙ ap (now a) (sym ((bytes_eq-Decides name l.name).1 (sym same)))
        ∙ ap (λ x. now (list_any (is_label_named x) ls) (bytes_eq name l.name)) (sym same)

    apart : (l.name ≡ name → ⊥) → bytes_eq name l.name ≡ false
    apart h = elim (name_tells name l.name) [ inl q ↦ absurd (h (sym q.1)) | inr q ↦ q.0 ]

    other : inner ≡ rest → bytes_eq l.name name ≡ false → (l.name ≡ name → ⊥) → cond a (l ∷ inner) (cond (is_label_named name l) (marked l true) l ∷ ls) ≡ now (list_any (is_label_named l.name) ls) (bytes_eq name l.name)
    other later e h =
        ap (λ b. cond a (l ∷ inner) (cond b (marked l true) l ∷ ls)) e
        ∙ there a (λ n. unmoved name ls n)
        ∙ (λ i. marked l (sym (not_used l.used (not (list_any (is_label_named l.name) ls))) i) ∷ later i)
        ∙ ap (now (list_any (is_label_named l.name) ls)) (sym (apart h))

-- the innermost statement is left
pub left_last : (ls : List Labelled) (l : Labelled) (unused : List ℕ) → label_left (lists (ls ++ l ∷ []) unused) ≡ lists ls (unused ++ if_unused (Some l))
left_last ls l unused =
    let count : length (ls ++ l ∷ []) - 1 ≡ length ls = ap (λ n. n - 1) (length-append ls (l ∷ [])) ∙ omega arith in
    ap (λ n. lists (take n (ls ++ l ∷ [])) (unused ++ if_unused (slice_get (ls ++ l ∷ []) n))) count
    ∙ λ i. lists (before ls i) (unused ++ if_unused (last ls i))
  where
    before : (xs : List Labelled) → take (length xs) (xs ++ l ∷ []) ≡ xs
    before [] = refl
    before (x ∷ xs) = ap (λ ys. x ∷ ys) (before xs)

    last : (xs : List Labelled) → slice_get (xs ++ l ∷ []) (length xs) ≡ Some l
    last [] = refl
    last (x ∷ xs) = last xs
