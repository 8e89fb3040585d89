-- The places of open labels, as labels open and close.
use Rattle.std.proofs.Common.{◌≡◌, ℕ, suc, ◌+◌, Bool, true, false, List, [], ◌∷◌, ◌++◌, Option, Some, None, cond, length, refl, ap, ◌∙◌, arith}
use Rattle.std.specs.Borrow.{Bor}
use Rattle.std.specs.Str.{chars, bytes_eq, IsUtf8}
use Rattle.std.proofs.lemmas.Slice.Eq.{bytes_eq-Decides}
use Rattle.semantic_syntax.proofs.SameTexts.{same_texts}
use Rattle.unused_labels.specs.declared.open_labels.OpenLabel.{OpenLabel}
use Rattle.unused_labels.specs.OpenNames.{next_or_first, last_place}
use Rattle.unused_labels.specs.OpenPlaces.{Places, nowhere, with_place, label_names, PlacesAreKnown}

-- one more label is open
pub pushed : (f : Places) (n m : ℕ) (ls : List OpenLabel) (g h : Places) (l : OpenLabel) → PlacesAreKnown f n ls g → m ≡ n + length ls
    → IsUtf8 l.name.now → l.outer ≡ g l.name.now → ((q : Bor (List ℕ)) → h q.now ≡ with_place g l.name.now m q.now) → PlacesAreKnown f n (ls ++ l ∷ []) h
pushed f n m [] g h l k e u o w =
    let same : m ≡ n = omega (arith, e) in
    (u, (o ∙ k l.name, λ q. w q ∙ (λ i. cond (bytes_eq l.name.now q.now) (Some (same i)) (k q i))))
pushed f n m (x ∷ ls) g h l k e u o w =
    (k.0, (k.1.0, pushed (with_place f x.name.now n) (suc n) m ls g h l k.1.1 (omega (arith, e)) u o w))

-- the innermost label is open no longer
pub popped : (f : Places) (n : ℕ) (ls : List OpenLabel) (g h : Places) (l : OpenLabel) → PlacesAreKnown f n (ls ++ l ∷ []) g
    → ((q : Bor (List ℕ)) → h q.now ≡ cond (bytes_eq l.name.now q.now) l.outer (g q.now)) → PlacesAreKnown f n ls h
popped f n [] g h l k w = λ q. w q ∙ ap (cond (bytes_eq l.name.now q.now) l.outer) (k.1.1 q) ∙ by q (bytes_eq l.name.now q.now) refl
  where
    by : (q : Bor (List ℕ)) (b : Bool) → bytes_eq l.name.now q.now ≡ b → cond b l.outer (cond b (Some n) (f q.now)) ≡ f q.now
    by q true e = k.1.0 ∙ ap f ((bytes_eq-Decides l.name.now q.now).0 e)
    by q false e = refl
popped f n (x ∷ ls) g h l k w = (k.0, (k.1.0, popped (with_place f x.name.now n) (suc n) ls g h l k.1.1 w))

-- it is the innermost of its name
pub last_known : (f : Places) (n : ℕ) (ls : List OpenLabel) (g : Places) (l : OpenLabel) → PlacesAreKnown f n (ls ++ l ∷ []) g → g l.name.now ≡ Some (n + length ls)
last_known f n [] g l k =
    let own : bytes_eq l.name.now l.name.now ≡ true = (bytes_eq-Decides l.name.now l.name.now).1 refl in
    let here : n ≡ n + length {A = OpenLabel} [] = omega arith in
    k.1.1 l.name ∙ ap (λ b. cond b (Some n) (f l.name.now)) own ∙ ap (λ m. Some m) here
last_known f n (x ∷ ls) g l k =
    let next : suc n + length ls ≡ n + length (x ∷ ls) = omega arith in
    last_known (with_place f x.name.now n) (suc n) ls g l k.1.1 ∙ ap (λ m. Some m) next

-- a place from n on, or one that was known before
abbrev behind : ℕ → Option ℕ → Option ℕ → Option ℕ
behind n before (Some k) = Some (n + k)
behind n before None = before

-- the place of a name
pub found_from : (f : Places) (n : ℕ) (ls : List OpenLabel) (g : Places) (q : Bor (List ℕ)) → PlacesAreKnown f n ls g → IsUtf8 q.now
    → g q.now ≡ behind n (f q.now) (last_place (chars q.now) (label_names ls))
found_from f n [] g q k u = k q
found_from f n (l ∷ ls) g q k u =
    found_from (with_place f l.name.now n) (suc n) ls g q k.1.1 u ∙ by (last_place (chars q.now) (label_names ls))
  where
    here : (b c : Bool) → b ≡ c → cond c (Some n) (f q.now) ≡ behind n (f q.now) (next_or_first None b)
    here true true e = ap (λ m. Some m) (omega arith)
    here false false e = refl
    here true false e = absurd cc
    here false true e = absurd cc

    by : (o : Option ℕ) → behind (suc n) (with_place f l.name.now n q.now) o ≡ behind n (f q.now) (next_or_first o (bytes_eq (chars l.name.now) (chars q.now)))
    by (Some k) = ap (λ m. Some m) (omega arith)
    by None = here (bytes_eq (chars l.name.now) (chars q.now)) (bytes_eq l.name.now q.now) (same_texts l.name.now q.now k.0 u)

from_none : (o : Option ℕ) → behind 0 None o ≡ o
from_none (Some k) = ap (λ m. Some m) (omega arith)
from_none None = refl

pub found : (ls : List OpenLabel) (g : Places) (q : Bor (List ℕ)) → PlacesAreKnown nowhere 0 ls g → IsUtf8 q.now → g q.now ≡ last_place (chars q.now) (label_names ls)
found ls g q k u = found_from nowhere 0 ls g q k u ∙ from_none (last_place (chars q.now) (label_names ls))
