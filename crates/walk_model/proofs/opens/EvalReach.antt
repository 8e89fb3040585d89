-- How far a call of `eval` has flagged its scopes: outward to the first that is still open.
use Rattle.std.proofs.Common.{◌≡◌, ℕ, ◌<◌, ◌≤◌, ◌==◌, List, [], ◌∷◌, ◌++◌, Option, Some, None, Bool, true, false, ◌&&◌, ◌||◌, not, inl, inr, refl, sym, ap, subst, ◌∙◌, length, arith}
use Rattle.std.specs.Prelude.{slice_get}
use Rattle.std.proofs.lemmas.Option.{slice_get_within}
use Rattle.std.proofs.lemmas.Bool.Decides.{eqb_tells}
use Rattle.semantic_model.specs.Place.{OpenScope}
use Rattle.semantic_syntax.specs.Members.{contains}
use Rattle.semantic_syntax.proofs.Truth.{or_assoc, or_false, and_false}
use Rattle.semantic_model.specs.TablesOf.{any_holds, numbers}
use Rattle.walk_model.proofs.places.Nested.{AreLinked, Extends, get_more}

abbrev pub reaches : List ℕ → List ℕ → ℕ → Bool
reaches stack [] c = false
reaches stack (d ∷ ds) c = d == c || (not (contains stack d) && reaches stack ds c)

abbrev pub reached : List ℕ → List (List ℕ) → ℕ → Bool
reached stack [] c = false
reached stack (l ∷ ls) c = reaches stack l c || reached stack ls c

-- each scope of the list is seen, with those that follow around it
abbrev pub IsLinked : List (List ℕ) → List ℕ → Type 0
IsLinked seen [] = Unit {0}
IsLinked seen (d ∷ ds) = (slice_get seen d ≡ Some ds) × IsLinked seen ds

abbrev pub AllLinked : List (List ℕ) → List (List ℕ) → Type 0
AllLinked seen [] = Unit {0}
AllLinked seen (l ∷ ls) = IsLinked seen l × AllLinked seen ls

pub linked_numbers : (seen : List (List ℕ)) (chain : List OpenScope) → AreLinked seen chain → IsLinked seen (numbers chain)
linked_numbers seen [] h = tt
linked_numbers seen (s ∷ ss) h = (h.0, linked_numbers seen ss h.1)

linked_longer : (seen later : List (List ℕ)) (l : List ℕ) → Extends seen later → IsLinked seen l → IsLinked later l
linked_longer seen later [] e h = tt
linked_longer seen later (d ∷ ds) e h = (get_more seen later d ds e h.0, linked_longer seen later ds e h.1)

pub all_linked_longer : (seen later : List (List ℕ)) (ls : List (List ℕ)) → Extends seen later → AllLinked seen ls → AllLinked later ls
all_linked_longer seen later [] e h = tt
all_linked_longer seen later (l ∷ ls) e h = (linked_longer seen later l e h.0, all_linked_longer seen later ls e h.1)

pub linked-push : (seen : List (List ℕ)) (ls : List (List ℕ)) (l : List ℕ) → AllLinked seen ls → IsLinked seen l → AllLinked seen (ls ++ l ∷ [])
linked-push seen [] l h k = (k, tt)
linked-push seen (m ∷ ls) l h k = (h.0, linked-push seen ls l h.1 k)

pub reached-push : (stack : List ℕ) (ls : List (List ℕ)) (l : List ℕ) (c : ℕ) → reached stack (ls ++ l ∷ []) c ≡ (reached stack ls c || reaches stack l c)
reached-push stack [] l c = or_false (reaches stack l c)
reached-push stack (m ∷ ls) l c = ap (λ b. reaches stack m c || b) (reached-push stack ls l c) ∙ (sym (or_assoc (reaches stack m c) (reached stack ls c) (reaches stack l c)))

-- a call in an open scope flags it alone
pub reaches_open : (stack : List ℕ) (d : ℕ) (ds : List ℕ) (c : ℕ) → contains stack d ≡ true → reaches stack (d ∷ ds) c ≡ (d == c)
reaches_open stack d ds c h = ap (λ b. d == c || (not b && reaches stack ds c)) h ∙ or_false (d == c)

-- a scope that is just opened holds no call, and changes nothing
reaches_new : (stack : List ℕ) (seen : List (List ℕ)) (n : ℕ) (l : List ℕ) (c : ℕ) → length seen ≤ n → IsLinked seen l → reaches (n ∷ stack) l c ≡ reaches stack l c
reaches_new stack seen n [] c h k = refl
reaches_new stack seen n (d ∷ ds) c h k =
    let less : d < length seen = slice_get_within seen d ds k.0 in
    let other : (n == d) ≡ false = elim (eqb_tells n d) [ inl q ↦ absurd (omega (arith, q.1, less, h)) | inr q ↦ q.0 ] in
    ap (λ b. d == c || (not (b || contains stack d) && reaches (n ∷ stack) ds c)) other
    ∙ ap (λ b. d == c || (not (contains stack d) && b)) (reaches_new stack seen n ds c h k.1)

pub reached_new : (stack : List ℕ) (seen : List (List ℕ)) (n : ℕ) (ls : List (List ℕ)) (c : ℕ) → length seen ≤ n → AllLinked seen ls → reached (n ∷ stack) ls c ≡ reached stack ls c
reached_new stack seen n [] c h k = refl
reached_new stack seen n (l ∷ ls) c h k = λ i. reaches_new stack seen n l c h k.0 i || reached_new stack seen n ls c h k.1 i

reaches_none : (stack : List ℕ) (seen : List (List ℕ)) (n : ℕ) (l : List ℕ) → length seen ≤ n → IsLinked seen l → reaches stack l n ≡ false
reaches_none stack seen n [] h k = refl
reaches_none stack seen n (d ∷ ds) h k =
    let less : d < length seen = slice_get_within seen d ds k.0 in
    let other : (d == n) ≡ false = elim (eqb_tells d n) [ inl q ↦ absurd (omega (arith, q.1, less, h)) | inr q ↦ q.0 ] in
    ap (λ b. b || (not (contains stack d) && reaches stack ds n)) other ∙ ap (λ b. not (contains stack d) && b) (reaches_none stack seen n ds h k.1) ∙ and_false (not (contains stack d))

pub reached_none : (stack : List ℕ) (seen : List (List ℕ)) (n : ℕ) (ls : List (List ℕ)) → length seen ≤ n → AllLinked seen ls → reached stack ls n ≡ false
reached_none stack seen n [] h k = refl
reached_none stack seen n (l ∷ ls) h k = λ i. reaches_none stack seen n l h k.0 i || reached_none stack seen n ls h k.1 i

-- the first of a list
abbrev pub head_of : List ℕ → Option ℕ
head_of [] = None
head_of (e ∷ es) = Some e

abbrev pub is_first : List ℕ → ℕ → Bool
is_first [] c = false
is_first (e ∷ es) c = e == c

abbrev pub IsHeadOpen : List ℕ → List ℕ → Type 0
IsHeadOpen stack [] = Unit {0}
IsHeadOpen stack (e ∷ es) = contains stack e ≡ true

reaches_head : (stack l : List ℕ) (c : ℕ) → IsHeadOpen stack l → reaches stack l c ≡ is_first l c
reaches_head stack [] c h = refl
reaches_head stack (e ∷ es) c h = reaches_open stack e es c h

-- as a scope closes, a call that has reached it reaches the scope around it
mix_here : (a b x h : Bool) → b ≡ true → (a || (true && h)) ≡ ((a || (false && x)) || ((b || false) && h))
mix_here true b x h e = refl
mix_here false b x h e = rw e refl

mix_there : (a n r g h : Bool) → (a || (n && (r || (g && h)))) ≡ ((a || (n && r)) || ((false || (n && g)) && h))
mix_there true n r g h = refl
mix_there false true r g h = refl
mix_there false false r g h = refl

reaches_closed : (stack : List ℕ) (seen : List (List ℕ)) (s : ℕ) (around l : List ℕ) (c : ℕ) → contains stack s ≡ false → slice_get seen s ≡ Some around → IsHeadOpen stack around → IsLinked seen l
    → reaches stack l c ≡ (reaches (s ∷ stack) l c || (reaches (s ∷ stack) l s && is_first around c))
reaches_closed stack seen s around [] c out q o k = refl
reaches_closed stack seen s around (d ∷ ds) c out q o k = elim (eqb_tells s d) [
  | inl e ↦ here e.0 e.1
  | inr e ↦ there e.0 e.1 (reaches_closed stack seen s around ds c out q o k.1)
]
  where
    here : (s == d) ≡ true → s ≡ d → reaches stack (d ∷ ds) c ≡ (reaches (s ∷ stack) (d ∷ ds) c || (reaches (s ∷ stack) (d ∷ ds) s && is_first around c))
    here e f =
        let closed : contains stack d ≡ false = subst (λ m. contains stack m ≡ false) f out in
        let first : (d == s) ≡ true = elim (eqb_tells d s) [ inl g ↦ g.0 | inr g ↦ absurd (g.1 (sym f)) ] in
        let some : Some around ≡ Some ds = sym q ∙ subst (λ m. slice_get seen m ≡ Some ds) (sym f) k.0 in
        let same : around ≡ ds = cc in
        let next : reaches stack ds c ≡ is_first around c = subst (λ m. reaches stack m c ≡ is_first around c) same (reaches_head stack around c o) in
        rw (closed, e, first, next) (by (d == c) (reaches (s ∷ stack) ds c) (is_first around c))
      where
        by : (a x h : Bool) → (a || h) ≡ ((a || false) || h)
        by true x h = refl
        by false x h = refl

    there : (s == d) ≡ false → (s ≡ d → ⊥) → reaches stack ds c ≡ (reaches (s ∷ stack) ds c || (reaches (s ∷ stack) ds s && is_first around c)) → reaches stack (d ∷ ds) c ≡ (reaches (s ∷ stack) (d ∷ ds) c || (reaches (s ∷ stack) (d ∷ ds) s && is_first around c))
    there e f h =
        let other : (d == s) ≡ false = elim (eqb_tells d s) [ inl g ↦ absurd (f (sym g.1)) | inr g ↦ g.0 ] in
        rw (e, other, h) (mix_there (d == c) (not (contains stack d)) (reaches (s ∷ stack) ds c) (reaches (s ∷ stack) ds s) (is_first around c))

mix : (a b h A B : Bool) → ((a || (b && h)) || (A || (B && h))) ≡ ((a || A) || ((b || B) && h))
mix true b h A B = refl
mix false true true true B = refl
mix false true true false B = refl
mix false true false true true = refl
mix false true false true false = refl
mix false true false false true = refl
mix false true false false false = refl
mix false false h true B = refl
mix false false h false B = refl

pub reached_closed : (stack : List ℕ) (seen : List (List ℕ)) (s : ℕ) (around : List ℕ) (ls : List (List ℕ)) (c : ℕ) → contains stack s ≡ false → slice_get seen s ≡ Some around → IsHeadOpen stack around → AllLinked seen ls
    → reached stack ls c ≡ (reached (s ∷ stack) ls c || (reached (s ∷ stack) ls s && is_first around c))
reached_closed stack seen s around [] c out q o k = refl
reached_closed stack seen s around (l ∷ ls) c out q o k =
    (λ i. reaches_closed stack seen s around l c out q o k.0 i || reached_closed stack seen s around ls c out q o k.1 i)
    ∙ mix (reaches (s ∷ stack) l c) (reaches (s ∷ stack) l s) (is_first around c) (reached (s ∷ stack) ls c) (reached (s ∷ stack) ls s)

-- when all are closed, a call has reached all its scopes
reaches_all : (l : List ℕ) (c : ℕ) → reaches [] l c ≡ contains l c
reaches_all [] c = refl
reaches_all (d ∷ ds) c = ap (λ b. d == c || b) (reaches_all ds c)

pub reached_all : (ls : List (List ℕ)) (c : ℕ) → reached [] ls c ≡ any_holds ls c
reached_all [] c = refl
reached_all (l ∷ ls) c = λ i. reaches_all l c i || reached_all ls c i
