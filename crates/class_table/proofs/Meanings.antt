-- The map of names, filled element by element, holds what each name means.
use Rattle.std.proofs.Common.{◌≡◌, ℕ, ◌+◌, List, [], ◌∷◌, ◌++◌, Bool, true, false, cond, if◌then◌else◌, not, ◌&&◌, ◌||◌, Option, Some, None, is_some, length, take, refl, sym, ap, ◌∙◌, arith, inl, inr}
use Rattle.std.specs.List.{list_any}
use Rattle.std.specs.Map.{lookup}
use Rattle.std.specs.Str.{bytes_eq}
use Rattle.std.proofs.lemmas.Bool.{and_parts, cases_Bool}
use Rattle.std.proofs.lemmas.Bool.Decides.{same_from_decides}
use Rattle.std.proofs.lemmas.Slice.Eq.{bytes_eq-Decides}
use Rattle.indexmap.specs.IndexMap.{insert_entry}
use Rattle.semantic_syntax.specs.Tables.{Name}
use Rattle.semantic_model.specs.Element.{Element, is_named, stands_alone, matches_from, element_ids}
use Rattle.class_table.specs.declared.meant_names.Meaning.{Meaning}
use Rattle.class_table.specs.declared.meant_names.Meaning.TheVariants.{Alone, Half, Both}
use Rattle.class_table.specs.Meanings.{ElementKey, NameMeaning, key_eq, key_of, with_more, ids_meant, with_meaning, put_all, meanings_of}

-- equal keys

same_bool : (a b : Bool) → cond b a (not a) ≡ true → a ≡ b
same_bool true true h = refl
same_bool true false h = absurd cc
same_bool false true h = absurd cc
same_bool false false h = refl

same_key : (k l : ElementKey) → key_eq k l ≡ true → k ≡ l
same_key k l h =
    let parts = and_parts (bytes_eq k.0 l.0) _ h in
    λ j. ((bytes_eq-Decides k.0 l.0).0 parts.0 j, same_bool k.1 l.1 parts.1 j)

own_bool : (b : Bool) → cond b b (not b) ≡ true
own_bool true = refl
own_bool false = refl

own_key : (k : ElementKey) → key_eq k k ≡ true
own_key k = ap (λ b. b && cond k.1 k.1 (not k.1)) ((bytes_eq-Decides k.0 k.0).1 refl) ∙ own_bool k.1

turned : (k q : ElementKey) → key_eq k q ≡ key_eq q k
turned k q = same_from_decides (key_eq k q) (key_eq q k) (λ h. ap (key_eq q) (same_key k q h) ∙ own_key q, λ h. ap (key_eq k) (same_key q k h) ∙ own_key k) (λ h. h, λ h. h)

-- what is found after one more entry

same_found : (b : Bool) (v w : Meaning) (o : Option Meaning) → cond b (Some v) o ≡ cond b (Some v) (cond b (Some w) o)
same_found true v w o = refl
same_found false v w o = refl

swapped : (b c : Bool) (v w : Meaning) (o : Option Meaning) → (b ≡ true → c ≡ false) → cond c (Some w) (cond b (Some v) o) ≡ cond b (Some v) (cond c (Some w) o)
swapped true true v w o apart = absurd (let e : true ≡ false = apart refl in cc)
swapped true false v w o apart = refl
swapped false c v w o apart = refl

found_after : (ms : List NameMeaning) (k q : ElementKey) (v : Meaning) → lookup (key_eq q) (insert_entry key_eq ms k v) ≡ cond (key_eq k q) (Some v) (lookup (key_eq q) ms)
found_after [] k q v = ap (λ b. cond b (Some v) None) (turned q k)
found_after (e ∷ ms) k q v = elim (cases_Bool (key_eq k e.0)) [
  | inl h ↦
      (let here : key_eq q e.0 ≡ key_eq k q = ap (key_eq q) (sym (same_key k e.0 h)) ∙ turned q k in
      ap (λ b. lookup (key_eq q) (if b then (e.0, v) ∷ ms else e ∷ insert_entry key_eq ms k v)) h
      ∙ ap (λ b. cond b (Some v) (lookup (key_eq q) ms)) here
      ∙ same_found (key_eq k q) v e.1 (lookup (key_eq q) ms)
      ∙ ap (λ b. cond (key_eq k q) (Some v) (cond b (Some e.1) (lookup (key_eq q) ms))) (sym here))
  | inr h ↦
      ap (λ b. lookup (key_eq q) (if b then (e.0, v) ∷ ms else e ∷ insert_entry key_eq ms k v)) h
      ∙ ap (cond (key_eq q e.0) (Some e.1)) (found_after ms k q v)
      ∙ swapped (key_eq k q) (key_eq q e.0) v e.1 (lookup (key_eq q) ms) (λ w. ap (λ x. key_eq x e.0) (sym (same_key k q w)) ∙ h)
]

-- what the name means after one more element
abbrev after : Option Meaning → ℕ → ElementKey → Element → Option Meaning
after o n q e = cond (is_named q.0 q.1 e) (Some (with_more o n (stands_alone e))) o

put_found : (ms : List NameMeaning) (n : ℕ) (e : Element) (q : ElementKey) → lookup (key_eq q) (with_meaning ms n e) ≡ after (lookup (key_eq q) ms) n q e
put_found ms n e q =
    found_after ms (key_of e) q (with_more (lookup (key_eq (key_of e)) ms) n (stands_alone e))
    ∙ by (key_eq (key_of e) q) (λ h. ap (λ x. lookup (key_eq x) ms) (same_key (key_of e) q h))
  where
    by : (b : Bool) → (b ≡ true → lookup (key_eq (key_of e)) ms ≡ lookup (key_eq q) ms)
        → cond b (Some (with_more (lookup (key_eq (key_of e)) ms) n (stands_alone e))) (lookup (key_eq q) ms) ≡ cond b (Some (with_more (lookup (key_eq q) ms) n (stands_alone e))) (lookup (key_eq q) ms)
    by true same = ap (λ o. Some (with_more o n (stands_alone e))) (same refl)
    by false same = refl

take_none : (xs : List ℕ) → take 0 xs ≡ []
take_none [] = refl
take_none (x ∷ xs) = refl

-- what it means, with the numbers of the later elements of the name
abbrev with_later : Option Meaning → List ℕ → List ℕ
with_later None later = take 2 later
with_later (Some (Alone m)) later = m ∷ []
with_later (Some (Half m)) later = m ∷ take 1 later
with_later (Some (Both m k)) later = m ∷ k ∷ []

one_later : (o : Option Meaning) (named alone : Bool) (n : ℕ) (later : List ℕ) → with_later (cond named (Some (with_more o n alone)) o) later ≡ with_later o (cond named (n ∷ cond alone [] later) later)
one_later None false alone n later = refl
one_later None true true n later = refl
one_later None true false n later = refl
one_later (Some (Alone m)) false alone n later = refl
one_later (Some (Alone m)) true alone n later = refl
one_later (Some (Half m)) false alone n later = refl
one_later (Some (Half m)) true alone n later = ap (λ xs. m ∷ n ∷ xs) (sym (take_none (cond alone [] later)))
one_later (Some (Both m k)) false alone n later = refl
one_later (Some (Both m k)) true alone n later = refl

none_later : (o : Option Meaning) → ids_meant o ≡ with_later o []
none_later None = refl
none_later (Some (Alone m)) = refl
none_later (Some (Half m)) = refl
none_later (Some (Both m k)) = refl

module _ (q : ElementKey) where
  ids_all : (es : List Element) (n : ℕ) (ms : List NameMeaning) → ids_meant (lookup (key_eq q) (put_all n es ms)) ≡ with_later (lookup (key_eq q) ms) (matches_from n q.0 q.1 es)
  ids_all [] n ms = none_later (lookup (key_eq q) ms)
  ids_all (e ∷ es) n ms =
      ids_all es (n + 1) (with_meaning ms n e)
      ∙ ap (λ o. with_later o (matches_from (n + 1) q.0 q.1 es)) (put_found ms n e q)
      ∙ one_later (lookup (key_eq q) ms) (is_named q.0 q.1 e) (stands_alone e) n (matches_from (n + 1) q.0 q.1 es)

  -- a name means the elements that it should
  pub ids_found : (es : List Element) → ids_meant (lookup (key_eq q) (meanings_of es)) ≡ element_ids es q.0 q.1
  ids_found es = ids_all es 0 []

  either : (b : Bool) (m : Meaning) (o : Option Meaning) (later : Bool) → (is_some (cond b (Some m) o) || later) ≡ (is_some o || (b || later))
  either true m None later = refl
  either true m (Some k) later = refl
  either false m None later = refl
  either false m (Some k) later = refl

  some_all : (es : List Element) (n : ℕ) (ms : List NameMeaning) → is_some (lookup (key_eq q) (put_all n es ms)) ≡ (is_some (lookup (key_eq q) ms) || list_any (is_named q.0 q.1) es)
  some_all [] n ms = by (is_some (lookup (key_eq q) ms))
    where
      by : (b : Bool) → b ≡ (b || false)
      by true = refl
      by false = refl
  some_all (e ∷ es) n ms =
      some_all es (n + 1) (with_meaning ms n e)
      ∙ ap (λ o. is_some o || list_any (is_named q.0 q.1) es) (put_found ms n e q)
      ∙ either (is_named q.0 q.1 e) (with_more (lookup (key_eq q) ms) n (stands_alone e)) (lookup (key_eq q) ms) (list_any (is_named q.0 q.1) es)

  -- a name means something exactly where an element has it
  pub some_found : (es : List Element) → is_some (lookup (key_eq q) (meanings_of es)) ≡ list_any (is_named q.0 q.1) es
  some_found es = some_all es 0 []

-- one more element, as the last

put_last : (es : List Element) (n : ℕ) (ms : List NameMeaning) (e : Element) → put_all n (es ++ e ∷ []) ms ≡ with_meaning (put_all n es ms) (n + length es) e
put_last [] n ms e = let same : n ≡ n + 0 = omega arith in ap (λ k. with_meaning ms k e) same
put_last (f ∷ es) n ms e =
    let same : n + 1 + length es ≡ n + length (f ∷ es) = omega arith in
    put_last es (n + 1) (with_meaning ms n f) e ∙ ap (λ k. with_meaning (put_all n (f ∷ es) ms) k e) same

pub meanings_more : (es : List Element) (e : Element) → meanings_of (es ++ e ∷ []) ≡ with_meaning (meanings_of es) (length es) e
meanings_more es e = let same : 0 + length es ≡ length es = omega arith in put_last es 0 [] e ∙ ap (λ n. with_meaning (meanings_of es) n e) same

-- the element is put where its name's meaning is written
pub put_is : (ms : List NameMeaning) (n : ℕ) (e : Element) (name : Name) (was : Option Meaning) (alone : Bool) (made : Meaning) → name ≡ e.name → was ≡ lookup (key_eq (name, e.is_private)) ms → alone ≡ stands_alone e → made ≡ with_more was n alone
    → insert_entry key_eq ms (name, e.is_private) made ≡ with_meaning ms n e
put_is ms n e name was alone made a b c d = rw (d, b, c, a) refl
