-- The elements by their names tell the one that an element is compared with.
use Rattle.std.proofs.Common.{◌≡◌, List, [], ◌∷◌, ◌++◌, Bool, true, false, Option, Some, None, ◌&&◌, ◌||◌, not, cond, if◌then◌else◌, refl, sym, ap, subst, ◌∙◌, inl, inr, bytes_eq}
use Rattle.std.specs.Prelude.{find, reverse, fold, IfSome}
use Rattle.std.specs.List.{AllByRecursion}
use Rattle.std.specs.Map.{lookup}
use Rattle.std.specs.Option.{option_or}
use Rattle.std.proofs.lemmas.Bool.{cases_Bool}
use Rattle.std.proofs.lemmas.List.{reverse-append}
use Rattle.std.proofs.lemmas.Slice.Eq.{bytes_eq-Decides}
use Rattle.indexmap.specs.IndexMap.{insert_entry}
use Rattle.semantic_syntax.specs.Tables.{Name}
use Rattle.semantic_model.specs.Element.{Element}
use Rattle.check_model.specs.Elements.{same_truth, some_or, predecessor}
use Rattle.check_model.specs.Search.{find_last}
use Rattle.expression_checks.specs.Entries.{NamedElement}
use Rattle.expression_checks.specs.Predecessors.{with_last_element, with_one_of, sets, is_public, is_private_setter, is_other_private, last_of, earlier_of, and_element, predecessor_in}

-- what a look-up finds after one more element

same_name : (a b : Name) → bytes_eq a b ≡ true → a ≡ b
same_name a b h = (bytes_eq-Decides a b).0 h

not_same : (a b : Name) → bytes_eq a b ≡ false → bytes_eq b a ≡ false
not_same a b h = elim (cases_Bool (bytes_eq b a)) [
  | inl q ↦ (let w : bytes_eq a b ≡ true = (bytes_eq-Decides a b).1 (sym (same_name b a q)) in let c : true ≡ false = sym w ∙ h in absurd cc)
  | inr q ↦ q
]

noted_at : (es : List NamedElement) (name : Name) (e : Element) (x : Name) → lookup (bytes_eq x) (insert_entry bytes_eq es name e) ≡ cond (bytes_eq x name) (Some e) (lookup (bytes_eq x) es)
noted_at [] name e x = refl
noted_at (f ∷ es) name e x = elim (cases_Bool (bytes_eq name f.0)) [
  | inl q ↦ (let k : name ≡ f.0 = same_name name f.0 q in rw q (rw k (both (bytes_eq x f.0))))
  | inr q ↦ rw q (elim (cases_Bool (bytes_eq x f.0)) [
    | inl r ↦ (let k : x ≡ f.0 = same_name x f.0 r in
        let no : bytes_eq x name ≡ false = subst (λ y. bytes_eq y name ≡ false) (sym k) (not_same name f.0 q) in
        rw (r, no) refl)
    | inr r ↦ rw (r) (noted_at es name e x)
  ])
]
  where
    both : (b : Bool) → (if b then Some e else lookup (bytes_eq x) es) ≡ cond b (Some e) (if b then Some f.1 else lookup (bytes_eq x) es)
    both true = refl
    both false = refl

noted : (es : List NamedElement) (e : Element) (x : Name) → lookup (bytes_eq x) (with_last_element es e) ≡ cond (bytes_eq x e.name) (Some e) (lookup (bytes_eq x) es)
noted es e x = noted_at es e.name e x

module _ (group : Element → Bool) (x : Name) where
  -- the element is of the group and has the name
  abbrev is_meant : Element → Bool
  is_meant e = group e && bytes_eq x e.name

  noted_if : (es : List NamedElement) (e : Element) → lookup (bytes_eq x) (with_one_of group es e) ≡ cond (is_meant e) (Some e) (lookup (bytes_eq x) es)
  noted_if es e = by (group e)
    where
      by : (b : Bool) → lookup (bytes_eq x) (cond b (with_last_element es e) es) ≡ cond (b && bytes_eq x e.name) (Some e) (lookup (bytes_eq x) es)
      by true = noted es e x
      by false = refl

  found_append : (test : Element → Bool) (xs : List Element) (e : Element) → find test (xs ++ e ∷ []) ≡ option_or (find test xs) (cond (test e) (Some e) None)
  found_append test [] e = refl
  found_append test (f ∷ xs) e = by (test f) (found_append test xs e)
    where
      by : (b : Bool) → find test (xs ++ e ∷ []) ≡ option_or (find test xs) (cond (test e) (Some e) None) → (if b then Some f else find test (xs ++ e ∷ [])) ≡ option_or (if b then Some f else find test xs) (cond (test e) (Some e) None)
      by true h = refl
      by false h = h

  either : (a : Option Element) (b : Bool) (e : Element) (c : Option Element) → option_or a (cond b (Some e) c) ≡ option_or (option_or a (cond b (Some e) None)) c
  either (Some y) b e c = refl
  either None true e c = refl
  either None false e c = refl

  from_entries : (xs : List Element) (es : List NamedElement) → lookup (bytes_eq x) (fold (with_one_of group) es xs) ≡ option_or (find_last is_meant xs) (lookup (bytes_eq x) es)
  from_entries [] es = refl
  from_entries (e ∷ xs) es =
      from_entries xs (with_one_of group es e)
      ∙ ap (option_or (find_last is_meant xs)) (noted_if es e)
      ∙ either (find_last is_meant xs) (is_meant e) e (lookup (bytes_eq x) es)
      ∙ ap (λ o. option_or o (lookup (bytes_eq x) es)) (sym (found_append is_meant (reverse xs) e))
      ∙ ap (λ l. option_or (find is_meant l) (lookup (bytes_eq x) es)) (sym (reverse-append (e ∷ []) xs))

  nothing_else : (o : Option Element) → option_or o None ≡ o
  nothing_else None = refl
  nothing_else (Some y) = refl

  -- the last element of the name in the group
  last_noted : (xs : List Element) → lookup (bytes_eq x) (last_of group xs) ≡ find_last is_meant xs
  last_noted xs = from_entries xs [] ∙ nothing_else (find_last is_meant xs)

-- the element that is compared

or_either : (p q r : Element → Bool) → ((e : Element) → r e ≡ (p e || q e)) → (xs : List Element) → some_or (find p xs) (find r xs) ≡ some_or (find p xs) (find q xs)
or_either p q r h [] = refl
or_either p q r h (x ∷ xs) = ap (λ b. some_or (if p x then Some x else find p xs) (if b then Some x else find r xs)) (h x) ∙ by (p x) (q x) (or_either p q r h xs)
  where
    by : (a b : Bool) → some_or (find p xs) (find r xs) ≡ some_or (find p xs) (find q xs)
        → some_or (if a then Some x else find p xs) (if a || b then Some x else find r xs) ≡ some_or (if a then Some x else find p xs) (if b then Some x else find q xs)
    by true b rest = refl
    by false true rest = refl
    by false false rest = rest

-- by the truths of an element: private, and setting
compared : (p s : Bool) → Name → List Element → Option Element
compared p s x es =
    if p then some_or (find_last (λ o. (bytes_eq x o.name && same_truth p o.is_private) && same_truth s (sets o)) es) (find_last (λ o. bytes_eq x o.name && same_truth p o.is_private) es)
    else find_last (λ o. bytes_eq x o.name && same_truth p o.is_private) es

looked_up : (p s : Bool) → Name → List Element → Option Element
looked_up p s x es =
    let public : Option Element = lookup (bytes_eq x) (last_of is_public es) in
    let setter : Option Element = lookup (bytes_eq x) (last_of is_private_setter es) in
    let other : Option Element = lookup (bytes_eq x) (last_of is_other_private es) in
    if p then (if s then some_or setter other else some_or other setter) else public

public_truth : (a p : Bool) → (not p && a) ≡ (a && not p)
public_truth true true = refl
public_truth true false = refl
public_truth false true = refl
public_truth false false = refl

private_truth : (a p s : Bool) → ((p && s) && a) ≡ ((a && p) && s)
private_truth true true true = refl
private_truth true true false = refl
private_truth true false s = refl
private_truth false true true = refl
private_truth false true false = refl
private_truth false false s = refl

setter_or_other : (a p s : Bool) → (a && p) ≡ (((p && s) && a) || ((p && not s) && a))
setter_or_other true true true = refl
setter_or_other true true false = refl
setter_or_other true false s = refl
setter_or_other false true true = refl
setter_or_other false true false = refl
setter_or_other false false s = refl

other_or_setter : (a p s : Bool) → (a && p) ≡ (((p && not s) && a) || ((p && s) && a))
other_or_setter true true true = refl
other_or_setter true true false = refl
other_or_setter true false s = refl
other_or_setter false true true = refl
other_or_setter false true false = refl
other_or_setter false false s = refl

same_predecessor : (p s : Bool) (x : Name) (es : List Element) → looked_up p s x es ≡ compared p s x es
unfolding compared looked_up
same_predecessor false s x es =
    last_noted is_public x es
    ∙ (λ i. find_last (λ o. public_truth (bytes_eq x o.name) o.is_private i) es)
same_predecessor true true x es =
    (λ i. some_or (last_noted is_private_setter x es i) (last_noted is_other_private x es i))
    ∙ sym (or_either (is_meant is_private_setter x) (is_meant is_other_private x) (λ o. bytes_eq x o.name && o.is_private) (λ o. setter_or_other (bytes_eq x o.name) o.is_private (sets o)) (reverse es))
    ∙ (λ i. some_or (find_last (λ o. private_truth (bytes_eq x o.name) o.is_private (sets o) i) es) (find_last (λ o. bytes_eq x o.name && o.is_private) es))
same_predecessor true false x es =
    (λ i. some_or (last_noted is_other_private x es i) (last_noted is_private_setter x es i))
    ∙ sym (or_either (is_meant is_other_private x) (is_meant is_private_setter x) (λ o. bytes_eq x o.name && o.is_private) (λ o. other_or_setter (bytes_eq x o.name) o.is_private (sets o)) (reverse es))
    ∙ (λ i. some_or (find_last (λ o. private_truth (bytes_eq x o.name) o.is_private (not (sets o)) i) es) (find_last (λ o. bytes_eq x o.name && o.is_private) es))

-- what is looked up is the element that is compared with
pub predecessor_found : (es : List Element) (own : Element) → predecessor_in (earlier_of es) own ≡ predecessor es own
unfolding compared looked_up
predecessor_found es own = same_predecessor own.is_private (sets own) own.name es

fold_last : (group : Element → Bool) (es : List NamedElement) (xs : List Element) (e : Element) → fold (with_one_of group) es (xs ++ e ∷ []) ≡ with_one_of group (fold (with_one_of group) es xs) e
fold_last group es [] e = refl
fold_last group es (x ∷ xs) e = fold_last group (with_one_of group es x) xs e

-- one more element
pub earlier_more : (es : List Element) (e : Element) → and_element (earlier_of es) e ≡ earlier_of (es ++ e ∷ [])
earlier_more es e = sym (λ i. record {
  public = fold_last is_public [] es e i;
  setters = fold_last is_private_setter [] es e i;
  others = fold_last is_other_private [] es e i;
})

-- what holds of all elements holds of the one that is compared with
module _ (P : Element → Type 0) where
  append_each : (xs : List Element) (e : Element) → AllByRecursion P xs → P e → AllByRecursion P (xs ++ e ∷ [])
  append_each [] e all here = (here, tt)
  append_each (x ∷ xs) e all here = (all.0, append_each xs e all.1 here)

  reverse_each : (xs : List Element) → AllByRecursion P xs → AllByRecursion P (reverse xs)
  reverse_each [] all = tt
  reverse_each (x ∷ xs) all = subst (AllByRecursion P) (sym (reverse-append (x ∷ []) xs)) (append_each (reverse xs) x (reverse_each xs all.1) all.0)

  found_each : (test : Element → Bool) (xs : List Element) → AllByRecursion P xs → IfSome (find test xs) P
  found_each test [] all = tt
  found_each test (x ∷ xs) all = by (test x) (found_each test xs all.1)
    where
      by : (b : Bool) → IfSome (find test xs) P → IfSome (if b then Some x else find test xs) P
      by true rest = all.0
      by false rest = rest

  either_each : (a b : Option Element) → IfSome a P → IfSome b P → IfSome (some_or a b) P
  either_each None b h k = k
  either_each (Some x) b h k = h

  chosen_each : (b : Bool) (x y : Option Element) → IfSome x P → IfSome y P → IfSome (if b then x else y) P
  chosen_each true x y h k = h
  chosen_each false x y h k = k

  pub predecessor_each : (es : List Element) (own : Element) → AllByRecursion P es → IfSome (predecessor es own) P
  predecessor_each es own all =
      let last : (test : Element → Bool) → IfSome (find_last test es) P = λ test. found_each test (reverse es) (reverse_each es all) in
      chosen_each own.is_private _ _ (either_each _ _ (last _) (last _)) (last _)
