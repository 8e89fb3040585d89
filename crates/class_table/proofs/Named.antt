-- The names of each class, beside its elements.
use Rattle.std.proofs.Common.{◌≡◌, ℕ, zero, suc, ◌<◌, List, [], ◌∷◌, ◌++◌, Result, Ok, Err, IfOk, length, map, get_or, refl, sym, ap, subst, ◌∙◌, arith}
use Rattle.std.proofs.Math.ListN.{set}
use Rattle.std.proofs.lemmas.List.{map-set, map-append, get_or-map, length-map}
use Rattle.semantic_model.specs.Element.{Element}
use Rattle.class_table.specs.declared.table.ClassTable.TheInside.{Inside}
use Rattle.class_table.specs.Meanings.{NameMeaning, with_meaning, meanings_of}
use Rattle.class_table.specs.View.{lists_of, IsClassTable}
use Rattle.class_table.proofs.Meanings.{meanings_more}

-- each class has names
pub within_names : (a : Inside) (c : ℕ) → IsClassTable a → c < length (lists_of a).nodes → c < length a.names.items
within_names a c h within =
    let same = ap length h.named ∙ length-map (lists_of a).elements meanings_of in
    let fit = h.lists.with_elements in
    omega arith

-- the names of a class, read at its place
pub names_at : (names : List (List NameMeaning)) (elements : List (List Element)) (c i : ℕ) (was : List NameMeaning) → names ≡ map meanings_of elements → i ≡ c → was ≡ get_or names i was → c < length elements → was ≡ meanings_of (get_or elements c [])
names_at names elements c i was named same read within =
    read ∙ ap (λ n. get_or names n was) same ∙ ap (λ (l : List (List NameMeaning)). get_or l c was) named ∙ get_or-map meanings_of elements c [] was within

-- and with one more element
pub names_set : (names : List (List NameMeaning)) (elements : List (List Element)) (c i : ℕ) (was now : List NameMeaning) (e : Element) (n : ℕ) → names ≡ map meanings_of elements → i ≡ c → was ≡ get_or names i was → c < length elements
    → n ≡ length (get_or elements c []) → now ≡ with_meaning was n e → set names i now ≡ map meanings_of (set elements c (get_or elements c [] ++ e ∷ []))
names_set names elements c i was now e n named same read within number more =
    let es = get_or elements c [] in
    let last : now ≡ meanings_of (es ++ e ∷ []) = more ∙ ap (λ (ms : List NameMeaning). with_meaning ms n e) (names_at names elements c i was named same read within) ∙ ap (λ k. with_meaning (meanings_of es) k e) number ∙ sym (meanings_more es e) in
    ap (λ (l : List (List NameMeaning)). set l i now) named
    ∙ ap (λ k. set (map meanings_of elements) k now) same
    ∙ ap (set (map meanings_of elements) c) last
    ∙ sym (map-set meanings_of elements c (es ++ e ∷ []))

-- and where nothing changes
pub names_kept : (names : List (List NameMeaning)) (i : ℕ) (was now : List NameMeaning) → was ≡ get_or names i was → now ≡ was → set names i now ≡ names
names_kept [] i was now read same = refl
names_kept (x ∷ xs) zero was now read same = ap (λ (y : List NameMeaning). y ∷ xs) (same ∙ read)
names_kept (x ∷ xs) (suc i) was now read same = ap (λ (ys : List (List NameMeaning)). x ∷ ys) (names_kept xs i was now read same)

-- and with one more class
pub names_pushed : (names now : List (List NameMeaning)) (elements elements_now : List (List Element)) (ms : List NameMeaning) (es : List Element) → names ≡ map meanings_of elements → now ≡ names ++ ms ∷ [] → elements_now ≡ elements ++ es ∷ [] → ms ≡ meanings_of es
    → now ≡ map meanings_of elements_now
names_pushed names now elements elements_now ms es named more longer meant =
    more
    ∙ ap (λ (l : List (List NameMeaning)). l ++ ms ∷ []) named
    ∙ ap (λ (m : List NameMeaning). map meanings_of elements ++ m ∷ []) meant
    ∙ sym (map-append meanings_of elements (es ∷ []))
    ∙ ap (map meanings_of) (sym longer)

-- on a result
pub if_ok_same : {T E : Type 0} (r : Result T E) (a b : T) → a ≡ b → IfOk r (λ x. x ≡ a) → IfOk r (λ x. x ≡ b)
if_ok_same (Ok x) a b e h = h ∙ e
if_ok_same (Err x) a b e h = tt

pub if_ok_holds : {T E : Type 0} (P : T → Type 0) (r : Result T E) (a : T) → P a → IfOk r (λ x. x ≡ a) → IfOk r P
if_ok_holds P (Ok x) a p h = subst P (sym h) p
if_ok_holds P (Err x) a p h = tt
