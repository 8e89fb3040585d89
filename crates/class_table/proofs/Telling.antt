-- Lists with some uses more in the current class, and some classes more.
use Rattle.std.proofs.Common.{◌≡◌, ℕ, ◌+◌, ◌<◌, List, [], ◌∷◌, ◌++◌, Option, None, Some, IfSome, length, map, get_or, refl, sym, ap, ◌∙◌, arith, append_assoc, length-append, add-zero}
use Rattle.std.specs.Prelude.{option_map}
use Rattle.std.specs.Option.{option_to_list}
use Rattle.std.proofs.Math.ListN.{set, length-set}
use Rattle.std.proofs.lemmas.List.{map-append, append-nil, set-append_left, set-set, get_or-set_same, get_or_append_left, set-get_or, length-map}
use Rattle.semantic_model.specs.Element.{Element}
use Rattle.semantic_model.specs.Class.{Class, PrivateUse}
use Rattle.class_table.specs.Lists.{ClassLists, with_class, with_use, elements_in}
use Rattle.class_table.specs.Told.{parents_from, with_more_uses, lists_with, FitCurrent}

parents_append : (n : ℕ) (cs ds : List Class) → parents_from n (cs ++ ds) ≡ parents_from n cs ++ parents_from (n + length cs) ds
parents_append n [] ds = ap (λ m. parents_from m ds) (sym (add-zero n))
parents_append n (c ∷ cs) ds =
    let here : List (ℕ × ℕ) = option_to_list (option_map (λ p. (n, p)) c.parent) in
    let place : n + 1 + length cs ≡ n + length (c ∷ cs) = omega arith in
    ap (λ es. here ++ es) (parents_append (n + 1) cs ds ∙ ap (λ m. parents_from (n + 1) cs ++ parents_from m ds) place)
    ∙ sym (append_assoc here (parents_from (n + 1) cs) (parents_from (n + length (c ∷ cs)) ds))

twice : (uses : List (List PrivateUse)) (c : ℕ) (us us' : List PrivateUse) (more : List (List PrivateUse)) → c < length uses
    → set (set uses c (get_or uses c [] ++ us) ++ more) c (get_or (set uses c (get_or uses c [] ++ us) ++ more) c [] ++ us') ≡ set uses c (get_or uses c [] ++ (us ++ us')) ++ more
twice uses c us us' more within =
    let first = set uses c (get_or uses c [] ++ us) in
    let there : c < length first = rw length-set within in
    let read : get_or (first ++ more) c [] ≡ get_or uses c [] ++ us = get_or_append_left first more [] c there ∙ get_or-set_same uses c (get_or uses c [] ++ us) [] within in
    set-append_left first more c (get_or (first ++ more) c [] ++ us') there
    ∙ ap (λ l. l ++ more) (set-set uses c (get_or uses c [] ++ us) (get_or (first ++ more) c [] ++ us')
    ∙ ap (set uses c) (ap (λ l. l ++ us') read ∙ append_assoc (get_or uses c []) us us'))

uses_append : (current : Option ℕ) (uses : List (List PrivateUse)) (us us' : List PrivateUse) (more : List (List PrivateUse)) → IfSome current (λ c. c < length uses)
    → with_more_uses current us' (with_more_uses current us uses ++ more) ≡ with_more_uses current (us ++ us') uses ++ more
uses_append None uses us us' more within = refl
uses_append (Some c) uses us us' more within = twice uses c us us' more within

within_uses : (lists : ClassLists) (current : Option ℕ) → FitCurrent lists current → IfSome current (λ c. c < length lists.uses)
within_uses lists None fits = tt
within_uses lists (Some c) fits = let there = fits.there in let same = fits.with_uses in omega arith

abbrev lists4 : List (ℕ × ℕ) → List ℕ → List (List Element) → List (List PrivateUse) → ClassLists
lists4 ps ns es us = record { parents = ps; nodes = ns; elements = es; uses = us }

pub same_lists : (ps ps' : List (ℕ × ℕ)) (ns ns' : List ℕ) (es es' : List (List Element)) (us us' : List (List PrivateUse)) → ps ≡ ps' → ns ≡ ns' → es ≡ es' → us ≡ us' → lists4 ps ns es us ≡ lists4 ps' ns' es' us'
same_lists ps ps' ns ns' es es' us us' p n e u = cc

appended : {A B : Type 0} (f : A → B) (l : List B) (xs ys : List A) → (l ++ map f xs) ++ map f ys ≡ l ++ map f (xs ++ ys)
appended f l xs ys = append_assoc l (map f xs) (map f ys) ∙ ap (λ m. l ++ m) (sym (map-append f xs ys))

pub told_twice : (lists : ClassLists) (current : Option ℕ) (us us' : List PrivateUse) (cs cs' : List Class) → FitCurrent lists current
    → lists_with (lists_with lists current us cs) current us' cs' ≡ lists_with lists current (us ++ us') (cs ++ cs')
told_twice lists current us us' cs cs' fits =
    let n = length lists.nodes in
    let more : length (lists.nodes ++ map (λ c. c.node) cs) ≡ n + length cs = length-append lists.nodes (map (λ c. c.node) cs) ∙ ap (λ m. n + m) (length-map cs (λ c. c.node)) in
    same_lists _ _ _ _ _ _ _ _
    (append_assoc lists.parents (parents_from n cs) (parents_from (length (lists.nodes ++ map (λ c. c.node) cs)) cs')
    ∙ ap (λ es. lists.parents ++ es) (ap (λ m. parents_from n cs ++ parents_from m cs') more ∙ sym (parents_append n cs cs')))
    (appended (λ c. c.node) lists.nodes cs cs')
    (appended (λ c. c.elements) lists.elements cs cs')
    (ap (λ l. l ++ map (λ c. c.uses) cs') (uses_append current lists.uses us us' (map (λ c. c.uses) cs) (within_uses lists current fits))
    ∙ appended (λ c. c.uses) (with_more_uses current (us ++ us') lists.uses) cs cs')

nothing_more : (current : Option ℕ) (uses : List (List PrivateUse)) → with_more_uses current [] uses ≡ uses
nothing_more None uses = refl
nothing_more (Some c) uses = ap (set uses c) (append-nil (get_or uses c [])) ∙ set-get_or uses c []

pub told_nothing : (lists : ClassLists) (current : Option ℕ) → lists_with lists current [] [] ≡ lists
told_nothing lists current =
    same_lists _ _ _ _ _ _ _ _
    (append-nil lists.parents) (append-nil lists.nodes) (append-nil lists.elements) (append-nil (with_more_uses current [] lists.uses) ∙ nothing_more current lists.uses)

pub told_unused : (lists : ClassLists) (us : List PrivateUse) → lists_with lists None us [] ≡ lists
told_unused lists us =
    same_lists _ _ _ _ _ _ _ _ (append-nil lists.parents) (append-nil lists.nodes) (append-nil lists.elements) (append-nil lists.uses)

pub told_use : (lists : ClassLists) (c : ℕ) (u : PrivateUse) → lists_with lists (Some c) (u ∷ []) [] ≡ with_use lists c u
told_use lists c u =
    same_lists _ _ _ _ _ _ _ _ (append-nil lists.parents) (append-nil lists.nodes) (append-nil lists.elements) (append-nil (with_more_uses (Some c) (u ∷ []) lists.uses))

pub told_alike : (lists : ClassLists) (current : Option ℕ) (us us' : List PrivateUse) (cs cs' : List Class) → us ≡ us' → cs ≡ cs' → lists_with lists current us cs ≡ lists_with lists current us' cs'
told_alike lists current us us' cs cs' u c = ap (λ l. lists_with lists current l cs) u ∙ ap (lists_with lists current us') c

last_read : {A : Type 0} (xs : List A) (y d : A) → get_or (xs ++ y ∷ []) (length xs) d ≡ y
last_read [] y d = refl
last_read (x ∷ xs) y d = last_read xs y d

last_set : {A : Type 0} (xs : List A) (y z : A) → set (xs ++ y ∷ []) (length xs) z ≡ xs ++ z ∷ []
last_set [] y z = refl
last_set (x ∷ xs) y z = ap (λ l. x ∷ l) (last_set xs y z)

-- the elements of a class that was just declared
pub declared_elements : (lists : ClassLists) (current : Option ℕ) (node : ℕ) (es : List Element) → FitCurrent lists current → elements_in (with_class lists current node es) (length lists.nodes) ≡ es
declared_elements lists current node es fits = ap (λ n. get_or (lists.elements ++ es ∷ []) n []) (sym fits.with_elements) ∙ last_read lists.elements es []

pub declared_length : (lists : ClassLists) (current : Option ℕ) (node : ℕ) (es : List Element) → length (with_class lists current node es).nodes ≡ length lists.nodes + 1
declared_length lists current node es = length-append lists.nodes (node ∷ [])

-- a class that was just declared, with uses and classes inside it
pub told_class : (lists : ClassLists) (current : Option ℕ) (node : ℕ) (es : List Element) (us : List PrivateUse) (cs : List Class) → FitCurrent lists current
    → lists_with (with_class lists current node es) (Some (length lists.nodes)) us cs ≡ lists_with lists current [] (record { node = node; parent = current; elements = es; uses = us } ∷ cs)
told_class lists current node es us cs fits =
    let n = length lists.nodes in
    let here : List (ℕ × ℕ) = option_to_list (option_map (λ p. (n, p)) current) in
    let of_class = lists.uses ++ [] ∷ [] in
    let read : get_or of_class n [] ≡ [] = ap (λ m. get_or of_class m []) (sym fits.with_uses) ∙ last_read lists.uses [] [] in
    let put : set of_class n (get_or of_class n [] ++ us) ≡ lists.uses ++ us ∷ [] =
    ap (λ m. set of_class m (get_or of_class n [] ++ us)) (sym fits.with_uses) ∙ last_set lists.uses [] (get_or of_class n [] ++ us) ∙ ap (λ l. lists.uses ++ (l ++ us) ∷ []) read in
    same_lists _ _ _ _ _ _ _ _
    (append_assoc lists.parents here (parents_from (length (lists.nodes ++ node ∷ [])) cs)
    ∙ ap (λ m. lists.parents ++ (here ++ parents_from m cs)) (declared_length lists current node es))
    (append_assoc lists.nodes (node ∷ []) (map (λ c. c.node) cs))
    (append_assoc lists.elements (es ∷ []) (map (λ c. c.elements) cs))
    (ap (λ l. l ++ map (λ c. c.uses) cs) put ∙ append_assoc lists.uses (us ∷ []) (map (λ c. c.uses) cs) ∙ ap (λ l. l ++ us ∷ map (λ c. c.uses) cs) (sym (nothing_more current lists.uses)))
