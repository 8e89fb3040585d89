-- What each change of the lists leaves true.
use Rattle.std.proofs.Common.{◌≡◌, ℕ, ◌+◌, ◌-◌, ◌^◌, ◌<◌, ◌≤◌, List, [], ◌∷◌, ◌++◌, length, Option, None, Some, IfSome, option_map, refl, ◌∙◌, arith, length-append}
use Rattle.std.specs.List.{AllByRecursion}
use Rattle.std.specs.Option.{option_to_list}
use Rattle.std.proofs.Math.ListN.{length-set}
use Rattle.semantic_model.specs.Element.{Element}
use Rattle.semantic_model.specs.Class.{PrivateUse}
use Rattle.class_table.specs.Lists.{ClassLists, IsClassLists, IsInside, with_class, with_element, elements_in}
use Rattle.semantic_syntax.proofs.Every.{every-push, every-set, every-at, every-more}

-- a class has an id for each of its elements
abbrev Fits : List Element → Type 0
Fits es = length es ≤ 2 ^ 32 - 1

pub sound_with_element : (lists : ClassLists) (c : ℕ) (e : Element) → IsClassLists lists → length (elements_in lists c) < 2 ^ 32 - 1 → IsClassLists (with_element lists c e)
sound_with_element lists c e h room =
    let more = length-append (elements_in lists c) (e ∷ []) in record {
      inside = h.inside;
      with_elements = length-set lists.elements c (elements_in lists c ++ e ∷ []) ∙ h.with_elements;
      with_uses = h.with_uses;
      numbered = h.numbered;
      elements_numbered = every-set Fits (elements_in lists c ++ e ∷ []) lists.elements c h.elements_numbered (omega arith);
    }

inside_more : (n : ℕ) (e : ℕ × ℕ) → IsInside n e → IsInside (n + 1) e
inside_more n e h = (omega arith, h.1)

parents_more : (n : ℕ) (parent : Option ℕ) (entries : List (ℕ × ℕ)) → AllByRecursion (IsInside n) entries → IfSome parent (λ p. p < n)
    → AllByRecursion (IsInside (n + 1)) (entries ++ option_to_list (option_map (λ p. (n, p)) parent))
parents_more n None [] h within = tt
parents_more n None (e ∷ entries) h within = (inside_more n e h.0, parents_more n None entries h.1 within)
parents_more n (Some p) entries h within = every-push (IsInside (n + 1)) (n, p) entries (every-more (IsInside n) (IsInside (n + 1)) (inside_more n) entries h) (omega arith, within)

pub sound_with_class : (lists : ClassLists) (parent : Option ℕ) (node : ℕ) (es : List Element) → IsClassLists lists → length lists.nodes < 2 ^ 32 - 1 → length es ≤ 2 ^ 32 - 1 → IfSome parent (λ p. p < length lists.nodes)
    → IsClassLists (with_class lists parent node es)
sound_with_class lists parent node es h room fits within =
    let one = length-append lists.nodes (node ∷ []) in
    let two = length-append lists.elements (es ∷ []) in
    let three = length-append lists.uses ([] ∷ []) in record {
      inside = rw one (parents_more (length lists.nodes) parent lists.parents h.inside within);
      with_elements = omega (arith, h);
      with_uses = omega (arith, h);
      numbered = omega (arith, h);
      elements_numbered = every-push Fits es lists.elements h.elements_numbered fits;
    }

-- the same, of lists that are found to be those
pub sound_made : (lists : ClassLists) (parent : Option ℕ) (node : ℕ) (es : List Element) (parents : List (ℕ × ℕ)) (nodes : List ℕ) (elements : List (List Element)) (uses : List (List PrivateUse))
    → parents ≡ lists.parents ++ option_to_list (option_map (λ p. (length lists.nodes, p)) parent) → nodes ≡ lists.nodes ++ node ∷ [] → elements ≡ lists.elements ++ es ∷ [] → uses ≡ lists.uses ++ [] ∷ []
    → IsClassLists lists → length lists.nodes < 2 ^ 32 - 1 → length es ≤ 2 ^ 32 - 1 → IfSome parent (λ p. p < length lists.nodes)
    → IsClassLists (record { parents = parents; nodes = nodes; elements = elements; uses = uses })
sound_made lists parent node es parents nodes elements uses a b c d h room fits within = rw (a, b, c, d) (sound_with_class lists parent node es h room fits within)

pub made_is : (lists : ClassLists) (parent : Option ℕ) (node : ℕ) (es : List Element) (parents : List (ℕ × ℕ)) (nodes : List ℕ) (elements : List (List Element)) (uses : List (List PrivateUse))
    → parents ≡ lists.parents ++ option_to_list (option_map (λ p. (length lists.nodes, p)) parent) → nodes ≡ lists.nodes ++ node ∷ [] → elements ≡ lists.elements ++ es ∷ [] → uses ≡ lists.uses ++ [] ∷ []
    → (let made : ClassLists = record { parents = parents; nodes = nodes; elements = elements; uses = uses } in made ≡ with_class lists parent node es)
made_is lists parent node es parents nodes elements uses a b c d = rw (a, b, c, d) refl

-- each class has an id for each of its elements
pub elements_fit : (lists : ClassLists) (c : ℕ) → IsClassLists lists → c < length lists.nodes → length (elements_in lists c) ≤ 2 ^ 32 - 1
elements_fit lists c h within = let same = h.with_elements in every-at Fits [] lists.elements c h.elements_numbered (omega arith)

pub within_elements : (lists : ClassLists) (c : ℕ) → IsClassLists lists → c < length lists.nodes → c < length lists.elements
within_elements lists c h within = let same = h.with_elements in omega arith

pub within_uses : (lists : ClassLists) (c : ℕ) → IsClassLists lists → c < length lists.nodes → c < length lists.uses
within_uses lists c h within = let same = h.with_uses in omega arith
