-- The lists fit on, whatever is told more.
use Rattle.std.proofs.Common.{◌≡◌, ℕ, ◌+◌, ◌<◌, ◌≤◌, List, [], ◌∷◌, ◌++◌, true, false, cond, Option, None, Some, IfSome, length, map, refl, sym, ap, ◌∙◌, arith, length-append, zero, suc, add-zero, zero-add}
use Rattle.std.specs.Prelude.{option_map, slice_get, nat_eq}
use Rattle.std.specs.List.{AllByRecursion}
use Rattle.std.specs.Map.{lookup}
use Rattle.std.specs.Option.{option_and_then, option_to_list}
use Rattle.std.proofs.Math.ListN.{length-set}
use Rattle.std.proofs.lemmas.List.{get_or_append_left, length-map}
use Rattle.semantic_model.specs.Element.{Element}
use Rattle.semantic_model.specs.Class.{Class, PrivateUse}
use Rattle.class_table.specs.Lists.{ClassLists, with_class}
use Rattle.class_table.specs.Outward.{parent_class}
use Rattle.class_table.specs.Told.{parents_from, with_more_uses, lists_with, FitCurrent, current_elements}
use Rattle.semantic_syntax.proofs.Every.{every-append, every-more}

-- a class that stands inside another one is below n
abbrev Below : ℕ → ℕ × ℕ → Type 0
Below n e = e.0 < n

below_more : (n m : ℕ) (es : List (ℕ × ℕ)) → n ≤ m → AllByRecursion (Below n) es → AllByRecursion (Below m) es
below_more n m es le h = every-more (Below n) (Below m) (λ e lt. omega arith) es h

below_here : (n m : ℕ) (parent : Option ℕ) → n < m → AllByRecursion (Below m) (option_to_list (option_map (λ p. (n, p)) parent))
below_here n m None lt = tt
below_here n m (Some p) lt = (lt, tt)

below_from : (n m : ℕ) (cs : List Class) → n + length cs ≤ m → AllByRecursion (Below m) (parents_from n cs)
below_from n m [] le = tt
below_from n m (c ∷ cs) le = every-append (Below m) (option_to_list (option_map (λ p. (n, p)) c.parent)) (parents_from (n + 1) cs) (below_here n m c.parent (omega arith)) (below_from (n + 1) m cs (omega arith))

length_uses : (current : Option ℕ) (us : List PrivateUse) (uses : List (List PrivateUse)) → length (with_more_uses current us uses) ≡ length uses
length_uses None us uses = refl
length_uses (Some c) us uses = length-set uses c _

pub length_told : (lists : ClassLists) (current : Option ℕ) (us : List PrivateUse) (cs : List Class) → length (lists_with lists current us cs).nodes ≡ length lists.nodes + length cs
length_told lists current us cs = length-append lists.nodes (map (λ c. c.node) cs) ∙ ap (λ n. length lists.nodes + n) (length-map cs (λ c. c.node))

there_more : (n m : ℕ) (current : Option ℕ) → n ≤ m → IfSome current (λ c. c < n) → IfSome current (λ c. c < m)
there_more n m None le there = tt
there_more n m (Some c) le there = omega arith

pub fits_told : (lists : ClassLists) (current : Option ℕ) (us : List PrivateUse) (cs : List Class) → FitCurrent lists current → FitCurrent (lists_with lists current us cs) current
fits_told lists current us cs fits =
    let n = length lists.nodes in
    let nodes = length_told lists current us cs in
    let elements = length-append lists.elements (map (λ c. c.elements) cs) ∙ ap (λ m. length lists.elements + m) (length-map cs (λ c. c.elements)) in
    let uses = length-append (with_more_uses current us lists.uses) (map (λ c. c.uses) cs) ∙ ap (λ m. length (with_more_uses current us lists.uses) + m) (length-map cs (λ c. c.uses)) in
    let kept = length_uses current us lists.uses in
    let more : n ≤ n + length cs = omega arith in record {
      there = rw nodes (there_more n (n + length cs) current more fits.there);
      with_elements = elements ∙ ap (λ m. m + length cs) fits.with_elements ∙ sym nodes;
      with_uses = uses ∙ ap (λ m. m + length cs) (kept ∙ fits.with_uses) ∙ sym nodes;
      inside = rw nodes (every-append (Below (n + length cs)) lists.parents (parents_from n cs) (below_more n (n + length cs) lists.parents more fits.inside) (below_from n (n + length cs) cs (omega arith)));
    }

pub fits_class : (lists : ClassLists) (current : Option ℕ) (node : ℕ) (es : List Element) → FitCurrent lists current → FitCurrent (with_class lists current node es) (Some (length lists.nodes))
fits_class lists current node es fits =
    let n = length lists.nodes in
    let nodes : length (lists.nodes ++ node ∷ []) ≡ n + 1 = length-append lists.nodes (node ∷ []) in
    let one : n < n + 1 = omega arith in record {
      there = rw nodes one;
      with_elements = length-append lists.elements (es ∷ []) ∙ ap (λ m. m + 1) fits.with_elements ∙ sym nodes;
      with_uses = length-append lists.uses ([] ∷ []) ∙ ap (λ m. m + 1) fits.with_uses ∙ sym nodes;
      inside = rw nodes (every-append (Below (n + 1)) lists.parents (option_to_list (option_map (λ p. (n, p)) current)) (below_more n (n + 1) lists.parents (omega arith) fits.inside) (below_here n (n + 1) current one));
    }

pub elements_kept : (lists : ClassLists) (current : Option ℕ) (us : List PrivateUse) (cs : List Class) → FitCurrent lists current → current_elements (lists_with lists current us cs) current ≡ current_elements lists current
elements_kept lists None us cs fits = refl
elements_kept lists (Some c) us cs fits =
    let there = fits.there in
    let same = fits.with_elements in
    get_or_append_left lists.elements (map (λ c. c.elements) cs) [] c (omega arith)

-- no class before n
found_later : (n : ℕ) (es fs : List (ℕ × ℕ)) → AllByRecursion (Below n) es → lookup (nat_eq n) (es ++ fs) ≡ lookup (nat_eq n) fs
found_later n [] fs h = refl
found_later n (e ∷ es) fs h =
    let other : nat_eq n e.0 ≡ false = grind (arith, h.0) in
    ap (λ b. cond b (Some e.1) (lookup (nat_eq n) (es ++ fs))) other ∙ found_later n es fs h.1

-- no class behind n
found_none : (n m : ℕ) (cs : List Class) → n < m → lookup (nat_eq n) (parents_from m cs) ≡ None
found_none n m [] lt = refl
found_none n m (c ∷ cs) lt = by c.parent (found_none n (m + 1) cs (omega arith))
  where
    other : nat_eq n m ≡ false
    other = grind arith

    by : (parent : Option ℕ) → lookup (nat_eq n) (parents_from (m + 1) cs) ≡ None → lookup (nat_eq n) (option_to_list (option_map (λ p. (m, p)) parent) ++ parents_from (m + 1) cs) ≡ None
    by None later = later
    by (Some p) later = ap (λ b. cond b (Some p) (lookup (nat_eq n) (parents_from (m + 1) cs))) other ∙ later

-- the class around one that was just declared
pub around : (n : ℕ) (es : List (ℕ × ℕ)) (current : Option ℕ) (cs : List Class) → AllByRecursion (Below n) es
    → parent_class (es ++ (option_to_list (option_map (λ p. (n, p)) current) ++ parents_from (n + 1) cs)) n ≡ current
around n es current cs h = found_later n es _ h ∙ by current
  where
    same : nat_eq n n ≡ true
    same = grind arith

    by : (c : Option ℕ) → lookup (nat_eq n) (option_to_list (option_map (λ p. (n, p)) c) ++ parents_from (n + 1) cs) ≡ c
    by None = found_none n (n + 1) cs (omega arith)
    by (Some p) = ap (λ b. cond b (Some p) (lookup (nat_eq n) (parents_from (n + 1) cs))) same

-- a table tells the class around each class
told_from : (n i : ℕ) (cs : List Class) → parent_class (parents_from n cs) (n + i) ≡ option_and_then (λ c. c.parent) (slice_get cs i)
told_from n i [] = refl
told_from n zero (c ∷ cs) = ap (parent_class (parents_from n (c ∷ cs))) (add-zero n) ∙ around n [] c.parent cs tt
told_from n (suc i) (c ∷ cs) =
    let place : n + suc i ≡ n + 1 + i = omega arith in
    let later : n < n + suc i = omega arith in
    found_later (n + suc i) (option_to_list (option_map (λ p. (n, p)) c.parent)) (parents_from (n + 1) cs) (below_here n (n + suc i) c.parent later)
    ∙ ap (parent_class (parents_from (n + 1) cs)) place
    ∙ told_from (n + 1) i cs

pub told_parent : (cs : List Class) (c : ℕ) → parent_class (parents_from 0 cs) c ≡ option_and_then (λ k. k.parent) (slice_get cs c)
told_parent cs c = ap (parent_class (parents_from 0 cs)) (sym (zero-add c)) ∙ told_from 0 c cs
