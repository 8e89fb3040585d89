-- Classes that are told more leave those before them as they are.
use Rattle.std.proofs.Common.{◌≡◌, ℕ, ◌+◌, ◌<◌, ◌≤◌, List, [], ◌∷◌, ◌++◌, Bool, true, false, cond, Option, None, Some, IfSome, refl, sym, ap, subst, ◌∙◌, map, length, arith, add-zero, length-append}
use Rattle.std.specs.Prelude.{nat_eq, option_map}
use Rattle.std.specs.List.{AllByRecursion}
use Rattle.std.specs.Option.{option_to_list}
use Rattle.std.proofs.lemmas.List.{get_or_append_left}
use Rattle.semantic_kinds.specs.Kinds.{same_kind}
use Rattle.semantic_kinds.specs.declared.kind.AstType.TheVariants as kind
use Rattle.semantic_tree.specs.Forest.{Forest, nothing, tree}
use Rattle.semantic_model.specs.Element.{elements_of}
use Rattle.semantic_model.specs.Class.{Class, PrivateUse, uses_below, body_count, classes_below}
use Rattle.class_table.specs.Lists.{ClassLists, IsInside}
use Rattle.class_table.specs.Outward.{parent_class, StandBefore, classes_outward_from}
use Rattle.class_table.specs.Told.{parents_from, lists_with}
use Rattle.class_table.proofs.Parents.{stand_before}
use Rattle.semantic_syntax.proofs.Every.{every-append, every-more}
use Rattle.class_table.proofs.Entering.{outward_kept}
use Rattle.class_table.proofs.Fitting.{length_told}
use Rattle.check_model.specs.Context.{seen_class, classes_from}
use Rattle.check_walk.proofs.ClassSteps.{map_same, from_below}

-- ---- classes stand inside those before them

-- each class of a list, numbered from n on, stands inside one before it or inside none
abbrev pub StandInside : ℕ → List Class → Type 0
StandInside n [] = Unit {0}
StandInside n (c ∷ cs) = IfSome c.parent (λ p. p < n) × StandInside (n + 1) cs

inside-append : (n : ℕ) (cs ds : List Class) → StandInside n cs → StandInside (n + length cs) ds → StandInside n (cs ++ ds)
inside-append n [] ds h k = subst (λ m. StandInside m ds) (add-zero n) k
inside-append n (c ∷ cs) ds h k = let place : n + length (c ∷ cs) ≡ n + 1 + length cs = omega arith in (h.0, inside-append (n + 1) cs ds h.1 (subst (λ m. StandInside m ds) place k))

one : (is_body : Bool) (c : Class) → length (cond is_body (c ∷ []) []) ≡ cond is_body 1 0
one true c = refl
one false c = refl

below_more : (n m : ℕ) (around : Option ℕ) → n ≤ m → IfSome around (λ p. p < n) → IfSome around (λ p. p < m)
below_more n m None le h = tt
below_more n m (Some p) le h = omega arith

-- the class of a body
abbrev class_with : ℕ → Option ℕ → Forest → Class
class_with node parent below = record { node = node; parent = parent; elements = elements_of below; uses = uses_below (elements_of below) kind.ClassBody below }

-- the classes below a node are as many as there are bodies
counted : (f : Forest) (n : ℕ) (around : Option ℕ) (node : ℕ) → length (classes_below n around node f) ≡ body_count f
counted nothing n around node = refl
counted (tree r k span text marks below id after) n around node =
    let b : Bool = same_kind k kind.ClassBody in
    let first : List Class = cond b (class_with node around below ∷ []) [] in
    let inner : List Class = classes_below (n + cond b 1 0) (cond b (Some n) around) id below in
    let later : List Class = classes_below (n + cond b 1 0 + body_count below) around node after in
    let whole = length-append first (inner ++ later) in
    let rest = length-append inner later in
    let head = one b (class_with node around below) in
    let a = counted below (n + cond b 1 0) (cond b (Some n) around) id in
    let c = counted after (n + cond b 1 0 + body_count below) around node in
    omega arith

abbrev Counts : Forest → Type 0
Counts f = (n : ℕ) (around : Option ℕ) (node : ℕ) → length (classes_below n around node f) ≡ body_count f

abbrev Stands : Forest → Type 0
Stands f = (n : ℕ) (around : Option ℕ) (node : ℕ) → IfSome around (λ p. p < n) → StandInside n (classes_below n around node f)

-- and stand inside the one around it, or inside one another
pub stand_inside : (f : Forest) (n : ℕ) (around : Option ℕ) (node : ℕ) → IfSome around (λ p. p < n) → StandInside n (classes_below n around node f)
stand_inside nothing n around node h = tt
stand_inside (tree r k span text marks below id after) n around node h =
    by (same_kind k kind.ClassBody) (counted below) (stand_inside below) (stand_inside after)
  where
    by : (b : Bool) → Counts below → Stands below → Stands after
        → StandInside n (cond b (class_with node around below ∷ []) [] ++ (classes_below (n + cond b 1 0) (cond b (Some n) around) id below ++ classes_below (n + cond b 1 0 + body_count below) around node after))
    by true count inner later =
        let cs : List Class = classes_below (n + 1) (Some n) id below in
        let next : n + 1 + length cs ≡ n + 1 + body_count below = ap (λ m. n + 1 + m) (count (n + 1) (Some n) id) in
        let more : n ≤ n + 1 + body_count below = omega arith in
        let own : n < n + 1 = omega arith in (
          h,
          inside-append (n + 1) cs (classes_below (n + 1 + body_count below) around node after) (inner (n + 1) (Some n) id own)
              (subst (λ m. StandInside m (classes_below (n + 1 + body_count below) around node after)) (sym next) (later (n + 1 + body_count below) around node (below_more n (n + 1 + body_count below) around more h))),
        )
    by false count inner later =
        let cs : List Class = classes_below (n + 0) around id below in
        let same : n + 0 ≡ n = add-zero n in
        let next : n + length cs ≡ n + 0 + body_count below = omega (arith, count (n + 0) around id) in
        let more : n ≤ n + 0 + body_count below = omega arith in
        inside-append n cs (classes_below (n + 0 + body_count below) around node after) (subst (λ m. StandInside m cs) same (inner (n + 0) around id (below_more n (n + 0) around (omega arith) h)))
        (subst (λ m. StandInside m (classes_below (n + 0 + body_count below) around node after)) (sym next) (later (n + 0 + body_count below) around node (below_more n (n + 0 + body_count below) around more h)))

entry_inside : (n m : ℕ) (parent : Option ℕ) → n < m → IfSome parent (λ p. p < n) → AllByRecursion (IsInside m) (option_to_list (option_map (λ p. (n, p)) parent))
entry_inside n m None l h = tt
entry_inside n m (Some p) l h = ((l, h), tt)

entries_inside : (n m : ℕ) (cs : List Class) → n + length cs ≤ m → StandInside n cs → AllByRecursion (IsInside m) (parents_from n cs)
entries_inside n m [] l h = tt
entries_inside n m (c ∷ cs) l h =
    every-append (IsInside m) (option_to_list (option_map (λ p. (n, p)) c.parent)) (parents_from (n + 1) cs) (entry_inside n m c.parent (omega arith) h.0) (entries_inside (n + 1) m cs (omega arith) h.1)

inside_more : (n m : ℕ) (es : List (ℕ × ℕ)) → n ≤ m → AllByRecursion (IsInside n) es → AllByRecursion (IsInside m) es
inside_more n m es le h = every-more (IsInside n) (IsInside m) (λ e i. (omega (arith, i.0), i.1)) es h

-- lists with more classes
pub told_inside : (lists : ClassLists) (current : Option ℕ) (us : List PrivateUse) (cs : List Class) → AllByRecursion (IsInside (length lists.nodes)) lists.parents → StandInside (length lists.nodes) cs
    → AllByRecursion (IsInside (length (lists_with lists current us cs).nodes)) (lists_with lists current us cs).parents
told_inside lists current us cs h k =
    let n : ℕ = length lists.nodes in
    subst (λ m. AllByRecursion (IsInside m) (lists.parents ++ parents_from n cs)) (sym (length_told lists current us cs))
    (every-append (IsInside (n + length cs)) lists.parents (parents_from n cs) (inside_more n (n + length cs) lists.parents (omega arith) h) (entries_inside n (n + length cs) cs (omega arith) k))

-- lists with one class more
pub class_inside : (ps : List (ℕ × ℕ)) (n : ℕ) (parent : Option ℕ) → AllByRecursion (IsInside n) ps → IfSome parent (λ p. p < n) → AllByRecursion (IsInside (n + 1)) (ps ++ option_to_list (option_map (λ p. (n, p)) parent))
class_inside ps n parent h k = every-append (IsInside (n + 1)) ps (option_to_list (option_map (λ p. (n, p)) parent)) (inside_more n (n + 1) ps (omega arith) h) (entry_inside n (n + 1) parent (omega arith) k)

-- ---- those before them stay

-- no class before those of a list
none_before : (c m : ℕ) (cs : List Class) → c < m → parent_class (parents_from m cs) c ≡ None
none_before c m [] l = refl
none_before c m (k ∷ cs) l = by k.parent (none_before c (m + 1) cs (omega arith))
  where
    other : nat_eq c m ≡ false
    other = grind arith

    by : (parent : Option ℕ) → parent_class (parents_from (m + 1) cs) c ≡ None → parent_class (option_to_list (option_map (λ p. (m, p)) parent) ++ parents_from (m + 1) cs) c ≡ None
    by None later = later
    by (Some p) later = ap (λ b. cond b (Some p) (parent_class (parents_from (m + 1) cs) c)) other ∙ later

-- a class that is there, and those around it, whatever is told more
pub classes_kept : (lists : ClassLists) (current : Option ℕ) (us : List PrivateUse) (cs : List Class) → AllByRecursion (IsInside (length lists.nodes)) lists.parents → length lists.elements ≡ length lists.nodes
    → IfSome current (λ c. c < length lists.nodes) → classes_from (lists_with lists current us cs) current ≡ classes_from lists current
classes_kept lists current us cs inside same h =
    let n : ℕ = length lists.nodes in
    let more : ClassLists = lists_with lists current us cs in
    let before : StandBefore lists.parents = stand_before n lists.parents inside in
    ap (map (seen_class more)) (outward_kept n (parents_from n cs) (λ c l. none_before c n cs l) lists.parents current before h)
    ∙ map_same (λ c. c < n) (seen_class more) (seen_class lists) (classes_outward_from lists.parents current) (from_below lists.parents n current before h)
    (λ c l. λ i. record { node = get_or_append_left lists.nodes (map (λ k. k.node) cs) 0 c l i; elements = get_or_append_left lists.elements (map (λ k. k.elements) cs) [] c (omega (arith, l, same)) i })
