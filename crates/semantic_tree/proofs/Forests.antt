-- Lemmas on forests.
use Rattle.std.proofs.Common.{◌≡◌, ℕ, ◌+◌, ◌<◌, ◌≤◌, List, [], ◌∷◌, ◌++◌, length, take, drop, get_or, refl, ap, sym, arith, add-zero}
use Rattle.std.proofs.Math.ListN.{set, drop_of_length-le}
use Rattle.std.proofs.lemmas.List.{take_more_set, drop-set-lt, take_all}
use Rattle.semantic_tree.specs.Forest.{Forest, nothing, tree, count, join, numbered}
use Rattle.semantic_tree.specs.Children.{forest_of, single, node_count, numbered_node}
use Rattle.semantic_tree.specs.Nodes.{trees}
use Rattle.semantic_tree.specs.Falls.{child_is_smaller}
use Rattle.semantic_syntax.specs.declared.spans.Span.{Span}
use Rattle.semantic_syntax.proofs.Truth.{drop_here}
use Rattle.semantic_kinds.specs.declared.kind.AstType.{AstType}
use Rattle.semantic_kinds.specs.declared.marks.Marks.{Marks}
use Rattle.semantic_kinds.specs.declared.role.Role.{Role}
use Rattle.semantic_tree.specs.declared.node.Node.{Node}

-- trees that are equal are equal in their parts
pub below_same : {role : Role} {kind : AstType} {span : Span} {text : List ℕ} {marks : Marks} {b b' : Forest} {n n' : ℕ} {a a' : Forest} → tree role kind span text marks b n a ≡ tree role kind span text marks b' n' a' → (b ≡ b') × (n ≡ n') × (a ≡ a')
below_same h = (cc, cc, cc)

pub forest_of-append : (xs ys : List (Role × Node)) → forest_of (xs ++ ys) ≡ join (forest_of xs) (forest_of ys)
forest_of-append [] ys = refl
forest_of-append (x ∷ xs) ys = rw (forest_of-append xs ys) refl

pub count-join : (f g : Forest) → count (join f g) ≡ count f + count g
count-join nothing g = omega arith
count-join (tree role kind span text marks below id after) g = omega (arith, count-join after g)

pub count-numbered : (n : ℕ) (f : Forest) → count (numbered n f) ≡ count f
count-numbered n nothing = refl
count-numbered n (tree role kind span text marks below id after) =
    omega (arith, count-numbered (n + 1) below, count-numbered (n + 1 + count below) after)

pub numbered-join : (n : ℕ) (f g : Forest) → numbered n (join f g) ≡ join (numbered n f) (numbered (n + count f) g)
numbered-join n nothing g = ap (λ m. numbered m g) (sym (add-zero n))
numbered-join n (tree role kind span text marks below id after) g =
    let rest = numbered-join (n + 1 + count below) after g in
    let same : n + 1 + count below + count after ≡ n + (count below + count after + 1) = omega arith in
    ap (λ f. tree role kind span text marks (numbered (n + 1) below) n f) (rw same at rest)

pub join_assoc : (f g h : Forest) → join (join f g) h ≡ join f (join g h)
join_assoc nothing g h = refl
join_assoc (tree role kind span text marks below id after) g h =
    ap (λ f. tree role kind span text marks below id f) (join_assoc after g h)

pub join_nothing : (f : Forest) → join f nothing ≡ f
join_nothing nothing = refl
join_nothing (tree role kind span text marks below id after) =
    ap (λ f. tree role kind span text marks below id f) (join_nothing after)

-- a child in its place gets its numbers, and the rest begins after them
pub number_turn : (items : List (Role × Node)) (i next : ℕ) (role : Role) (node : Node) → i < length items → (role, node) ≡ get_or items i (role, node) → join (forest_of (take (i + 1) (set items i (role, numbered_node next node)))) (numbered (next + node_count node) (forest_of (drop (i + 1) (set items i (role, numbered_node next node))))) ≡ join (forest_of (take i items)) (numbered next (forest_of (drop i items)))
number_turn items i next role node h e =
    let done : Role × Node = (role, numbered_node next node) in
    let so_far : take (i + 1) (set items i done) ≡ take i items ++ done ∷ [] = take_more_set items i done h in
    let left : drop (i + 1) (set items i done) ≡ drop (i + 1) items = drop-set-lt (i + 1) items i done (omega arith) in
    let here : drop i items ≡ (role, node) ∷ drop (i + 1) items = drop_here items i (role, node) h e in
    let numbers : next + node_count node ≡ next + 1 + count node.children = omega arith in
    rw (so_far, left, here, numbers, forest_of-append (take i items) (done ∷ [])) (join_assoc (forest_of (take i items)) (forest_of (done ∷ [])) (numbered (next + 1 + count node.children) (forest_of (drop (i + 1) items))))

-- what is left counts the child in its place
pub count_turn : (items : List (Role × Node)) (i : ℕ) (role : Role) (node : Node) → i < length items → (role, node) ≡ get_or items i (role, node) → count (forest_of (drop i items)) ≡ node_count node + count (forest_of (drop (i + 1) items))
count_turn items i role node h e = rw (drop_here items i (role, node) h e) (omega arith)

-- at the end all trees have their numbers
pub number_end : (items : List (Role × Node)) (n next : ℕ) → length items ≤ n → join (forest_of (take n items)) (numbered next (forest_of (drop n items))) ≡ forest_of items
number_end items n next h = rw (take_all n items h, drop_of_length-le items h) (join_nothing (forest_of items))

-- a list of nodes is what its forest shows
pub trees-forest_of : (xs : List (Role × Node)) → trees (forest_of xs) ≡ xs
trees-forest_of [] = refl
trees-forest_of (x ∷ xs) = ap (λ rest. x ∷ rest) (trees-forest_of xs)

pub ruleset forests = (forest_of-append)

pub ruleset shown = (trees-forest_of)

-- numbers that are given again stay as they are
pub numbered_twice : (n m : ℕ) (f : Forest) → numbered n (numbered m f) ≡ numbered n f
numbered_twice n m nothing = refl
numbered_twice n m (tree role kind span text marks below id after) =
    rw (count-numbered (m + 1) below, numbered_twice (n + 1) (m + 1) below, numbered_twice (n + 1 + count below) (m + 1 + count below) after) refl

-- a child that is pushed stands before those that are left
pub join_turn : (done : Forest) (items : List (Role × Node)) (i : ℕ) (child : Role × Node) → i < length items → child ≡ get_or items i child → join (join done (single child.0 child.1)) (forest_of (drop (i + 1) items)) ≡ join done (forest_of (drop i items))
join_turn done items i child h e =
    rw (drop_here items i child h e) (join_assoc done (single child.0 child.1) (forest_of (drop (i + 1) items)))

-- at the end nothing is left
pub join_end : (done : Forest) (items : List (Role × Node)) (i : ℕ) → length items ≤ i → join done (forest_of (drop i items)) ≡ done
join_end done items i h = rw (drop_of_length-le items h) (join_nothing done)

-- a child has fewer nodes below it than its parent
pub smaller_child : (items : List (Role × Node)) (i : ℕ) (child : Role × Node) (below : Forest) → i < length items → child ≡ get_or items i child → forest_of items ≡ below → count child.1.children < count below
smaller_child items i child below h e all =
    let smaller = child_is_smaller items i child h in
    omega (arith, smaller, ap (λ x. count x.1.children) e, ap count all)
