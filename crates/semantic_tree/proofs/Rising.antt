-- Names whose ids rise.
use Rattle.std.proofs.Common.{◌≡◌, ℕ, ◌+◌, ◌<◌, ◌≤◌, nat_le, List, [], ◌∷◌, ◌++◌, true, false, if◌then◌else◌, Option, Some, None, length, drop, get_or, refl, ap, sym, ◌∙◌, arith}
use Rattle.std.proofs.lemmas.Bool.Decides.{nat_tests}
use Rattle.semantic_syntax.proofs.Truth.{drop_here}
use Rattle.semantic_kinds.specs.declared.kind.AstType.{AstType}
use Rattle.semantic_kinds.specs.declared.role.Role.{Role}
use Rattle.semantic_tree.specs.Children.{forest_of}
use Rattle.semantic_tree.specs.Nodes.{first_of}
use Rattle.semantic_tree.specs.BoundNames.{binds_by, bound_below, bound_names, given_names, rising}
use Rattle.semantic_tree.specs.declared.node.Node.{Node}

nothing_found : (x : Node) → ◌≡◌ {A = Option Node} (Some x) None → ⊥
nothing_found x h = cc

same_found : (x y : Node) → ◌≡◌ {A = Option Node} (Some x) (Some y) → x ≡ y
same_found x y h = cc

-- where nothing is found in a list, the next one is asked
pub rising_passes : (from : ℕ) (xs ys : List Node) → first_of (rising from xs) ≡ None → rising from (xs ++ ys) ≡ rising from ys
rising_passes from [] ys h = refl
rising_passes from (x ∷ xs) ys h =
    elim (nat_le from x.node_id) as (λ b. first_of (if b then x ∷ rising (x.node_id + 1) xs else rising from xs) ≡ None → (if b then x ∷ rising (x.node_id + 1) (xs ++ ys) else rising from (xs ++ ys)) ≡ rising from ys) [
      | true ↦ λ found. absurd (nothing_found x found)
      | false ↦ λ none. rising_passes from xs ys none
    ] h

-- what is found in a list is found first
pub rising_finds : (from : ℕ) (xs ys : List Node) (x : Node) → first_of (rising from xs) ≡ Some x → first_of (rising from (xs ++ ys)) ≡ Some x
rising_finds from [] ys x h = absurd (nothing_found x (sym h))
rising_finds from (y ∷ xs) ys x h =
    elim (nat_le from y.node_id) as (λ b. first_of (if b then y ∷ rising (y.node_id + 1) xs else rising from xs) ≡ Some x → first_of (if b then y ∷ rising (y.node_id + 1) (xs ++ ys) else rising from (xs ++ ys)) ≡ Some x) [
      | true ↦ λ found. found
      | false ↦ λ later. rising_finds from xs ys x later
    ] h

-- a name that is found has at least the number
at_least : (from : ℕ) (xs : List Node) (x : Node) → first_of (rising from xs) ≡ Some x → from ≤ x.node_id
at_least from [] x h = absurd (nothing_found x (sym h))
at_least from (y ∷ xs) x h =
    elim (nat_le from y.node_id) as (λ b. nat_le from y.node_id ≡ b → first_of (if b then y ∷ rising (y.node_id + 1) xs else rising from xs) ≡ Some x → from ≤ x.node_id) [
      | true ↦ λ is found. let same : y.node_id ≡ x.node_id = ap (λ n. n.node_id) (same_found y x found) in let test : nat_le from y.node_id ≡ true = is in grind (arith, nat_tests)
      | false ↦ λ is later. at_least from xs x later
    ] refl h

skip : (from : ℕ) (y : Node) (xs : List Node) → y.node_id < from → rising from (y ∷ xs) ≡ rising from xs
skip from y xs h = let test : nat_le from y.node_id ≡ false = grind (arith, nat_tests) in ap (λ b. if b then y ∷ rising (y.node_id + 1) xs else rising from xs) test

-- after a name come those with greater ids
pub rising_goes_on : (from : ℕ) (xs : List Node) (x : Node) → first_of (rising from xs) ≡ Some x → rising from xs ≡ x ∷ rising (x.node_id + 1) xs
rising_goes_on from [] x h = absurd (nothing_found x (sym h))
rising_goes_on from (y ∷ xs) x h =
    elim (nat_le from y.node_id) as (λ b. nat_le from y.node_id ≡ b → first_of (if b then y ∷ rising (y.node_id + 1) xs else rising from xs) ≡ Some x → (if b then y ∷ rising (y.node_id + 1) xs else rising from xs) ≡ x ∷ rising (x.node_id + 1) (y ∷ xs)) [
      | true ↦ λ is found.
          let same : y ≡ x = same_found y x found in
          let passed : rising (y.node_id + 1) (y ∷ xs) ≡ rising (y.node_id + 1) xs = skip (y.node_id + 1) y xs (omega arith) in
          ap (λ rest. y ∷ rest) (sym passed) ∙ ap (λ n. n ∷ rising (n.node_id + 1) (y ∷ xs)) same
      | false ↦ λ is later.
          let below : y.node_id < from = grind (arith, nat_tests) in
          let least : from ≤ x.node_id = at_least from xs x later in
          let passed : rising (x.node_id + 1) (y ∷ xs) ≡ rising (x.node_id + 1) xs = skip (x.node_id + 1) y xs (omega arith) in
          rising_goes_on from xs x later ∙ ap (λ rest. x ∷ rest) (sym passed)
    ] refl h

-- the names from a child on are its names, and those after it
names_turn : (parent : AstType) (items : List (Role × Node)) (i : ℕ) (child : Role × Node) → i < length items → child ≡ get_or items i child → bound_below parent (forest_of (drop i items)) ≡ given_names parent child.0 child.1 ++ bound_below parent (forest_of (drop (i + 1) items))
names_turn parent items i child h e = ap (λ xs. bound_below parent (forest_of xs)) (drop_here items i child h e)

-- a name of a child is found
pub found_in_child : (from : ℕ) (parent : AstType) (items : List (Role × Node)) (i : ℕ) (child : Role × Node) (x : Node) → i < length items → child ≡ get_or items i child → binds_by parent child.0 ≡ true → first_of (rising from (bound_names child.1)) ≡ Some x → first_of (rising from (bound_below parent (forest_of (drop i items)))) ≡ Some x
found_in_child from parent items i child x h e binds found =
    ap (λ xs. first_of (rising from xs)) (names_turn parent items i child h e ∙ ap (λ b. (if b then bound_names child.1 else []) ++ bound_below parent (forest_of (drop (i + 1) items))) binds)
    ∙ rising_finds from (bound_names child.1) (bound_below parent (forest_of (drop (i + 1) items))) x found

-- a child in which nothing is found is passed
pub child_without : (from : ℕ) (parent : AstType) (items : List (Role × Node)) (i : ℕ) (child : Role × Node) → i < length items → child ≡ get_or items i child → binds_by parent child.0 ≡ true → first_of (rising from (bound_names child.1)) ≡ None → rising from (bound_below parent (forest_of (drop i items))) ≡ rising from (bound_below parent (forest_of (drop (i + 1) items)))
child_without from parent items i child h e binds none =
    ap (rising from) (names_turn parent items i child h e ∙ ap (λ b. (if b then bound_names child.1 else []) ++ bound_below parent (forest_of (drop (i + 1) items))) binds)
    ∙ rising_passes from (bound_names child.1) (bound_below parent (forest_of (drop (i + 1) items))) none

-- a child that gives no names is passed
pub child_apart : (from : ℕ) (parent : AstType) (items : List (Role × Node)) (i : ℕ) (child : Role × Node) → i < length items → child ≡ get_or items i child → binds_by parent child.0 ≡ false → rising from (bound_below parent (forest_of (drop i items))) ≡ rising from (bound_below parent (forest_of (drop (i + 1) items)))
child_apart from parent items i child h e apart =
    ap (rising from) (names_turn parent items i child h e ∙ ap (λ b. (if b then bound_names child.1 else []) ++ bound_below parent (forest_of (drop (i + 1) items))) apart)

-- the name found in the first child is the first of all, and after it come those with greater ids
pub found_first : (from : ℕ) (parent : AstType) (items rest : List (Role × Node)) (child : Role × Node) (x : Node) → items ≡ child ∷ rest → first_of (rising from (given_names parent child.0 child.1)) ≡ Some x → rising from (bound_below parent (forest_of items)) ≡ x ∷ rising (x.node_id + 1) (bound_below parent (forest_of items))
found_first from parent items rest child x e found =
    rising_goes_on from (bound_below parent (forest_of items)) x
    (ap (λ xs. first_of (rising from (bound_below parent (forest_of xs)))) e ∙ rising_finds from (given_names parent child.0 child.1) (bound_below parent (forest_of rest)) x found)

-- a first child in which nothing is found is passed
pub passed_first : (from : ℕ) (parent : AstType) (items rest : List (Role × Node)) (child : Role × Node) → items ≡ child ∷ rest → first_of (rising from (given_names parent child.0 child.1)) ≡ None → rising from (bound_below parent (forest_of items)) ≡ rising from (bound_below parent (forest_of rest))
passed_first from parent items rest child e none =
    ap (λ xs. rising from (bound_below parent (forest_of xs))) e ∙ rising_passes from (given_names parent child.0 child.1) (bound_below parent (forest_of rest)) none
