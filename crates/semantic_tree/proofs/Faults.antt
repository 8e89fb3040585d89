-- The first fault among nodes in a row.
use Rattle.std.proofs.Common.{◌≡◌, ℕ, ◌+◌, ◌<◌, List, [], ◌∷◌, ◌++◌, Bool, true, false, if◌then◌else◌, ◌||◌, Option, Some, None, option_map, length, drop, get_or, refl, ap, sym, ◌∙◌}
use Rattle.semantic_syntax.proofs.Truth.{drop_here}
use Rattle.semantic_kinds.specs.declared.kind.AstType.{AstType}
use Rattle.semantic_kinds.specs.declared.role.Role.{Role}
use Rattle.semantic_tree.specs.Children.{forest_of}
use Rattle.semantic_tree.specs.Place.{child_place, placed_below, placed_from, all_placed}
use Rattle.semantic_tree.specs.Faults.{first_where, is_too_deep, is_misshapen, has_bad_span, first_bad_comment, form_fault}
use Rattle.semantic_tree.specs.Checks.{has_fault}
use Rattle.semantic_tree.specs.declared.comment.Comment.{Comment}
use Rattle.semantic_tree.specs.declared.error.TreeError.TheVariants.{Span}
use Rattle.semantic_tree.specs.declared.error.SpanFault.TheVariants as span
use Rattle.semantic_tree.specs.declared.node.Node.{Node}
use Rattle.semantic_tree.specs.declared.place.Place.{Place}

abbrev pub or_else : Option ℕ → Option ℕ → Option ℕ
or_else None second = second
or_else (Some id) second = Some id

first_or : (b : Bool) (id : ℕ) (all first second : Option ℕ) → all ≡ or_else first second → (if b then Some id else all) ≡ or_else (if b then Some id else first) second
first_or true id all first second e = refl
first_or false id all first second e = e

pub first_where-append : (test : Place → Node → Bool) (xs ys : List (Place × Node)) → first_where test (xs ++ ys) ≡ or_else (first_where test xs) (first_where test ys)
first_where-append test [] ys = refl
first_where-append test (x ∷ xs) ys =
    first_or (test x.0 x.1) x.1.node_id (first_where test (xs ++ ys)) (first_where test xs) (first_where test ys) (first_where-append test xs ys)

-- what is found from a child on is found in it or after it
child_turn : (test : Place → Node → Bool) (place : Place) (kind : AstType) (items : List (Role × Node)) (i : ℕ) (child : Role × Node) → i < length items → child ≡ get_or items i child → first_where test (placed_below place kind (forest_of (drop i items))) ≡ or_else (first_where test (placed_from (child_place place kind child.0) child.1)) (first_where test (placed_below place kind (forest_of (drop (i + 1) items))))
child_turn test place kind items i child h e =
    ap (λ xs. first_where test (placed_below place kind (forest_of xs))) (drop_here items i child h e)
    ∙ first_where-append test (placed_from (child_place place kind child.0) child.1) (placed_below place kind (forest_of (drop (i + 1) items)))

-- where a child is sound, what is found is found after it
pub child_passes : (test : Place → Node → Bool) (place : Place) (kind : AstType) (items : List (Role × Node)) (i : ℕ) (child : Role × Node) → i < length items → child ≡ get_or items i child → first_where test (placed_from (child_place place kind child.0) child.1) ≡ None → first_where test (placed_below place kind (forest_of (drop (i + 1) items))) ≡ first_where test (placed_below place kind (forest_of (drop i items)))
child_passes test place kind items i child h e none =
    sym (child_turn test place kind items i child h e ∙ ap (λ o. or_else o (first_where test (placed_below place kind (forest_of (drop (i + 1) items))))) none)

-- where something is found in a child, that is what is found
pub child_fails : (test : Place → Node → Bool) (place : Place) (kind : AstType) (items : List (Role × Node)) (i : ℕ) (child : Role × Node) (id : ℕ) → i < length items → child ≡ get_or items i child → first_where test (placed_from (child_place place kind child.0) child.1) ≡ Some id → first_where test (placed_below place kind (forest_of (drop i items))) ≡ Some id
child_fails test place kind items i child id h e some =
    child_turn test place kind items i child h e ∙ ap (λ o. or_else o (first_where test (placed_below place kind (forest_of (drop (i + 1) items))))) some

none_of : (a b c : Bool) (id : ℕ) (rest : Option ℕ) → (if a || b || c then Some id else rest) ≡ None → (a ≡ false) × (b ≡ false) × (c ≡ false) × (rest ≡ None)
none_of true b c id rest h = absurd (cc)
none_of false true c id rest h = absurd (cc)
none_of false false true id rest h = absurd (cc)
none_of false false false id rest h = (refl, refl, refl, h)

-- where no node has some fault, none has any of them
without_fault : (source : List ℕ) (xs : List (Place × Node)) → first_where (has_fault source) xs ≡ None
    → (first_where is_too_deep xs ≡ None) × (first_where is_misshapen xs ≡ None) × (first_where (has_bad_span source) xs ≡ None)
without_fault source [] h = (refl, refl, refl)
without_fault source (x ∷ xs) h =
    let (deep, misshapen, bad, rest) = none_of (is_too_deep x.0 x.1) (is_misshapen x.0 x.1) (has_bad_span source x.0 x.1) x.1.node_id (first_where (has_fault source) xs) h in
    let (depths, forms, spans) = without_fault source xs rest in
    (rw deep depths, rw misshapen forms, rw bad spans)

-- a tree without such a node has the fault of its comments
pub comments_alone : (source : List ℕ) (comments : List Comment) (root : Node) → first_where (has_fault source) (all_placed root) ≡ None
    → form_fault source comments root ≡ option_map (λ i. Span (span.Comment i)) (first_bad_comment source 0 0 comments)
comments_alone source comments root none =
    let (depths, forms, spans) = without_fault source (all_placed root) none in
    rw (depths, forms, spans) refl
