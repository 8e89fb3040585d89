-- A generated script has no fault.
use Rattle.std.proofs.Common.{◌≡◌, ℕ, zero, suc, ◌+◌, ◌*◌, ◌<◌, ◌≤◌, List, [], ◌∷◌, ◌++◌, Bool, true, false, not, ◌&&◌, ◌||◌, if◌then◌else◌, Option, Some, None, option_map, length, nat_lt, refl, sym, ap, ◌∙◌, arith, append_assoc, inl, inr, slice_index}
use Rattle.std.specs.List.{list_all}
use Rattle.std.specs.Fmt.{is_char_start}
use Rattle.std.specs.Str.{IsAscii, encode_utf8_all}
use Rattle.std.proofs.lemmas.Bool.{lt-ltb, le-leb}
use Rattle.std.proofs.lemmas.Bool.Decides.{eqb_tells, leb_tells}
use Rattle.std.proofs.lemmas.List.{append-nil}
use Rattle.std.proofs.lemmas.Str.{encodes-IsAscii}
use Rattle.semantic_syntax.specs.declared.spans.Span.{Span}
use Rattle.semantic_kinds.specs.Classes.{is_of}
use Rattle.semantic_kinds.specs.Parts.{parts}
use Rattle.semantic_kinds.specs.Roles.{same_role}
use Rattle.semantic_kinds.specs.declared.kind.AstType.{AstType}
use Rattle.semantic_kinds.specs.declared.kind.AstType.TheVariants as kind
use Rattle.semantic_kinds.specs.declared.role.Role.{Role}
use Rattle.semantic_kinds.specs.declared.role.Role.TheVariants as role
use Rattle.semantic_kinds.specs.declared.class.Class.TheVariants as class
use Rattle.semantic_tree.specs.Children.{single, node_count}
use Rattle.semantic_tree.specs.Faults.{first_where, is_too_deep, is_misshapen, has_bad_span, is_too_large, or_fault, form_fault, first_fault}
use Rattle.semantic_tree.specs.Fit.{fit, all_of, AreInRole}
use Rattle.semantic_tree.specs.Forest.{Forest, nothing, tree, join, count, numbered}
use Rattle.semantic_tree.specs.Limits.{node_limit, comment_limit, source_limit}
use Rattle.semantic_tree.specs.Nodes.{trees}
use Rattle.semantic_tree.specs.Place.{root_place, child_place, placed_below, all_placed}
use Rattle.semantic_tree.specs.Sound.{is_boundary, is_sound}
use Rattle.semantic_tree.specs.Tree.{Tree}
use Rattle.semantic_tree.specs.declared.node.Node.{Node}
use Rattle.semantic_tree.specs.declared.place.Place.{Place}
use Rattle.semantic_tree.specs.declared.error.TreeError.{TreeError}
use Rattle.semantic_tree.specs.declared.error.TreeError.TheVariants.{Shape, TooMany, TooDeep, Span as BadSpan}
use Rattle.semantic_tree.specs.declared.error.SpanFault.TheVariants as span
use Rattle.semantic_tree.proofs.FitLaws.{Fit-fit}
use Rattle.semantic_tree.proofs.Forests.{count-join, count-numbered, numbered-join}
use Rattle.generated_tree.specs.Generated.{function_name, lines, plain_node, function, functions, generated, most_functions}
use Rattle.generated_tree.proofs.Lines.{lines_length, line_within, lines_are_ascii}

-- the tree of a function, numbered from m on
abbrev numbered_function : ℕ → ℕ → List ℕ → Forest
numbered_function m at name = numbered m (single role.Body (function at name))

-- the nodes of a function, at their places
abbrev placed : ℕ → ℕ → List ℕ → List (Place × Node)
placed m at name = placed_below root_place kind.Program (numbered_function m at name)

next_function : (i m : ℕ) → numbered m (functions (suc i)) ≡ join (numbered m (functions i)) (numbered_function (m + count (functions i)) (length (lines i)) (function_name i))
next_function i m = numbered-join m (functions i) (single role.Body (function (length (lines i)) (function_name i)))

-- what stands in two forests
placed_join : (place : Place) (k : AstType) (f g : Forest) → placed_below place k (join f g) ≡ placed_below place k f ++ placed_below place k g
placed_join place k nothing g = refl
placed_join place k (tree r k2 span text marks below id after) g =
    let node : Node = record { kind = k2; span = span; text = text; marks = marks; children = below; node_id = id } in
    let here : Place = child_place place k r in
    ap (λ xs. (here, node) ∷ (placed_below here k2 below ++ xs)) (placed_join place k after g)
    ∙ ap (λ xs. (here, node) ∷ xs) (sym (append_assoc (placed_below here k2 below) (placed_below place k after) (placed_below place k g)))

trees_join : (f g : Forest) → trees (join f g) ≡ trees f ++ trees g
trees_join nothing g = refl
trees_join (tree r k span text marks below id after) g = ap (λ xs. (r, record { kind = k; span = span; text = text; marks = marks; children = below; node_id = id }) ∷ xs) (trees_join after g)

none_in_both : (test : Place → Node → Bool) (xs ys : List (Place × Node)) → first_where test xs ≡ None → first_where test ys ≡ None → first_where test (xs ++ ys) ≡ None
none_in_both test [] ys h k = k
none_in_both test (x ∷ xs) ys h k = by (test x.0 x.1) h (none_in_both test xs ys)
  where
    by : (b : Bool) → (if b then Some x.1.node_id else first_where test xs) ≡ None → (first_where test xs ≡ None → first_where test ys ≡ None → first_where test (xs ++ ys) ≡ None)
        → (if b then Some x.1.node_id else first_where test (xs ++ ys)) ≡ None
    by true none ih = absurd cc
    by false none ih = ih none k

-- a fault of no function is none of the functions
in_none : (test : Place → Node → Bool) (n : ℕ) → ((i m : ℕ) → i < n → first_where test (placed m (length (lines i)) (function_name i)) ≡ None) → (m : ℕ) → first_where test (placed_below root_place kind.Program (numbered m (functions n))) ≡ None
in_none test zero h m = refl
in_none test (suc n) h m =
    let before : Forest = numbered m (functions n) in
    let last : Forest = numbered_function (m + count (functions n)) (length (lines n)) (function_name n) in
    ap (λ f. first_where test (placed_below root_place kind.Program f)) (next_function n m)
    ∙ ap (first_where test) (placed_join root_place kind.Program before last)
    ∙ none_in_both test (placed_below root_place kind.Program before) (placed_below root_place kind.Program last) (in_none test n (λ i k l. h i k (omega (arith, l))) m) (h n (m + count (functions n)) (omega arith))

all_in_both : (test : Role × Node → Bool) (xs ys : List (Role × Node)) → list_all test xs ≡ true → list_all test ys ≡ true → list_all test (xs ++ ys) ≡ true
all_in_both test [] ys h k = k
all_in_both test (x ∷ xs) ys h k = by (test x) h (all_in_both test xs ys)
  where
    by : (b : Bool) → (b && list_all test xs) ≡ true → (list_all test xs ≡ true → list_all test ys ≡ true → list_all test (xs ++ ys) ≡ true) → (b && list_all test (xs ++ ys)) ≡ true
    by true h ih = ih h k
    by false h ih = absurd cc

-- what each function keeps, all keep
in_all : (test : Role × Node → Bool) → ((at m : ℕ) (name : List ℕ) → list_all test (trees (numbered_function m at name)) ≡ true) → (n m : ℕ) → list_all test (trees (numbered m (functions n))) ≡ true
in_all test h zero m = refl
in_all test h (suc n) m =
    let before : Forest = numbered m (functions n) in
    let last : Forest = numbered_function (m + count (functions n)) (length (lines n)) (function_name n) in
    ap (λ f. list_all test (trees f)) (next_function n m)
    ∙ ap (list_all test) (trees_join before last)
    ∙ all_in_both test (trees before) (trees last) (in_all test h n m) (h (length (lines n)) (m + count (functions n)) (function_name n))

-- functions are statements of a program
statements_fit : (n m : ℕ) → fit (parts kind.Program) (trees (numbered m (functions n))) ≡ true
statements_fit n m =
    let cs : List (Role × Node) = trees (numbered m (functions n)) in
    let roles : AreInRole role.Body cs = in_all (λ c. same_role c.0 role.Body) (λ at m name. refl) n m in
    let kinds : all_of class.Statement cs ≡ true = in_all (λ c. is_of class.Statement c.1.kind c.1.text) (λ at m name. refl) n m in
    Fit-fit (parts kind.Program) cs refl ([], cs, refl, refl, refl, ([], cs, refl, refl, refl, (cs, [], sym (append-nil cs), roles, kinds, refl)))

-- a span in an ASCII text
boundary : (source : List ℕ) → IsAscii source → (at : ℕ) → at ≤ length source → is_boundary source at ≡ true
boundary source ascii at h = elim (eqb_tells at (length source)) [
  | inl q ↦ rw q.0 refl
  | inr q ↦ rw (q.0, lt-ltb at (length source) (omega (arith, h, q.1)), lt-ltb (slice_index source at) 128 (ascii at)) refl
]

fits : (source : List ℕ) → IsAscii source → (start end : ℕ) → start ≤ end → end ≤ length source → not (is_sound source (record { start = start; end = end }) && true) ≡ false
fits source ascii start end h k = rw (le-leb start end h, boundary source ascii start (omega (arith, h, k)), boundary source ascii end k) refl

abbrev AllPass : (Place → Node → Bool) → List (Place × Node) → Type 0
AllPass test [] = Unit {0}
AllPass test (x ∷ xs) = (test x.0 x.1 ≡ false) × AllPass test xs

none_where : (test : Place → Node → Bool) (xs : List (Place × Node)) → AllPass test xs → first_where test xs ≡ None
none_where test [] h = refl
none_where test (x ∷ xs) h = rw h.0 (none_where test xs h.1)

spans_fit : (source : List ℕ) → IsAscii source → (m at : ℕ) (name : List ℕ) → at + 9 + length name + 25 ≤ length source → first_where (has_bad_span source) (placed m at name) ≡ None
spans_fit source ascii m at name h =
    let e : ℕ = at + 9 + length name in
    let fit : (start end : ℕ) → start ≤ end → end ≤ e + 25 → not (is_sound source (record { start = start; end = end }) && true) ≡ false = λ start end l k. fits source ascii start end l (omega (arith, h, k)) in
    none_where (has_bad_span source) (placed m at name) (
      fit at (e + 25) (omega arith) (omega arith),
      (
        fit (at + 9) e (omega arith) (omega arith),
        (
          fit e (e + 7) (omega arith) (omega arith),
          (
            fit (e + 1) (e + 1 + 5) (omega arith) (omega arith),
            (
              fit (e + 1) (e + 1 + 1) (omega arith) (omega arith),
              (
                fit (e + 1 + 4) (e + 1 + 5) (omega arith) (omega arith),
                (
                  fit (e + 8) (e + 8 + 17) (omega arith) (omega arith),
                  (
                    fit (e + 8 + 2) (e + 8 + 2 + 6) (omega arith) (omega arith),
                    (
                      fit (e + 8 + 2 + 4) (e + 8 + 2 + 5) (omega arith) (omega arith),
                      (
                        fit (e + 8 + 2 + 4) (e + 8 + 2 + 5) (omega arith) (omega arith),
                        (
                          fit (e + 8 + 9) (e + 8 + 9 + 6) (omega arith) (omega arith),
                          (
                            fit (e + 8 + 9) (e + 8 + 9 + 5) (omega arith) (omega arith),
                            (
                              fit (e + 8 + 9) (e + 8 + 9 + 1) (omega arith) (omega arith),
                              (fit (e + 8 + 9 + 4) (e + 8 + 9 + 5) (omega arith) (omega arith), tt),
                            ),
                          ),
                        ),
                      ),
                    ),
                  ),
                ),
              ),
            ),
          ),
        ),
      ),
    )

-- the root, whose children are numbered
abbrev root_of : ℕ → Node
root_of n = (generated n).root

root_formed : (n : ℕ) → is_misshapen root_place (root_of n) ≡ false
root_formed n = rw (statements_fit n 1) refl

none_too_deep : (n : ℕ) → first_where is_too_deep (all_placed (root_of n)) ≡ None
none_too_deep n = in_none is_too_deep n (λ i m l. refl) 1

none_misshapen : (n : ℕ) → first_where is_misshapen (all_placed (root_of n)) ≡ None
none_misshapen n = rw (root_formed n) (in_none is_misshapen n (λ i m l. refl) 1)

none_bad : (n : ℕ) → n ≤ most_functions → first_where (has_bad_span (lines n)) (all_placed (root_of n)) ≡ None
none_bad n h =
    let ascii : IsAscii (lines n) = lines_are_ascii n h in
    rw (fits (lines n) ascii 0 (length (lines n)) (omega arith) (omega arith))
    (in_none (has_bad_span (lines n)) n (λ i m l. spans_fit (lines n) ascii m (length (lines i)) (function_name i) (omega (arith, line_within i n l))) 1)

pub functions_count : (n : ℕ) → count (functions n) ≡ 14 * n
functions_count zero = refl
functions_count (suc n) =
    let whole = count-join (functions n) (single role.Body (function (length (lines n)) (function_name n))) in
    let one : count (single role.Body (function (length (lines n)) (function_name n))) ≡ 14 = refl in
    let rest = functions_count n in
    omega arith

pub nodes_count : (n : ℕ) → node_count (root_of n) ≡ 14 * n + 1
nodes_count n = ap (λ k. k + 1) (count-numbered 1 (functions n) ∙ functions_count n)

not_large : (n : ℕ) → n ≤ most_functions → is_too_large (lines n) [] (root_of n) ≡ false
not_large n h =
    let nodes = nodes_count n in
    let bytes = lines_length n h in
    let few : nat_lt node_limit (node_count (root_of n)) ≡ false = elim (leb_tells (suc node_limit) (node_count (root_of n))) [ inl q ↦ absurd (omega (arith, h, q.1)) | inr q ↦ q.0 ] in
    let short : nat_lt source_limit (length (lines n)) ≡ false = elim (leb_tells (suc source_limit) (length (lines n))) [ inl q ↦ absurd (omega (arith, h, q.1)) | inr q ↦ q.0 ] in
    rw (few, short) refl

pub no_fault : (n : ℕ) → n ≤ most_functions → first_fault (generated n) ≡ None
no_fault n h =
    let found : List ℕ → Option TreeError = λ source. if is_too_large source [] (root_of n) then Some TooMany else form_fault source [] (root_of n) in
    ap found (encodes-IsAscii (lines n) (lines_are_ascii n h))
    ∙ ap (λ b. if b then Some TooMany else form_fault (lines n) [] (root_of n)) (not_large n h)
    ∙ rw (none_too_deep n, none_misshapen n, none_bad n h) refl
