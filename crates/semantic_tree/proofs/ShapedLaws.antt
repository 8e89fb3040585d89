-- A program has no fault exactly where it is shaped.
use Rattle.std.proofs.Common.{◌≡◌, ℕ, ◌+◌, ◌≤◌, List, [], ◌∷◌, Bool, true, false, ◌&&◌, if◌then◌else◌, nat_le, Option, Some, None, option_map, length, refl, sym, arith, subst}
use Rattle.std.specs.Prelude.{T}
use Rattle.std.specs.Str.{encode_utf8_all}
use Rattle.std.proofs.lemmas.Bool.{and_parts, and_from, not-false, not_from_true}
use Rattle.std.proofs.lemmas.Bool.Decides.{nat_tests}
use Rattle.semantic_kinds.specs.Parts.{parts}
use Rattle.semantic_kinds.specs.Texts.{may_have_text}
use Rattle.semantic_kinds.specs.Allowed.{allowed_marks}
use Rattle.semantic_kinds.specs.MarkSets.{set_of, is_within}
use Rattle.semantic_tree.specs.Limits.{node_limit, comment_limit, source_limit, depth_limit}
use Rattle.semantic_tree.specs.Children.{node_count}
use Rattle.semantic_tree.specs.Nodes.{trees}
use Rattle.semantic_tree.specs.Tree.{Tree}
use Rattle.semantic_tree.specs.Place.{all_placed}
use Rattle.semantic_tree.specs.Fit.{fit}
use Rattle.semantic_tree.specs.Rules.{is_rooted, keeps_table, stands, names_foreign, is_well_formed}
use Rattle.semantic_tree.specs.Sound.{is_sound, has_good_span}
use Rattle.semantic_tree.specs.Faults.{first_where, is_too_deep, is_misshapen, has_bad_span, first_bad_comment, is_too_large, or_fault, form_fault, first_fault}
use Rattle.semantic_tree.specs.Shaped.{IsWellFormed, OfEach, AreInOrder, IsShaped}
use Rattle.semantic_tree.specs.declared.node.Node.{Node}
use Rattle.semantic_tree.specs.declared.place.Place.{Place}
use Rattle.semantic_tree.specs.declared.comment.Comment.{Comment}
use Rattle.semantic_tree.specs.declared.error.TreeError.{TreeError}
use Rattle.semantic_tree.specs.declared.error.TreeError.TheVariants.{Shape, TooMany, TooDeep, Span}
use Rattle.semantic_tree.specs.declared.error.SpanFault.TheVariants as span
use Rattle.semantic_tree.proofs.FitLaws.{fit-Fit, Fit-fit}
use Rattle.semantic_tree.proofs.OwnRoles.{own_roles}

some_is_not_none : {A : Type 0} (x : A) → ◌≡◌ {A = Option A} (Some x) None → ⊥
some_is_not_none x h = cc

-- nothing is found exactly where each passes
none_found : (test : Place → Node → Bool) (P : Place → Node → Type 0) → ((place : Place) (node : Node) → test place node ≡ false → P place node) → (xs : List (Place × Node)) → first_where test xs ≡ None → OfEach P xs
none_found test P holds [] h = tt
none_found test P holds (x ∷ xs) h =
    elim (test x.0 x.1) as (λ b. test x.0 x.1 ≡ b → (if b then Some x.1.node_id else first_where test xs) ≡ None → P x.0 x.1 × OfEach P xs) [
      | true ↦ λ is none. absurd (some_is_not_none x.1.node_id none)
      | false ↦ λ is none. (holds x.0 x.1 is, none_found test P holds xs none)
    ] refl h

finds_none : (test : Place → Node → Bool) (P : Place → Node → Type 0) → ((place : Place) (node : Node) → P place node → test place node ≡ false) → (xs : List (Place × Node)) → OfEach P xs → first_where test xs ≡ None
finds_none test P holds [] h = refl
finds_none test P holds (x ∷ xs) (here, rest) = rw (holds x.0 x.1 here) (finds_none test P holds xs rest)

-- a node at its place
and_all : (a b c d : Bool) → a && b && c && d ≡ true → (a ≡ true) × (b ≡ true) × (c ≡ true) × (d ≡ true)
and_all true true true true h = (refl, refl, refl, refl)
and_all true true true false h = absurd (subst T (sym h) tt)
and_all true true false d h = absurd (subst T (sym h) tt)
and_all true false c d h = absurd (subst T (sym h) tt)
and_all false b c d h = absurd (subst T (sym h) tt)

pub form_holds : (place : Place) (node : Node) → is_misshapen place node ≡ false → IsWellFormed place node
form_holds place node h =
    let (rooted, table, rules, named) = and_all (is_rooted place node.kind) (keeps_table node) (stands place node.kind node) (names_foreign place node.kind) (not-false (is_well_formed place node) h) in
    let (text, marks, children, _) = and_all (may_have_text node.kind node.text) (is_within node.marks (set_of (allowed_marks node.kind))) (fit (parts node.kind) (trees node.children)) true (and_from (keeps_table node) true table refl) in
    record {
      rooted = rooted;
      text = text;
      marks = marks;
      children = fit-Fit (parts node.kind) (trees node.children) children;
      rules = rules;
      named = named;
    }

form_passes : (place : Place) (node : Node) → IsWellFormed place node → is_misshapen place node ≡ false
form_passes place node h =
    let fits = Fit-fit (parts node.kind) (trees node.children) (own_roles node.kind) h.children in
    rw (h.rooted, h.text, h.marks, fits, h.rules, h.named) refl

comments_hold : (source : List ℕ) (last i : ℕ) (cs : List Comment) → first_bad_comment source last i cs ≡ None → AreInOrder source last cs
comments_hold source last i [] h = tt
comments_hold source last i (c ∷ cs) h =
    let test = is_sound source c.span && nat_le last c.span.start in
    elim test as (λ b. test ≡ b → (if b then first_bad_comment source c.span.end (i + 1) cs else Some i) ≡ None → AreInOrder source last (c ∷ cs)) [
      | true ↦ λ is none.
          let later : nat_le last c.span.start ≡ true = (and_parts (is_sound source c.span) (nat_le last c.span.start) is).1 in
          ((and_parts (is_sound source c.span) (nat_le last c.span.start) is).0, grind (arith, nat_tests), comments_hold source c.span.end (i + 1) cs none)
      | false ↦ λ is none. absurd (some_is_not_none i none)
    ] refl h

comments_pass : (source : List ℕ) (last i : ℕ) (cs : List Comment) → AreInOrder source last cs → first_bad_comment source last i cs ≡ None
comments_pass source last i [] h = refl
comments_pass source last i (c ∷ cs) (sound, after, rest) =
    let later : nat_le last c.span.start ≡ true = grind (arith, nat_tests) in
    rw (sound, later) (comments_pass source c.span.end (i + 1) cs rest)

-- faults one after another
pub or_first : (a b : Option TreeError) → or_fault a b ≡ None → a ≡ None
or_first None b h = refl
or_first (Some e) b h = h

pub or_second : (a b : Option TreeError) → or_fault a b ≡ None → b ≡ None
or_second None b h = h
or_second (Some e) b h = absurd (some_is_not_none e h)

pub map_none : {A : Type 0} (f : A → TreeError) (o : Option A) → option_map f o ≡ None → o ≡ None
map_none f None h = refl
map_none f (Some x) h = absurd (some_is_not_none (f x) h)

pub small : (source : List ℕ) (comments : List Comment) (root : Node) → is_too_large source comments root ≡ false → (node_count root ≤ node_limit) × (length comments ≤ comment_limit) × (length source ≤ source_limit)
small source comments root h = (grind (arith, nat_tests), grind (arith, nat_tests), grind (arith, nat_tests))

large : (source : List ℕ) (comments : List Comment) (root : Node) → node_count root ≤ node_limit → length comments ≤ comment_limit → length source ≤ source_limit → is_too_large source comments root ≡ false
large source comments root a b c = grind (arith, nat_tests)

depth_holds : (place : Place) (node : Node) → is_too_deep place node ≡ false → place.depth ≤ depth_limit
depth_holds place node h = grind (arith, nat_tests)

depth_passes : (place : Place) (node : Node) → place.depth ≤ depth_limit → is_too_deep place node ≡ false
depth_passes place node h = grind (arith, nat_tests)

-- a program without fault is shaped
pub no_fault-IsShaped : (p : Tree) → first_fault p ≡ None → IsShaped p
no_fault-IsShaped p h =
    let source = encode_utf8_all p.source in
    let placed = all_placed p.root in
    elim (is_too_large source p.comments p.root) as (λ b. is_too_large source p.comments p.root ≡ b → (if b then Some TooMany else form_fault source p.comments p.root) ≡ None → IsShaped p) [
      | true ↦ λ is none. absurd (some_is_not_none TooMany none)
      | false ↦ λ is none.
          let deep = option_map (λ id. TooDeep id) (first_where is_too_deep placed) in
          let shape = option_map (λ id. Shape (Some id)) (first_where is_misshapen placed) in
          let spans = option_map (λ id. Span (span.Node id)) (first_where (has_bad_span source) placed) in
          let comments = option_map (λ i. Span (span.Comment i)) (first_bad_comment source 0 0 p.comments) in
          let after_deep = or_second deep (or_fault shape (or_fault spans comments)) none in
          let after_shape = or_second shape (or_fault spans comments) after_deep in
          let (few, fewer, short) = small source p.comments p.root is in
          record {
            nodes = few;
            number_of_comments = fewer;
            bytes = short;
            depths = none_found is_too_deep (λ place node. place.depth ≤ depth_limit) depth_holds placed (map_none (λ id. TooDeep id) (first_where is_too_deep placed) (or_first deep (or_fault shape (or_fault spans comments)) none));
            forms = none_found is_misshapen IsWellFormed form_holds placed (map_none (λ id. Shape (Some id)) (first_where is_misshapen placed) (or_first shape (or_fault spans comments) after_deep));
            spans = none_found (has_bad_span source) (λ place node. has_good_span source node ≡ true) (λ place node. not-false (has_good_span source node)) placed (map_none (λ id. Span (span.Node id)) (first_where (has_bad_span source) placed) (or_first spans comments after_shape));
            comments = comments_hold source 0 0 p.comments (map_none (λ i. Span (span.Comment i)) (first_bad_comment source 0 0 p.comments) (or_second spans comments after_shape));
          }
    ] refl h

-- a shaped program has no fault
pub IsShaped-no_fault : (p : Tree) → IsShaped p → first_fault p ≡ None
IsShaped-no_fault p h =
    let source = encode_utf8_all p.source in
    let placed = all_placed p.root in
    let sizes = large source p.comments p.root h.nodes h.number_of_comments h.bytes in
    let deep = finds_none is_too_deep (λ place node. place.depth ≤ depth_limit) depth_passes placed h.depths in
    let shape = finds_none is_misshapen IsWellFormed form_passes placed h.forms in
    let spans = finds_none (has_bad_span source) (λ place node. has_good_span source node ≡ true) (λ place node. not_from_true (has_good_span source node)) placed h.spans in
    rw (sizes, deep, shape, spans, comments_pass source 0 0 p.comments h.comments) refl
