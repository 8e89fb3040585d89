-- The nodes of a program without a fault have small ids and spans.
use Rattle.std.proofs.Common.{◌≡◌, ℕ, ◌<◌, ◌≤◌, ◌==◌, ◌&&◌, ◌||◌, nat_lt, nat_le, Bool, true, false, List, [], ◌∷◌, ◌++◌, None, length, inl, inr, refl, ap, subst, encode_utf8_all, slice_index, arith}
use Rattle.std.proofs.lemmas.Bool.{and_parts, eqb-true, ltb-true}
use Rattle.std.specs.Fmt.{is_char_start}
use Rattle.semantic_kinds.specs.declared.kind.AstType.{AstType}
use Rattle.semantic_syntax.specs.declared.spans.Span.{Span}
use Rattle.semantic_tree.specs.Children.{node_count}
use Rattle.semantic_tree.specs.Faults.{first_fault}
use Rattle.semantic_tree.specs.Forest.{Forest, nothing, tree}
use Rattle.semantic_tree.specs.Place.{root_place, child_place, placed_below, all_placed}
use Rattle.semantic_tree.specs.Shaped.{OfEach, IsShaped}
use Rattle.semantic_tree.specs.Sound.{is_boundary, is_sound, has_good_span, shows_sign}
use Rattle.semantic_tree.specs.Tree.{Tree, IsNumbered}
use Rattle.semantic_tree.specs.declared.node.Node.{Node}
use Rattle.semantic_tree.specs.declared.place.Place.{Place}
use Rattle.semantic_tree.proofs.ShapedLaws.{no_fault-IsShaped}
use Rattle.semantic_model.specs.Entries.{Among}
use Rattle.semantic_model.proofs.lists.Members.{among_cases}
use Rattle.program_laws.proofs.TreeNodes.{nodes_below, nodes_from, ids_between}
use Rattle.table_bounds.specs.Tellable.{IsWrittenWhole}

pub record IsBounded (x : Node) : Type 0 where
  pub id : IsWrittenWhole x.node_id
  pub start : IsWrittenWhole x.span.start
  pub end : IsWrittenWhole x.span.end

-- ---- spans

boundary_within : (source : List ℕ) (at : ℕ) → is_boundary source at ≡ true → at ≤ length source
boundary_within source at h = by (at == length source) refl h
  where
    begins : Bool
    begins = is_char_start (slice_index source at)

    by : (t : Bool) → (at == length source) ≡ t → (t || (nat_lt at (length source) && begins)) ≡ true → at ≤ length source
    by true same k = omega (arith, eqb-true at (length source) same)
    by false other k = let less : at < length source = ltb-true at (length source) (and_parts (nat_lt at (length source)) begins k).0 in omega (arith, less)

-- both ends lie in the source
within : (source : List ℕ) (node : Node) → has_good_span source node ≡ true → (node.span.start ≤ length source) × (node.span.end ≤ length source)
within source node h =
    let sound : is_sound source node.span ≡ true = (and_parts (is_sound source node.span) (shows_sign source node.kind node) h).0 in
    let parts = and_parts (nat_le node.span.start node.span.end && is_boundary source node.span.start) (is_boundary source node.span.end) sound in
    let first = and_parts (nat_le node.span.start node.span.end) (is_boundary source node.span.start) parts.0 in
    (boundary_within source node.span.start first.1, boundary_within source node.span.end parts.1)

-- ---- each node of a tree

module _ (P : Node → Type 0) where
  of_left : (xs ys : List (Place × Node)) → OfEach (λ place node. P node) (xs ++ ys) → OfEach (λ place node. P node) xs
  of_left [] ys h = tt
  of_left (x ∷ xs) ys h = (h.0, of_left xs ys h.1)

  of_right : (xs ys : List (Place × Node)) → OfEach (λ place node. P node) (xs ++ ys) → OfEach (λ place node. P node) ys
  of_right [] ys h = h
  of_right (x ∷ xs) ys h = of_right xs ys h.1

  of_below : (place : Place) (kind : AstType) (f : Forest) → OfEach (λ place node. P node) (placed_below place kind f) → (x : Node) → Among x (nodes_below f) → P x
  of_below place kind nothing h x a = absurd a
  of_below place kind (tree r k span text marks below id after) h x (inl e) = subst P e h.0
  of_below place kind (tree r k span text marks below id after) h x (inr a) =
      let here : Place = child_place place kind r in
      elim (among_cases x (nodes_below below) (nodes_below after) a) [
        | inl b ↦ of_below here k below (of_left (placed_below here k below) (placed_below place kind after) h.1) x b
        | inr b ↦ of_below place kind after (of_right (placed_below here k below) (placed_below place kind after) h.1) x b
      ]

  of_node : (root : Node) → OfEach (λ place node. P node) (all_placed root) → (x : Node) → Among x (nodes_from root) → P x
  of_node root h x (inl e) = subst P e h.0
  of_node root h x (inr a) = of_below root_place root.kind root.children h.1 x a

-- ---- ids

id_below : (root x : Node) → IsNumbered root → Among x (nodes_from root) → x.node_id < node_count root
id_below root x h (inl e) =
    let first : 0 ≡ root.node_id = ap (λ n. n.node_id) h in
    let same : root.node_id ≡ x.node_id = ap (λ n. n.node_id) e in
    omega (arith, first, same)
id_below root x h (inr a) =
    let (low, high) = ids_between 1 root.children x (ap (λ n. n.children) h) a in
    omega (arith, high)

-- all nodes are bounded
pub bounded_nodes : (p : Tree) → first_fault p ≡ None → IsNumbered p.root → (x : Node) → Among x (nodes_from p.root) → IsBounded x
bounded_nodes p h n x a =
    let shaped : IsShaped p = no_fault-IsShaped p h in
    let source : List ℕ = encode_utf8_all p.source in
    let span : (x.span.start ≤ length (encode_utf8_all p.source)) × (x.span.end ≤ length (encode_utf8_all p.source)) =
    within (encode_utf8_all p.source) x (of_node (λ node. has_good_span (encode_utf8_all p.source) node ≡ true) p.root shaped.spans x a) in
    let bytes : length (encode_utf8_all p.source) ≤ 4294967290 = shaped.bytes in
    let nodes : node_count p.root ≤ 4294967294 = shaped.nodes in
    let id : x.node_id < node_count p.root = id_below p.root x n a in
    record {
      id = omega (arith, id, nodes);
      start = omega (arith, span.0, bytes);
      end = omega (arith, span.1, bytes);
    }

-- a span that ends below the limit of sources
pub record IsShort (span : Span) : Type 0 where
  pub start : span.start ≤ 4294967290
  pub end : span.end ≤ 4294967290

pub short_spans : (p : Tree) → first_fault p ≡ None → (x : Node) → Among x (nodes_from p.root) → IsShort x.span
short_spans p h x a =
    let shaped : IsShaped p = no_fault-IsShaped p h in
    let span : (x.span.start ≤ length (encode_utf8_all p.source)) × (x.span.end ≤ length (encode_utf8_all p.source)) =
    within (encode_utf8_all p.source) x (of_node (λ node. has_good_span (encode_utf8_all p.source) node ≡ true) p.root shaped.spans x a) in
    let bytes : length (encode_utf8_all p.source) ≤ 4294967290 = shaped.bytes in
    record { start = omega (arith, span.0, bytes); end = omega (arith, span.1, bytes) }
