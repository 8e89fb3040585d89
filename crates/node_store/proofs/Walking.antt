-- The path to a node as a walk enters and leaves nodes.
use Rattle.std.proofs.Common.{◌≡◌, ℕ, zero, suc, ◌-◌, ◌<◌, ◌≤◌, List, [], ◌∷◌, ◌++◌, Result, Ok, Err, OnOk, All, length, get_or, drop, slice_index, refl, sym, ap, subst, ◌∙◌, arith, length-append}
use Rattle.std.proofs.lemmas.List.{get_or_append_left}
use Rattle.std.proofs.lemmas.Option.{slice_get-get_or}
use Rattle.std.proofs.Math.Seq.{get_or-append_seam}
use Rattle.semantic_syntax.specs.declared.node_flags.NodeFlags.{NodeFlags}
use Rattle.semantic_tree.specs.declared.node.Node.{Node}
use Rattle.node_store.specs.NodeList.{NodeList, SeenNode, IsNodeList, StandBefore, with_node}
use Rattle.node_store.specs.Outward.{outward_within, outward, numbered_of, kinds_of}
use Rattle.node_store.specs.PathIn.{path_in}
use Rattle.node_store.specs.Store.{NodeIsKept, IsCounted, path_kept}
use Rattle.node_store.specs.declared.store.AstNodeStoreKind.{AstNodeStoreKind}
use Rattle.node_store.specs.declared.store.AstNodeStoreKind.TheVariants.{Full, Ancestry}
use Rattle.node_store.proofs.Paths.{some_first}
use Rattle.node_store.proofs.Ways.{enough, outward_steps, outward_is_below}

-- the ways of nodes stay as more nodes come
same_way : (parents more : List ℕ) → StandBefore parents → (steps n : ℕ) → n < length parents → outward_within steps (parents ++ more) n ≡ outward_within steps parents n
same_way parents more before zero n h = refl
same_way parents more before (suc steps) zero h = refl
same_way parents more before (suc steps) (suc n) h =
    let up = before (suc n) h in
    ap (λ p. suc n ∷ outward_within steps (parents ++ more) p) (get_or_append_left parents more 0 (suc n) h)
    ∙ ap (λ ns. suc n ∷ ns) (same_way parents more before steps (slice_index parents (suc n)) (omega arith))

numbered_first : (nodes : List SeenNode) (n : ℕ) (ids : List ℕ) (d : SeenNode) → n < length nodes → numbered_of nodes (n ∷ ids) ≡ (n, get_or nodes n d) ∷ numbered_of nodes ids
numbered_first nodes n ids d h = rw (slice_get-get_or nodes n d h) refl

same_nodes : (nodes more : List SeenNode) (ids : List ℕ) → All (λ k. k < length nodes) ids → numbered_of (nodes ++ more) ids ≡ numbered_of nodes ids
same_nodes nodes more [] h = refl
same_nodes nodes more (n ∷ ids) h =
    let within : n < length nodes = h zero 0 (omega arith) in
    let longer = length-append nodes more in
    let d : SeenNode = some_first nodes (omega arith) in
    numbered_first (nodes ++ more) n ids d (omega arith)
    ∙ ap (λ (s : SeenNode). (n, s) ∷ numbered_of (nodes ++ more) ids) (get_or_append_left nodes more d n within)
    ∙ ap (λ (l : List (ℕ × SeenNode)). (n, get_or nodes n d) ∷ l) (same_nodes nodes more ids (λ k e lt. h (suc k) e (omega arith)))
    ∙ sym (numbered_first nodes n ids d within)

-- the way to a node that is entered below one
way_below : (parents : List ℕ) (n parent : ℕ) → StandBefore parents → length parents ≡ suc n → parent ≤ n → outward (parents ++ parent ∷ []) (suc n) ≡ suc n ∷ outward parents parent
way_below parents n parent before long h =
    let here : slice_index (parents ++ parent ∷ []) (suc n) ≡ parent = ap (λ k. get_or (parents ++ parent ∷ []) k 0) (sym long) ∙ get_or-append_seam parents parent [] 0 in
    ap (λ p. suc n ∷ outward_within (suc n) (parents ++ parent ∷ []) p) here
    ∙ ap (λ ns. suc n ∷ ns) (same_way parents (parent ∷ []) before (suc n) parent (omega arith) ∙ enough parents before (suc n) (suc parent) parent (omega arith) (omega arith) (omega arith))

-- each node has a parent, which stands before it
pub record HasParents (list : NodeList) : Type 0 where
  pub with_parents : length list.parents ≡ length list.nodes
  pub before : StandBefore list.parents

pub has_parents : (list : NodeList) → IsNodeList list → HasParents list
has_parents list h = record { with_parents = h.with_parents; before = h.before }

empty_list : {X : Type 0} (xs : List X) → length xs ≡ 0 → xs ≡ []
empty_list [] h = refl
empty_list (x ∷ xs) h = absurd (omega arith)

-- the path of the first node
first_path : (list : NodeList) (node : Node) (id scope parent : ℕ) (flags : NodeFlags) → length list.nodes ≡ 0 → parent ≡ 0 → path_in (with_node list node id scope parent flags) 0 ≡ node ∷ path_in list parent
first_path list node id scope parent flags none root =
    let s : SeenNode = record { node = node; id = id; scope = scope } in
    let empty = empty_list list.nodes none in
    ap (λ (ns : List SeenNode). kinds_of (numbered_of (ns ++ s ∷ []) (0 ∷ []))) empty
    ∙ sym (ap (λ (p : ℕ). node ∷ kinds_of (numbered_of list.nodes (outward list.parents p))) root ∙ ap (λ (ns : List SeenNode). node ∷ kinds_of (numbered_of ns (0 ∷ []))) empty)

later_path : (list : NodeList) → HasParents list → (node : Node) (id scope parent : ℕ) (flags : NodeFlags) (n : ℕ) → length list.nodes ≡ suc n → parent ≤ n → path_in (with_node list node id scope parent flags) (suc n) ≡ node ∷ path_in list parent
later_path list h node id scope parent flags n long le =
    let s : SeenNode = record { node = node; id = id; scope = scope } in
    let same = h.with_parents in
    let longer = length-append list.nodes (s ∷ []) in
    let last : get_or (list.nodes ++ s ∷ []) (suc n) s ≡ s = ap (λ k. get_or (list.nodes ++ s ∷ []) k s) (sym long) ∙ get_or-append_seam list.nodes s [] s in
    let below = subst (λ k. All (λ i. i < k) (outward list.parents parent)) same (outward_is_below list.parents parent h.before (omega arith)) in
    ap (λ ids. kinds_of (numbered_of (list.nodes ++ s ∷ []) ids)) (way_below list.parents n parent h.before (omega arith) le)
    ∙ ap kinds_of (numbered_first (list.nodes ++ s ∷ []) (suc n) (outward list.parents parent) s (omega arith))
    ∙ ap (λ (x : SeenNode). x.node ∷ kinds_of (numbered_of (list.nodes ++ s ∷ []) (outward list.parents parent))) last
    ∙ ap (λ (l : List (ℕ × SeenNode)). node ∷ kinds_of l) (same_nodes list.nodes (s ∷ []) (outward list.parents parent) below)

pub next_path : (list : NodeList) → HasParents list → (node : Node) (id scope parent : ℕ) (flags : NodeFlags) (n : ℕ) → n ≡ length list.nodes → parent ≤ length list.nodes - 1 → path_in (with_node list node id scope parent flags) n ≡ node ∷ path_in list parent
next_path list h node id scope parent flags zero e le = first_path list node id scope parent flags (sym e) (omega arith)
next_path list h node id scope parent flags (suc n) e le = later_path list h node id scope parent flags n (sym e) (omega arith)

-- the root alone is on its path
alone : (nodes : List SeenNode) → 1 < length (kinds_of (numbered_of nodes (0 ∷ []))) → ⊥
alone [] h = omega arith
alone (s ∷ nodes) h = omega arith

-- the path above a node is its parent's
pub back_path : (list : NodeList) → HasParents list → (n : ℕ) → n ≤ length list.nodes - 1 → 1 < length (path_in list n) → path_in list (slice_index list.parents n) ≡ drop 1 (path_in list n)
back_path list h zero le long = absurd (alone list.nodes long)
back_path list h (suc m) le long =
    let same = h.with_parents in
    let within : suc m < length list.nodes = omega arith in
    let d : SeenNode = some_first list.nodes (omega arith) in
    sym (ap (drop 1) (ap (λ ids. kinds_of (numbered_of list.nodes ids)) (outward_steps list.parents (suc m) h.before (omega arith)) ∙ ap kinds_of (numbered_first list.nodes (suc m) (outward list.parents (slice_index list.parents (suc m))) d within)))

-- nothing is on the path in an empty list
pub no_path : (list : NodeList) (n : ℕ) → length list.nodes ≡ 0 → n ≡ 0 → path_in list n ≡ []
no_path list n none root = ap (λ (k : ℕ). kinds_of (numbered_of list.nodes (outward list.parents k))) root ∙ ap (λ (ns : List SeenNode). kinds_of (numbered_of ns (0 ∷ []))) (empty_list list.nodes none)

-- where some node is on the path a full store has the one at which the walk stands
kept_in : (list : NodeList) (n k : ℕ) → k ≡ length list.nodes → n ≤ k - 1 → 0 < length (path_in list n) → n < length list.nodes
kept_in list n zero e le long = absurd (let short = ap length (no_path list n (sym e) (omega arith)) in omega arith)
kept_in list n (suc k) e le long = omega arith

pub is_kept : (n count : ℕ) (kept : AstNodeStoreKind) → IsCounted n count kept → 0 < length (path_kept n kept) → NodeIsKept n kept
is_kept n count (Full list) h long = kept_in list n (length list.nodes) refl h.0 long
is_kept n count (Ancestry path) h long = tt

-- what follows on a result
pub on_ok : {T E : Type 0} {P Q : Type 0} (r : Result T E) → OnOk r P → (P → Q) → OnOk r Q
on_ok (Ok x) p f = f p
on_ok (Err e) p f = tt
