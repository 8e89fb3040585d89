-- A store follows a walk that enters and leaves nodes: its path gains each node, and loses it.
use Rattle.std.proofs.Common.{◌≡◌, ℕ, suc, ◌+◌, ◌-◌, ◌<◌, ◌≤◌, List, [], ◌∷◌, ◌++◌, length, drop, slice_index, refl, sym, ap, subst, ◌∙◌, arith, length-append, inl, inr}
use Rattle.std.specs.Prelude.{⊤}
use Rattle.std.proofs.lemmas.Bool.Decides.{leb_tells}
use Rattle.std.proofs.lemmas.List.{get_or_append_left, length-drop}
use Rattle.std.proofs.Math.Seq.{get_or-append_seam}
use Rattle.semantic_tree.specs.declared.node.Node.{Node}
use Rattle.node_store.specs.Entered.{no_flags}
use Rattle.node_store.specs.NodeList.{NodeList, SeenNode, StandBefore}
use Rattle.node_store.specs.Store.{IsCounted, IsWalked, path_kept, path_to, kept_with, back_from, kept_behind, after_entering, after_leaving}
use Rattle.node_store.specs.declared.store.AstNodeStore.{AstNodeStore}
use Rattle.node_store.specs.declared.store.AstNodeStoreKind.{AstNodeStoreKind}
use Rattle.node_store.specs.declared.store.AstNodeStoreKind.TheVariants.{Full, Ancestry}
use Rattle.node_store.proofs.Walking.{HasParents, next_path, back_path}

abbrev IsListed : AstNodeStoreKind → Type 0
IsListed (Full list) = HasParents list
IsListed (Ancestry path) = ⊤

-- a walk alone has entered and left nodes
pub record IsFollowing (s : AstNodeStore) : Type 0 where
  pub stands : IsWalked s
  pub listed : IsListed s.kind

module _ (n count : ℕ) (node : Node) (scope : ℕ) where
  entering_path : (kept : AstNodeStoreKind) → IsCounted n count kept → IsListed kept → path_kept count (kept_with kept node count scope n) ≡ node ∷ path_kept n kept
  entering_path (Full list) h k = next_path list k node count scope n no_flags count h.1 h.0
  entering_path (Ancestry path) h k = refl

  entering_stands : (kept : AstNodeStoreKind) → IsCounted n count kept → IsCounted count (count + 1) (kept_with kept node count scope n)
  entering_stands (Full list) h =
      let longer : length (list.nodes ++ (record { node = node; id = count; scope = scope }) ∷ []) ≡ length list.nodes + 1 = length-append list.nodes ((record { node = node; id = count; scope = scope }) ∷ []) in
      (omega (arith, longer, h.1), omega (arith, longer, h.1))
  entering_stands (Ancestry path) h = omega (arith, h)

  -- the parent of a node that is entered stands before it
  before_more : (list : NodeList) → HasParents list → n ≤ length list.nodes - 1 → StandBefore (list.parents ++ n ∷ [])
  before_more list k le i l = by (length-append list.parents (n ∷ []))
    where
      by : length (list.parents ++ n ∷ []) ≡ length list.parents + 1 → slice_index (list.parents ++ n ∷ []) i ≤ i - 1
      by longer = elim (leb_tells (suc i) (length list.parents)) [
        | inl q ↦ subst (λ m. m ≤ i - 1) (sym (get_or_append_left list.parents (n ∷ []) 0 i q.1)) (k.before i q.1)
        | inr q ↦
            (let last : i ≡ length list.parents = omega (arith, q.1, l, longer) in
            let here : slice_index (list.parents ++ n ∷ []) i ≡ n = ap (slice_index (list.parents ++ n ∷ [])) last ∙ get_or-append_seam list.parents n [] 0 in
            subst (λ m. m ≤ i - 1) (sym here) (omega (arith, le, last, k.with_parents)))
      ]

  entering_listed : (kept : AstNodeStoreKind) → IsCounted n count kept → IsListed kept → IsListed (kept_with kept node count scope n)
  entering_listed (Full list) h k =
      let s : SeenNode = record { node = node; id = count; scope = scope } in
      record {
        with_parents = omega (arith, length-append list.parents (n ∷ []), length-append list.nodes (s ∷ []), k.with_parents);
        before = before_more list k h.0;
      }
  entering_listed (Ancestry path) h k = tt

module _ (n count : ℕ) where
  leaving_path : (kept : AstNodeStoreKind) → IsCounted n count kept → IsListed kept → 1 < length (path_kept n kept) → path_kept (back_from n kept) (kept_behind kept) ≡ drop 1 (path_kept n kept)
  leaving_path (Full list) h k long = back_path list k n h.0 long
  leaving_path (Ancestry path) h k long = refl

  past_end : (xs : List ℕ) → length xs ≡ 0 → slice_index xs n ≡ 0
  past_end [] e = refl
  past_end (x ∷ xs) e = absurd (omega (arith, e))

  back_within : (list : NodeList) → HasParents list → n ≤ length list.nodes - 1 → slice_index list.parents n ≤ length list.nodes - 1
  back_within list k le = elim (leb_tells (suc n) (length list.parents)) [
    | inl q ↦ omega (arith, k.before n q.1, le)
    | inr q ↦ omega (arith, past_end list.parents (omega (arith, q.1, le, k.with_parents)))
  ]

  leaving_stands : (kept : AstNodeStoreKind) → IsCounted n count kept → IsListed kept → IsCounted (back_from n kept) count (kept_behind kept)
  leaving_stands (Full list) h k = (back_within list k h.0, h.1)
  leaving_stands (Ancestry path) h k = omega (arith, h, length-drop 1 path)

  leaving_listed : (kept : AstNodeStoreKind) → IsListed kept → IsListed (kept_behind kept)
  leaving_listed (Full list) k = k
  leaving_listed (Ancestry path) k = tt

pub enters_path : (s : AstNodeStore) (node : Node) (scope : ℕ) → IsFollowing s → path_to (after_entering s node scope) ≡ node ∷ path_to s
enters_path s node scope h = entering_path s.current_node_id s.count node scope s.kind h.stands h.listed

pub enters_following : (s : AstNodeStore) (node : Node) (scope : ℕ) → IsFollowing s → IsFollowing (after_entering s node scope)
enters_following s node scope h = record { stands = entering_stands s.current_node_id s.count node scope s.kind h.stands; listed = entering_listed s.current_node_id s.count node scope s.kind h.stands h.listed }

pub leaves_path : (s : AstNodeStore) → IsFollowing s → 1 < length (path_to s) → path_to (after_leaving s) ≡ drop 1 (path_to s)
leaves_path s h long = leaving_path s.current_node_id s.count s.kind h.stands h.listed long

pub leaves_following : (s : AstNodeStore) → IsFollowing s → IsFollowing (after_leaving s)
leaves_following s h = record { stands = leaving_stands s.current_node_id s.count s.kind h.stands h.listed; listed = leaving_listed s.current_node_id s.count s.kind h.listed }
