-- The nodes that are left from one on.
use Rattle.std.proofs.Common.{◌≡◌, ℕ, suc, ◌+◌, ◌-◌, ◌<◌, ◌≤◌, List, [], ◌∷◌, length, drop, map, get_or, set, refl, ap, ◌∙◌, add-one, drop-cons}
use Rattle.std.proofs.lemmas.List.{length-drop, length-map, map-set}
use Rattle.std.proofs.Math.ListN.{drop_of_length-le}
use Rattle.node_store.specs.NodeList.{SeenNode}
use Rattle.node_store.specs.Outward.{numbered_from}
use Rattle.node_store.specs.Seen.{seen}
use Rattle.node_store.specs.declared.ast_node.AstNode.{AstNode}

pub seen_rest : (nodes : List AstNode) (n : ℕ) (d : AstNode) → n < length nodes → map seen (drop n nodes) ≡ seen (get_or nodes n d) ∷ map seen (drop (n + 1) nodes)
seen_rest nodes n d h = rw (add-one, drop-cons nodes n d h) refl

pub seen_end : (nodes : List AstNode) (n : ℕ) → length nodes ≤ n → map seen (drop n nodes) ≡ []
seen_end nodes n h = rw (drop_of_length-le nodes h) refl

pub numbered_rest : (nodes : List AstNode) (n : ℕ) (d : AstNode) → n < length nodes → numbered_from n (map seen (drop n nodes)) ≡ (n, seen (get_or nodes n d)) ∷ numbered_from (n + 1) (map seen (drop (n + 1) nodes))
numbered_rest nodes n d h = rw (seen_rest nodes n d h) refl

pub numbered_end : (nodes : List AstNode) (n : ℕ) → length nodes ≤ n → numbered_from n (map seen (drop n nodes)) ≡ []
numbered_end nodes n h = rw (seen_end nodes n h) refl

pub seen_length : (nodes : List AstNode) (n : ℕ) → length (map seen (drop n nodes)) ≡ length nodes - n
seen_length nodes n = length-map (drop n nodes) seen ∙ length-drop n nodes

length_numbered : (n : ℕ) (nodes : List SeenNode) → length (numbered_from n nodes) ≡ length nodes
length_numbered n [] = refl
length_numbered n (node ∷ nodes) = ap suc (length_numbered (n + 1) nodes)

pub numbered_length : (nodes : List AstNode) (n m : ℕ) → length (numbered_from m (map seen (drop n nodes))) ≡ length nodes - n
numbered_length nodes n m = length_numbered m (map seen (drop n nodes)) ∙ seen_length nodes n

-- of nodes of which one is replaced the same one is seen replaced
pub seen_set : (ns : List AstNode) (i : ℕ) (a : AstNode) → map seen (set ns i a) ≡ set (map seen ns) i (seen a)
seen_set ns i a = map-set seen ns i a
