-- Blocks that are opened and closed.
use Rattle.std.proofs.Common.{◌≡◌, ℕ, zero, suc, ◌+◌, ◌-◌, ◌<◌, ◌≤◌, List, [], ◌∷◌, ◌++◌, true, false, Option, None, Some, is_some, option_map, map, reverse, length, get_or, take, refl, sym, ap, subst, ◌∙◌, arith}
use Rattle.std.proofs.lemmas.List.{reverse-append, take_more}
use Rattle.std.specs.List.{AllByRecursion}
use Rattle.std.specs.Map.{lookup}
use Rattle.std.specs.Str.{bytes_eq}
use Rattle.semantic_syntax.specs.Tables.{Name}
use Rattle.semantic_tree.specs.ChildIter.{shown}
use Rattle.semantic_tree.specs.declared.node.Node.{Node}
use Rattle.semantic_tree.specs.declared.view.AstKind.{AstKind}
use Rattle.semantic_model.specs.Namespace.{Item, first_declaring, target_of}
use Rattle.namespace_states.specs.declared.open_lists.OpenList.{OpenList}
use Rattle.namespace_states.specs.OpenBlocks.{node_of, statements_of, chain_of, HasNames}
use Rattle.namespace_states.proofs.Found.{found}

-- the last is the innermost
pub chain_push : (lists : List OpenList) (list : OpenList) → chain_of (lists ++ list ∷ []) ≡ statements_of list ∷ chain_of lists
chain_push lists list = ap (map statements_of) (reverse-append lists (list ∷ []))

pub named_push : (lists : List OpenList) (list : OpenList) → AllByRecursion HasNames lists → HasNames list → AllByRecursion HasNames (lists ++ list ∷ [])
named_push [] list h k = (k, tt)
named_push (x ∷ lists) list h k = (h.0, named_push lists list h.1 k)

pub named_front : (lists more : List OpenList) → AllByRecursion HasNames (lists ++ more) → AllByRecursion HasNames lists
named_front [] more h = tt
named_front (x ∷ lists) more h = (h.0, named_front lists more h.1)

pub named_last : (lists : List OpenList) (list : OpenList) → AllByRecursion HasNames (lists ++ list ∷ []) → HasNames list
named_last [] list h = h.0
named_last (x ∷ lists) list h = named_last lists list h.1

-- a name that the innermost list has
pub target_here : (name : Name) (lists : List OpenList) (list : OpenList) (x : Node) → HasNames list → lookup (bytes_eq name) list.names ≡ Some x
    → option_map node_of (target_of name (chain_of (lists ++ list ∷ []))) ≡ Some x
target_here name lists list x h e =
    let first : first_declaring name (statements_of list) ≡ Some x = sym (found name (statements_of list)) ∙ ap (lookup (bytes_eq name)) (sym h) ∙ e in
    ap (λ (ls : List (List Node)). option_map node_of (target_of name ls)) (chain_push lists list)
    ∙ ap (λ (o : Option Node). option_map node_of (elim o [ None ↦ target_of name (chain_of lists) | Some y ↦ Some (record { node = y; lists = statements_of list ∷ chain_of lists }) ])) first

-- or hasn't
pub target_outer : (name : Name) (lists : List OpenList) (list : OpenList) → HasNames list → lookup (bytes_eq name) list.names ≡ None
    → target_of name (chain_of (lists ++ list ∷ [])) ≡ target_of name (chain_of lists)
target_outer name lists list h e =
    let first : first_declaring name (statements_of list) ≡ None = sym (found name (statements_of list)) ∙ ap (lookup (bytes_eq name)) (sym h) ∙ e in
    ap (λ (ls : List (List Node)). target_of name ls) (chain_push lists list)
    ∙ ap (λ (o : Option Node). elim o [ None ↦ target_of name (chain_of lists) | Some y ↦ Some (record { node = y; lists = statements_of list ∷ chain_of lists }) ]) first

named_at : (lists : List OpenList) (i : ℕ) (d : OpenList) → AllByRecursion HasNames lists → i < length lists → HasNames (get_or lists i d)
named_at [] i d h w = absurd (omega arith)
named_at (x ∷ lists) zero d h w = h.0
named_at (x ∷ lists) (suc i) d h w = named_at lists i d h.1 (omega arith)

-- a step from inner to outer lists
module _ (name : Name) (lists : List OpenList) (n : ℕ) (list : OpenList) (some : 0 < n) (within : n ≤ length lists) (is : list ≡ get_or lists (n - 1) list) (h : AllByRecursion HasNames lists) where
  taken : take n lists ≡ take (n - 1) lists ++ list ∷ []
  taken =
      let next : n ≡ n - 1 + 1 = omega (arith, some) in
      ap (λ k. take k lists) next ∙ take_more lists (n - 1) list (omega (arith, some, within)) ∙ ap (λ (x : OpenList). take (n - 1) lists ++ x ∷ []) (sym is)

  named : HasNames list
  named = subst (λ (x : OpenList). HasNames x) (sym is) (named_at lists (n - 1) list h (omega (arith, some, within)))

  pub back_found : (o : Option AstKind) → option_map shown o ≡ lookup (bytes_eq name) list.names → is_some o ≡ true → option_map shown o ≡ option_map node_of (target_of name (chain_of (take n lists)))
  back_found None e t = cc
  back_found (Some x) e t = sym (ap (λ (ls : List OpenList). option_map node_of (target_of name (chain_of ls))) taken ∙ target_here name (take (n - 1) lists) list x.node.now named (sym e))

  pub back_missed : (o : Option AstKind) → option_map shown o ≡ lookup (bytes_eq name) list.names → is_some o ≡ false
      → option_map node_of (target_of name (chain_of (take (n - 1) lists))) ≡ option_map node_of (target_of name (chain_of (take n lists)))
  back_missed (Some x) e t = cc
  back_missed None e t =
      sym (ap (λ (ls : List OpenList). option_map node_of (target_of name (chain_of ls))) taken ∙ ap (option_map node_of) (target_outer name (take (n - 1) lists) list named (sym e)))

pub ruleset opened = (chain_push, named_push, named_front, named_last)
