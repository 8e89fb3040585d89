-- Children that get other names, one after the other.
use Rattle.std.proofs.Common.{◌≡◌, ℕ, ◌+◌, ◌<◌, ◌≤◌, List, Bool, Option, None, length, drop, get_or, refl, ap, sym, ◌∙◌}
use Rattle.semantic_kinds.specs.declared.role.Role.{Role}
use Rattle.semantic_syntax.specs.Tables.{Name}
use Rattle.semantic_tree.specs.Children.{forest_of, single, node_count}
use Rattle.semantic_tree.specs.Faults.{first_fault}
use Rattle.semantic_tree.specs.Forest.{Forest, nothing, tree, count, join}
use Rattle.semantic_tree.specs.Tree.{Tree, IsNumbered, numbered_tree}
use Rattle.semantic_tree.specs.declared.node.Node.{Node}
use Rattle.std.proofs.Math.ListN.{drop_of_length-le}
use Rattle.semantic_syntax.proofs.Truth.{drop_here}
use Rattle.semantic_tree.proofs.Forests.{join_assoc, join_nothing}
use Rattle.rename_model.specs.WithName.{with_name, with_name_in, AreIdentifiers}
use Rattle.mangle_model.specs.WithNames.{is_given, with_names, with_names_in, AreSomeNames}
use Rattle.mangle_model.proofs.NamesShape.{no_fault_made, numbers_kept}
use Rattle.renamer.specs.Renaming.{alone}

module _ (names : ℕ → Option Name) where
  -- a child with its name stands before those that are left
  pub names_turn : (done : Forest) (items : List (Role × Node)) (i : ℕ) (child : Role × Node) (copy : Node) → i < length items → child ≡ get_or items i child
      → copy ≡ record (alone names child.1) { children = with_names names child.1.children }
      → join (join done (single child.0 copy)) (with_names names (forest_of (drop (i + 1) items))) ≡ join done (with_names names (forest_of (drop i items)))
  names_turn done items i child copy h e made =
      join_assoc done (single child.0 copy) (with_names names (forest_of (drop (i + 1) items)))
      ∙ ap (λ node. join done (join (single child.0 node) (with_names names (forest_of (drop (i + 1) items))))) made
      ∙ ap (λ xs. join done (with_names names (forest_of xs))) (sym (drop_here items i child h e))

  -- at the end nothing is left
  pub names_end : (done : Forest) (items : List (Role × Node)) (i : ℕ) → length items ≤ i → join done (with_names names (forest_of (drop i items))) ≡ done
  names_end done items i h = ap (λ xs. join done (with_names names (forest_of xs))) (drop_of_length-le items h) ∙ join_nothing done

  -- a program whose numbers are given anew is the one that it was
  pub numbered_again : (p : Tree) → IsNumbered p.root → (q : Tree) → q.source ≡ p.source → q.source_type ≡ p.source_type → q.comments ≡ p.comments → q.root ≡ record p.root { children = with_names names p.root.children; node_id = 0 }
      → numbered_tree q ≡ with_names_in names p
  numbered_again p h q source source_type comments root =
      (λ i. numbered_tree (record { source = source i; source_type = source_type i; comments = comments i; root = root i }))
      ∙ ap (λ (r : Node). record p { root = r }) (numbers_kept names p h)

  pub no_fault_again : (p : Tree) → IsNumbered p.root → first_fault p ≡ None → AreSomeNames names → AreIdentifiers (is_given names) p.root.children → (q : Tree) → q.source ≡ p.source → q.source_type ≡ p.source_type → q.comments ≡ p.comments → q.root ≡ record p.root { children = with_names names p.root.children; node_id = 0 }
      → first_fault (numbered_tree q) ≡ None
  no_fault_again p h none some all q source source_type comments root = ap first_fault (numbered_again p h q source source_type comments root) ∙ no_fault_made names some p all none

count-named : (chosen : ℕ → Bool) (name : Name) (f : Forest) → count (with_name chosen name f) ≡ count f
count-named chosen name nothing = refl
count-named chosen name (tree r k span text marks below id after) = λ i. count-named chosen name below i + count-named chosen name after i + 1

-- a renamed program has as many nodes
pub as_many : (chosen : ℕ → Bool) (name : Name) (p : Tree) → node_count (with_name_in chosen name p).root ≡ node_count p.root
as_many chosen name p = ap (λ n. n + 1) (count-named chosen name p.root.children)
