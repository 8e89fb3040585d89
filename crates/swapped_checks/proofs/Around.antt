-- What stands around a node with other names.
use Rattle.std.proofs.Common.{◌≡◌, ℕ, List, Option, Some, None, Bool, false, ◌==◌, refl, ap, ◌∙◌, map, option_map}
use Rattle.std.specs.Prelude.{slice_get, nat_eq}
use Rattle.std.specs.List.{find}
use Rattle.std.specs.Map.{lookup}
use Rattle.std.specs.Option.{option_and_then}
use Rattle.std.proofs.lemmas.Option.{slice_get-map}
use Rattle.semantic_syntax.specs.Tables.{Symbol}
use Rattle.semantic_kinds.specs.Kinds.{same_kind}
use Rattle.semantic_kinds.specs.declared.kind.AstType.{AstType}
use Rattle.semantic_kinds.specs.declared.kind.AstType.TheVariants as kind
use Rattle.semantic_kinds.specs.declared.role.Role.{Role}
use Rattle.semantic_tree.specs.declared.node.Node.{Node}
use Rattle.semantic_tree.specs.declared.swap.Setting.{Setting}
use Rattle.semantic_model.specs.Swap.{renamed_symbol}
use Rattle.semantic_model.proofs.swapped.Alike.{is_name, may_name}
use Rattle.check_model.specs.Search.{first}
use Rattle.check_model.specs.Sight.{Sight, entries_in, symbol_entries}
use Rattle.check_model.specs.Surroundings.{nodes_outward, links, is_in_class, is_under, node_by_id, parent_passes}
use Rattle.swapped_checks.proofs.Changed.{Change, changed_node, IsChanged, changed_at}
use Rattle.swapped_checks.proofs.Pairwise.{Each, Both, OfPairs, Agree, any_each, find_each, first_each, passes_both, links_each}
use Rattle.swapped_checks.proofs.RenamedNodes.{kind_agrees, same_ids, plain_text}

-- a sight with other names
abbrev pub seen : Change → Sight → Setting → Role → List Node → Sight
seen f s st r path = record s { node = changed_node f st r s.node; path = path; symbols = map (renamed_symbol f.names) s.symbols }

module _ (f : Change) (s : Sight) (st : Setting) (r : Role) (path : List Node) (above : Each (IsChanged f) s.path path) where
  abbrev t : Sight
  t = seen f s st r path

  pub own : IsChanged f s.node t.node
  own = changed_at st r s.node

  pub own_text : (k : AstType) → is_name k ≡ false → may_name k ≡ false → s.node.kind ≡ k → t.node.text ≡ s.node.text
  own_text k h i e = plain_text f k h i s.node t.node own e

  pub links_both : Each (OfPairs (IsChanged f)) (links s) (links t)
  links_both = links_each (IsChanged f) (nodes_outward s) (nodes_outward t) (own, above)

  pub in_class : is_in_class t ≡ is_in_class s
  in_class = any_each (IsChanged f) (λ n. same_kind n.kind kind.Class) (λ n. same_kind n.kind kind.Class) (kind_agrees f (λ k. same_kind k kind.Class)) s.path path above

  pub parent_agrees : (test : Node → Bool) → Agree (IsChanged f) test test → parent_passes t test ≡ parent_passes s test
  parent_agrees test h = passes_both (IsChanged f) test test h (first s.path) (first path) (first_each (IsChanged f) s.path path above)

  pub under : (k : AstType) → is_under k t ≡ is_under k s
  under k = parent_agrees (λ n. same_kind n.kind k) (kind_agrees f (λ j. same_kind j k))

  pub nodes_both : (id : ℕ) → Both (IsChanged f) (node_by_id s id) (node_by_id t id)
  nodes_both id = find_each (IsChanged f) (λ n. n.node_id == id) (λ n. n.node_id == id) (λ x y e. λ i. same_ids f x y e i == id) (nodes_outward s) (nodes_outward t) (own, above)

  -- the first node on the path where a search by kinds stops
  pub found_both : (stops : AstType → Bool) → Both (IsChanged f) (find (λ n. stops n.kind) s.path) (find (λ n. stops n.kind) path)
  found_both stops = find_each (IsChanged f) (λ n. stops n.kind) (λ n. stops n.kind) (kind_agrees f stops) s.path path above

  entries_same : (o : Option Symbol) → entries_in (option_map (renamed_symbol f.names) o) ≡ entries_in o
  entries_same None = refl
  entries_same (Some y) = refl

  entries_by : (o : Option ℕ) → entries_in (option_and_then (slice_get t.symbols) o) ≡ entries_in (option_and_then (slice_get s.symbols) o)
  entries_by None = refl
  entries_by (Some n) = ap entries_in (slice_get-map (renamed_symbol f.names) s.symbols n) ∙ entries_same (slice_get s.symbols n)

  -- the declarations of an identifier's symbol
  pub declared_same : (a b : Node) → IsChanged f a b → symbol_entries t b ≡ symbol_entries s a
  declared_same a b e = ap (λ id. entries_in (option_and_then (slice_get t.symbols) (lookup (nat_eq id) s.declared))) (same_ids f a b e) ∙ entries_by (lookup (nat_eq a.node_id) s.declared)
