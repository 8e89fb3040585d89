-- A program has a scope for each node that opens one.
use Rattle.std.proofs.Common.{◌≡◌, ℕ, suc, List, [], ◌∷◌, length, filter_map, refl, ap, arith}
use Rattle.semantic_kinds.specs.declared.role.Role.TheVariants as role
use Rattle.semantic_tree.specs.Children.{single}
use Rattle.semantic_tree.specs.Tree.{Tree}
use Rattle.semantic_model.specs.Inside.{scopes_in}
use Rattle.semantic_model.specs.Step.{Step, entering, opening, header_ending, closing, leaving, root_place, steps}
use Rattle.semantic_model.specs.TablesOf.{opened_entry, tables_of, evals}
use Rattle.semantic_model.proofs.steps.Opened.{openings, opened_by_node}

opened : (calls : List (List ℕ)) (ss : List Step) → length (filter_map (opened_entry calls) ss) ≡ openings ss
opened calls [] = refl
opened calls (opening p s ∷ ss) = ap suc (opened calls ss)
opened calls (entering p ∷ ss) = opened calls ss
opened calls (header_ending p s ∷ ss) = opened calls ss
opened calls (closing p s ∷ ss) = opened calls ss
opened calls (leaving p ∷ ss) = opened calls ss

pub scopes_counted : (p : Tree) → length (tables_of p).scopes ≡ scopes_in (single role.Root p.root)
scopes_counted p = omega (arith, opened (evals (steps p)) (steps p), opened_by_node (root_place p) 0)
