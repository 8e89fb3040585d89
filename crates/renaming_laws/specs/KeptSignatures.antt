-- Signatures whose parameters share names after a renaming where they did.
use Rattle.std.specs.Prelude.{ℕ, Bool, not, ◌&&◌, ◌||◌, bytes_eq}
use Rattle.std.specs.List.{list_any}
use Rattle.semantic_syntax.specs.Tables.{Name}
use Rattle.semantic_tree.specs.BoundNames.{bound_names}
use Rattle.semantic_tree.specs.declared.node.Node.{Node}
use Rattle.swapped_checks.specs.SwappedSight.{is_signature_list}

-- no signature has a chosen parameter beside another one of the old name or the new one
abbrev pub keeps_signature : (ℕ → Bool) → Name → Name → Node → Bool
keeps_signature chosen old new node =
    not (is_signature_list node && (list_any (λ x. chosen x.node_id) (bound_names node) && list_any (λ x. not (chosen x.node_id) && (bytes_eq x.text old || bytes_eq x.text new)) (bound_names node)))
