-- Rows on jumps and labels.
use Rattle.std.specs.Prelude.{List, [], ◌∷◌, Bool, Option, Some, None, ◌&&◌, ◌||◌, not, if◌then◌else◌, codes}
use Rattle.std.specs.List.{find}
use Rattle.semantic_syntax.specs.declared.spans.Span.{Span}
use Rattle.semantic_tree.specs.declared.node.Node.{Node}
use Rattle.semantic_tree.specs.KindGroups.{is_loop}
use Rattle.check_model.specs.Groups.{is_jump_boundary, under_labels}
use Rattle.semantic_tree.specs.Views.{is, has_text, child_of, whose}
use Rattle.semantic_diagnostics.specs.declared.diagnostic.Diagnostic.{Diagnostic}
use Rattle.semantic_diagnostics.specs.Statements.{invalid_break, invalid_continue, invalid_label_jump_target, invalid_label_target, invalid_label_non_iteration, label_redeclaration}
use Rattle.check_model.specs.Sight.{Sight}
use Rattle.check_model.specs.Search.{row_if, rows_of_some, find_before}
use Rattle.semantic_kinds.specs.declared.kind.AstType.TheVariants as kinds
use Rattle.semantic_kinds.specs.declared.role.Role.TheVariants as roles

-- no jump leaves a function or a static block
abbrev pub stops_jumps : Node → Bool
stops_jumps node = is_jump_boundary node.kind

-- the search for a target ends here
abbrev pub ends_jump_search : Node → Bool
ends_jump_search node = stops_jumps node || is kinds.Program node

-- the target of a `continue`
abbrev pub is_loop_node : Node → Bool
is_loop_node node = is_loop node.kind

-- the target of a `break`
abbrev pub is_loop_or_switch : Node → Bool
is_loop_or_switch node = is_loop node.kind || is kinds.SwitchStatement node

-- the statement has a label of this text
abbrev pub is_labelled_by : Node → Node → Bool
is_labelled_by label node = is kinds.LabeledStatement node && whose roles.Label (has_text label.text) node

-- a jump without label needs a target around it
abbrev pub unlabelled_rows : (Node → Bool) → Diagnostic → List Node → List Diagnostic
unlabelled_rows is_target refusal path = rows_of_some (λ met. row_if (not (is_target met)) refusal) (find (λ node. ends_jump_search node || is_target node) path)

-- what the label's statement comes to as a target, from its own label to the jump's
abbrev pub continue_rows : Node → Node → List Diagnostic
continue_rows label target =
    if is_loop_node (under_labels target) then []
    else rows_of_some (λ own. invalid_label_non_iteration (codes "continue") own.span label.span ∷ []) (child_of roles.Label target)

-- a jump with a label needs a statement of that label around it, in the same function
abbrev pub met_rows : (Node → List Diagnostic) → Node → Node → List Diagnostic
met_rows target_rows label met =
    if stops_jumps met then invalid_label_jump_target label.span ∷ []
    else (if is kinds.Program met then invalid_label_target label.span ∷ [] else target_rows met)

-- what the search for the label meets first
abbrev pub labelled_rows : (Node → List Diagnostic) → Node → List Node → List Diagnostic
labelled_rows target_rows label path = rows_of_some (met_rows target_rows label) (find (λ node. ends_jump_search node || is_labelled_by label node) path)

-- a `break` without label, or with one
abbrev pub break_rows : Option Node → Span → List Node → List Diagnostic
break_rows None span path = unlabelled_rows is_loop_or_switch (invalid_break span) path
break_rows (Some label) span path = labelled_rows (λ target. []) label path

-- a `break` has a target in its function (ECMAScript 14.9.1, ContainsUndefinedBreakTarget)
abbrev pub check_break_statement : Sight → List Diagnostic
check_break_statement s = break_rows (child_of roles.Label s.node) s.node.span s.path

-- a `continue` without label, or with one
abbrev pub continue_rows_by : Option Node → Span → List Node → List Diagnostic
continue_rows_by None span path = unlabelled_rows is_loop_node (invalid_continue span) path
continue_rows_by (Some label) span path = labelled_rows (continue_rows label) label path

-- a `continue` has a loop as its target in its function (ECMAScript 14.8.1, ContainsUndefinedContinueTarget)
abbrev pub check_continue_statement : Sight → List Diagnostic
check_continue_statement s = continue_rows_by (child_of roles.Label s.node) s.node.span s.path

-- the statement around the node in the same function that has the label too
abbrev pub same_label_around : Node → List Node → Option Node
same_label_around label path = find_before stops_jumps (is_labelled_by label) path

-- labels inside each other are different
abbrev pub own_label_rows : List Node → Node → List Diagnostic
own_label_rows path label =
    rows_of_some (λ outer. rows_of_some (λ first. label_redeclaration label.text first.span label.span ∷ []) (child_of roles.Label outer)) (same_label_around label path)

-- a label is new in its function, inside the labels around it (ECMAScript 14.13.1, ContainsDuplicateLabels)
abbrev pub check_labeled_statement : Sight → List Diagnostic
check_labeled_statement s = rows_of_some (own_label_rows s.path) (child_of roles.Label s.node)
