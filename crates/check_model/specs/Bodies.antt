-- Rows on functions that stand as bodies, and on `with`.
use Rattle.std.specs.Prelude.{List, [], ◌∷◌, Bool, true, ◌&&◌, ◌||◌, not, if◌then◌else◌, codes}
use Rattle.std.specs.List.{find}
use Rattle.semantic_kinds.specs.declared.kind.AstType.{AstType}
use Rattle.semantic_tree.specs.declared.node.Node.{Node}
use Rattle.semantic_tree.specs.KindGroups.{is_loop}
use Rattle.semantic_tree.specs.Views.{is, has_text}
use Rattle.semantic_diagnostics.specs.declared.diagnostic.Diagnostic.{Diagnostic}
use Rattle.semantic_diagnostics.specs.Statements.{function_declaration_strict, function_declaration_non_strict, with_statement}
use Rattle.check_model.specs.Sight.{Sight}
use Rattle.check_model.specs.Search.{row_if, rows_if, passes}
use Rattle.check_model.specs.Surroundings.{is_strict, is_typescript, is_under, first_bytes}
use Rattle.semantic_kinds.specs.declared.kind.AstType.TheVariants as kinds

-- a function that is declared
abbrev pub is_declared_function : Node → Bool
is_declared_function node = is kinds.Function node && (has_text (codes "declaration") node || has_text (codes "ts-declare") node)

-- a declared function is no body of a statement, except under `if` in sloppy code (ECMAScript 14.6, 14.7, Annex B.3.3)
abbrev pub check_function_declaration : Node → Bool → Sight → List Diagnostic
check_function_declaration body under_if s =
    rows_if (is_declared_function body)
    (if is_strict s then function_declaration_strict body.span ∷ []
    else row_if (not under_if) (function_declaration_non_strict body.span))

-- a statement with a body that is no block of its own
abbrev pub has_single_body : AstType → Bool
has_single_body kinds.WithStatement = true
has_single_body kinds.IfStatement = true
has_single_body kind = is_loop kind

-- outside its labels the statement is the body of a loop, a `with` or an `if`
abbrev pub is_single_body : Sight → Bool
is_single_body s = passes (λ node. has_single_body node.kind) (find (λ node. not (is kinds.LabeledStatement node)) s.path)

-- a declared function has a label only in sloppy code, and not as a body of a statement (ECMAScript 14.13.1, Annex B.3.1)
abbrev pub check_function_declaration_in_labeled_statement : Node → Sight → List Diagnostic
check_function_declaration_in_labeled_statement body s =
    rows_if (is_declared_function body)
    (if is_strict s then function_declaration_strict body.span ∷ []
    else row_if (is_single_body s) (function_declaration_non_strict body.span))

-- neither strict code nor TypeScript has `with` (ECMAScript 14.11.1, TypeScript 2410)
abbrev pub check_with_statement : Sight → List Diagnostic
check_with_statement s = row_if (is_strict s || is_typescript s) (with_statement (first_bytes 4 s.node.span))

-- a function that is declared as a branch of an `if` in sloppy code
abbrev pub is_function_decl_part_of_if_statement : Sight → Bool
is_function_decl_part_of_if_statement s = is_declared_function s.node && (not (is_strict s) && is_under kinds.IfStatement s)
