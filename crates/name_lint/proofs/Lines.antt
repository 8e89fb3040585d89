-- The lines that are written are those of the definitions.
use Rattle.std.proofs.Common.{◌≡◌, ◌<◌, ℕ, List, [], codes, length, map, get_or, sym, ap, ◌∙◌}
use Rattle.std.proofs.lemmas.List.{get_or-map}
use Rattle.std.specs.Str.{encode_utf8_all}
use Rattle.semantic_syntax.specs.declared.spans.Span.{Span}
use Rattle.semantic_syntax.specs.Tables.{Name, Tables}
use Rattle.semantic_tree.specs.Tree.{Tree}
use Rattle.semantic_tree.specs.declared.view.AstKind.{AstKind}
use Rattle.semantic_model.specs.Step.{steps}
use Rattle.semantic_model.specs.TablesOf.{tables_of}
use Rattle.name_lint.specs.Gathered.{text_of, span_of}
use Rattle.name_lint.specs.Undeclared.{reference_names, reference_spans}
use Rattle.name_lint.specs.Lines.{name_line, no_span, undeclared_line, name_lines, finding_lines}

-- the line of a reference, by its node
pub reference_told : (nodes : List AstKind) (reference number place : ℕ) (node : AstKind) (name : List ℕ) (span : Span) → number ≡ reference → place ≡ reference → reference < length nodes → node ≡ get_or nodes place node → name ≡ encode_utf8_all (text_of node)
    → span ≡ span_of node → name_line (codes "undeclared ") number name span ≡ undeclared_line (map text_of nodes) (map span_of nodes) reference
reference_told nodes reference number place node name span numbered placed inside is named spanned =
    let same : node ≡ get_or nodes reference node = is ∙ ap (λ i. get_or nodes i node) placed in
    ap (λ n. name_line (codes "undeclared ") n name span) numbered
    ∙ ap (λ n. name_line (codes "undeclared ") reference n span) (named ∙ ap (λ k. encode_utf8_all (text_of k)) same ∙ ap encode_utf8_all (sym (get_or-map text_of nodes reference node [] inside)))
    ∙ ap (λ s. name_line (codes "undeclared ") reference (encode_utf8_all (get_or (map text_of nodes) reference [])) s) (spanned ∙ ap span_of same ∙ sym (get_or-map span_of nodes reference node no_span inside))

-- the lines of a program, by its tables and by what is known of its references
pub lines_told : (p : Tree) (t : Tables) (names : List Name) (spans : List Span) (unused found undeclared : List ℕ) → t ≡ tables_of p → names ≡ reference_names (steps p) → spans ≡ reference_spans (steps p) → found ≡ undeclared
    → name_lines t names spans unused found ≡ finding_lines p unused undeclared
lines_told p t names spans unused found undeclared is_tables are_names are_spans same =
    ap (λ (x : Tables). name_lines x names spans unused found) is_tables
    ∙ ap (λ (xs : List Name). name_lines (tables_of p) xs spans unused found) are_names
    ∙ ap (λ (xs : List Span). name_lines (tables_of p) (reference_names (steps p)) xs unused found) are_spans
    ∙ ap (λ (xs : List ℕ). name_lines (tables_of p) (reference_names (steps p)) (reference_spans (steps p)) unused xs) same
