-- Free references to names that nobody declares.
use Rattle.std.specs.Prelude.{ℕ, ◌+◌, List, [], ◌∷◌, Bool, not, ◌&&◌, Option, Some, None, cond, is_none, map, filter_map, bytes_eq}
use Rattle.semantic_kinds.specs.declared.kind.AstType.TheVariants as kind
use Rattle.semantic_syntax.specs.declared.spans.Span.{Span}
use Rattle.std.specs.List.{list_any}
use Rattle.semantic_syntax.specs.declared.references.Reference.{Reference}
use Rattle.semantic_syntax.specs.declared.scope_flags.TheConstants.ScopeFlags as scope
use Rattle.semantic_syntax.specs.Sets.{meets}
use Rattle.semantic_syntax.specs.Tables.{Name, Tables}
use Rattle.semantic_syntax.specs.Reading.{scope_flags, chain}
use Rattle.semantic_tree.specs.Tree.{Tree}
use Rattle.semantic_syntax.specs.Lookup.{is_arguments}
use Rattle.semantic_model.specs.Reference.{references}
use Rattle.semantic_tree.specs.Views.{is}
use Rattle.semantic_model.specs.Step.{Step, entering, steps}
use Rattle.semantic_model.specs.TablesOf.{tables_by}

-- the scope of a function that has arguments of its own
abbrev pub has_arguments : Tables → ℕ → Bool
has_arguments t c = meets (scope_flags t c) scope.Function.bits && not (meets (scope_flags t c) scope.Arrow.bits)

-- one of the scopes from this one outward is such a function's
abbrev pub is_in_function : Tables → ℕ → Bool
is_in_function t c = list_any (has_arguments t) (chain t.scopes c)

-- the reference means the arguments of a function around it
abbrev pub means_arguments : Tables → Name → Reference → Bool
means_arguments t name r = is_arguments name r.flags.bits && is_in_function t r.scope_id

-- the name is among the known ones
abbrev pub is_known : List Name → Name → Bool
is_known known name = list_any (λ k. bytes_eq name k) known

-- the reference is free, its name isn't known, and it means no arguments
abbrev pub is_undeclared : List Name → Tables → Name → Reference → Bool
is_undeclared known t name r = is_none r.symbol_id && not (is_known known name) && not (means_arguments t name r)

-- the numbers of such references, of those that are numbered from n on
abbrev pub undeclared_from : List Name → Tables → ℕ → List Name → List Reference → List ℕ
undeclared_from known t n (name ∷ names) (r ∷ rs) = cond (is_undeclared known t name r) (n ∷ undeclared_from known t (n + 1) names rs) (undeclared_from known t (n + 1) names rs)
undeclared_from known t n _ _ = []

-- the names of the references, in order
abbrev pub reference_names : List Step → List Name
reference_names walk = map (λ o. o.name) (references walk)

abbrev pub span_at : Step → Option Span
span_at (entering p) = cond (is kind.IdentifierReference p.node) (Some p.node.span) None
span_at _ = None

-- the spans of their nodes, in order
abbrev pub reference_spans : List Step → List Span
reference_spans walk = filter_map span_at walk

abbrev pub undeclared_by : List Name → List Step → List ℕ
undeclared_by known walk = undeclared_from known (tables_by walk) 0 (reference_names walk) (tables_by walk).references

-- the references of the program to names that nobody declares, ascending
abbrev pub undeclared : List Name → Tree → List ℕ
undeclared known p = undeclared_by known (steps p)
