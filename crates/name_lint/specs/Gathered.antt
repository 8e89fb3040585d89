-- What one pass over a tree gathers: the names, spans and owners of its references.
use Rattle.std.specs.Prelude.{◌≡◌, ℕ, List, [], ◌∷◌, ◌++◌, Option, Some, None, cond, nat_eq}
use Rattle.std.specs.Map.{lookup}
use Rattle.semantic_kinds.specs.declared.kind.AstType.TheVariants as kind
use Rattle.semantic_syntax.specs.Tables.{Name}
use Rattle.semantic_syntax.specs.declared.spans.Span.{Span}
use Rattle.semantic_tree.specs.Forest.{Forest, nothing, tree}
use Rattle.semantic_tree.specs.declared.node.Node.{Node}
use Rattle.semantic_tree.specs.declared.view.AstKind.{AstKind}
use Rattle.semantic_tree.specs.Shaped.{IsShaped}
use Rattle.semantic_tree.specs.Tree.{Tree}
use Rattle.semantic_syntax.specs.NodeEntries.{NodeEntries}
use Rattle.semantic_tree.specs.Views.{is}
use Rattle.semantic_model.specs.Step.{Step, steps}
use Rattle.semantic_model.specs.Analysis.{Analysis, analysis_of}
use Rattle.name_lint.specs.Uses.{declared_name, owners}
use Rattle.name_lint.specs.Undeclared.{reference_names, reference_spans}

pub record Gathered : Type 0 where
  pub names : List Name
  pub spans : List Span
  pub owners : List (Option ℕ)

abbrev pub nothing_gathered : Gathered
nothing_gathered = record { names = []; spans = []; owners = [] }

-- the symbol that the node declares, by what belongs to nodes
abbrev pub symbol_at_node : NodeEntries → ℕ → Option ℕ
symbol_at_node nodes node = lookup (nat_eq node) nodes.symbols

abbrev pub symbol_or : (ℕ → Option ℕ) → Option ℕ → Option Node → Option ℕ
symbol_or symbol owner None = owner
symbol_or symbol owner (Some id) = symbol id.node_id

-- the owner of what stands in the node, which stands in an owner itself
abbrev pub owner_inside : (ℕ → Option ℕ) → Option ℕ → Node → Option ℕ
owner_inside symbol owner node = symbol_or symbol owner (declared_name node)

-- what a view shows of the name and the place of a reference
abbrev pub text_of : AstKind → Name
text_of k = k.node.now.text

abbrev pub span_of : AstKind → Span
span_of k = k.node.now.span

-- what is gathered at the node, which stands in the owner: it may be a reference
abbrev pub gathered_at : Option ℕ → Node → Gathered → Gathered
gathered_at owner node g =
    cond (is kind.IdentifierReference node) (record { names = g.names ++ node.text ∷ []; spans = g.spans ++ node.span ∷ []; owners = g.owners ++ owner ∷ [] }) g

-- what is gathered from a forest, whose trees stand in the owner
abbrev pub gathered_below : (ℕ → Option ℕ) → Option ℕ → Forest → Gathered → Gathered
gathered_below symbol owner nothing g = g
gathered_below symbol owner (tree r k span text marks below id after) g =
    let node : Node = record { kind = k; span = span; text = text; marks = marks; children = below; node_id = id } in
    gathered_below symbol owner after (gathered_below symbol (owner_inside symbol owner node) below (gathered_at owner node g))

-- what is gathered from the node and all below it
abbrev pub gathered_from : (ℕ → Option ℕ) → Option ℕ → Node → Gathered → Gathered
gathered_from symbol owner node g = gathered_below symbol (owner_inside symbol owner node) node.children (gathered_at owner node g)

-- what the definitions take from a walk
abbrev pub gathered_by : Analysis → List Step → Gathered
gathered_by a walk = record { names = reference_names walk; spans = reference_spans walk; owners = owners a walk }

-- that was gathered from the program, which is shaped
pub record HasGathered (p : Tree) (g : Gathered) : Type 0 where
  pub gathered : g ≡ gathered_by (analysis_of p) (steps p)
  pub shaped : IsShaped p
