-- What analyses of programs found, and when their reports tell the same.
use Rattle.std.specs.Prelude.{◌≡◌, Bool, true, None, map}
use Rattle.semantic_tree.specs.Children.{node_count}
use Rattle.semantic_tree.specs.Faults.{first_fault}
use Rattle.semantic_tree.specs.Tree.{Tree, IsNumbered}
use Rattle.semantic_model.specs.Label.{unused_labels}
use Rattle.semantic_model.specs.TablesOf.{tables_of}
use Rattle.node_store.specs.NodeList.{NodeList, SeenNode}
use Rattle.check_model.specs.DiagnosticsOf.{diagnostics_of}
use Rattle.promise.specs.Kept.{kept_nodes, classes_noted}
use Rattle.report_answers.specs.Found.{Found}
use Rattle.report_answers.specs.declared.options.Options.{Options}

-- what an analysis of a numbered program without a fault found; it told early errors, noted classes and kept nodes, or didn't
pub record IsFoundIn (p : Tree) (found : Found) : Type 0 where
  pub faultless : first_fault p ≡ None
  pub numbered : IsNumbered p.root
  pub checks : Bool
  pub notes : Bool
  pub keeps : Bool
  pub nodes : found.nodes ≡ kept_nodes keeps p
  pub tables : found.tables ≡ tables_of p
  pub classes : found.classes ≡ classes_noted notes p
  pub labels : found.labels ≡ unused_labels p.root
  pub count : found.count ≡ node_count p.root
  pub diagnostics : found.diagnostics ≡ diagnostics_of checks p

-- as many nodes, of the same kinds, with the same parents, in the same scopes
pub record HaveSameNodes (a b : NodeList) : Type 0 where
  pub kinds : map (λ (s : SeenNode). s.node.kind) a.nodes ≡ map (λ (s : SeenNode). s.node.kind) b.nodes
  pub scopes : map (λ (s : SeenNode). s.scope) a.nodes ≡ map (λ (s : SeenNode). s.scope) b.nodes
  pub parents : a.parents ≡ b.parents

-- the same tables, unused labels and diagnostics, and what both reports are asked for besides
pub record TellTheSame (o q : Options) (a b : Found) : Type 0 where
  pub tables : a.tables ≡ b.tables
  pub labels : a.labels ≡ b.labels
  pub diagnostics : a.diagnostics ≡ b.diagnostics
  pub nodes : o.nodes ≡ true → q.nodes ≡ true → HaveSameNodes a.nodes b.nodes
  pub classes : o.classes ≡ true → q.classes ≡ true → a.classes ≡ b.classes
  pub count : o.stats ≡ true → q.stats ≡ true → a.count ≡ b.count
