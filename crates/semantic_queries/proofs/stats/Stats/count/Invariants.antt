use Rattle.std.proofs.Common.{◌≡◌, ◌+◌, drop}
use Rattle.semantic_kinds.specs.Kinds.{all_kinds}
use Rattle.semantic_kinds.specs.declared.role.Role.TheVariants as role
use Rattle.semantic_tree.specs.Children.{single, node_count}
use Rattle.semantic_tree.specs.KindCounts.{among_kinds}
use Rattle.semantic_model.specs.Inside.{opens}
use Rattle.walk_model.specs.Counted.{declares_symbol, is_reference}
use Rattle.semantic_queries.proofs.stats.Stats.count.Given as goal

-- what is counted and what is left come to the whole
abbrev pub invariant-loop-kind : goal.invariant-loop-kind
invariant-loop-kind l =
    let f = single role.Root l.p.root in
    let left = drop l.kind-index l.kind-items in
    record {
      items : l.kind-items ≡ all_kinds;
      nodes : l.stats.nodes ≡ node_count l.p.root;
      scopes : l.stats.scopes + among_kinds opens f left ≡ among_kinds opens f all_kinds;
      symbols : l.stats.symbols + among_kinds declares_symbol f left ≡ among_kinds declares_symbol f all_kinds;
      references : l.stats.references + among_kinds is_reference f left ≡ among_kinds is_reference f all_kinds;
    }
