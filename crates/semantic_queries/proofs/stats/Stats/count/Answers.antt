use Rattle.std.proofs.Common.{◌<◌, ◌^◌, List, ◌∙◌, arith}
use Rattle.semantic_kinds.specs.declared.kind.AstType.{AstType}
use Rattle.semantic_kinds.specs.declared.kind.AstType.TheVariants as kind
use Rattle.semantic_kinds.specs.declared.role.Role.TheVariants as role
use Rattle.semantic_tree.specs.Children.{single}
use Rattle.semantic_tree.specs.Forest.{Forest, count}
use Rattle.semantic_tree.proofs.ShapedLaws.{IsShaped-no_fault}
use Rattle.semantic_model.specs.Inside.{opens}
use Rattle.walk_model.specs.Counted.{declares_symbol, is_reference}
use Rattle.semantic_queries.proofs.Counting.{kind_fits, kinds_added, openers}
use Rattle.semantic_queries.proofs.Sizes.{tables_of_size}
use Rattle.semantic_queries.proofs.stats.Stats.count.Goals as goal

pub add_kind-requires-clause-scopes : goal.add_kind-requires-clause-scopes
add_kind-requires-clause-scopes c =
    let f : Forest = single role.Root c.args.p.now.root in
    let small : count f < 2 ^ 32 = omega (arith, c.node_count.type_inv, c.node_count.ensures) in
    kind_fits opens f c.all-kind-items.result.now c.loop-kind.kind-index kind.Program c.loop-kind.stats.scopes c.count_of.result small c.loop-kind-test.true c.count_of.ensures c.loop-kind.invariant.scopes

pub add_kind-requires-clause-symbols : goal.add_kind-requires-clause-symbols
add_kind-requires-clause-symbols c =
    let f : Forest = single role.Root c.args.p.now.root in
    let small : count f < 2 ^ 32 = omega (arith, c.node_count.type_inv, c.node_count.ensures) in
    kind_fits declares_symbol f c.all-kind-items.result.now c.loop-kind.kind-index kind.Program c.loop-kind.stats.symbols c.count_of.result small c.loop-kind-test.true c.count_of.ensures c.loop-kind.invariant.symbols

pub add_kind-requires-clause-references : goal.add_kind-requires-clause-references
add_kind-requires-clause-references c =
    let f : Forest = single role.Root c.args.p.now.root in
    let small : count f < 2 ^ 32 = omega (arith, c.node_count.type_inv, c.node_count.ensures) in
    kind_fits is_reference f c.all-kind-items.result.now c.loop-kind.kind-index kind.Program c.loop-kind.stats.references c.count_of.result small c.loop-kind-test.true c.count_of.ensures c.loop-kind.invariant.references

pub returns-clause-nodes : goal.returns-clause-nodes
returns-clause-nodes c =
    let f : Forest = single role.Root c.args.p.now.root in
    let kinds : List AstType = c.all-kind-items.result.now in
    let all = c.loop-kind.invariant in
    record {
      nodes = omega (arith, all.nodes);
      scopes = kinds_added opens f kinds c.loop-kind.kind-index c.loop-kind.stats.scopes c.loop-kind-test.false all.scopes ∙ openers f;
      symbols = kinds_added declares_symbol f kinds c.loop-kind.kind-index c.loop-kind.stats.symbols c.loop-kind-test.false all.symbols;
      references = kinds_added is_reference f kinds c.loop-kind.kind-index c.loop-kind.stats.references c.loop-kind-test.false all.references;
    }

pub returns-clause-tables : goal.returns-clause-tables
returns-clause-tables c = tables_of_size c.args.p.now (IsShaped-no_fault c.args.p.now c.root.ensures.shaped) c.root.ensures.numbered c.loop-kind.stats (returns-clause-nodes c)
