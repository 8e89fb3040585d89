use Rattle.std.proofs.Common.{rules}
use denote.Enum.Declared.{tag_of}
use Rattle.semantic_kinds.specs.contracts.kind.AstType.{the_type as the_kinds}
use Rattle.semantic_tree.proofs.KindCounting.{counted_at}
use Rattle.semantic_tree.proofs.kind_counts.KindCounts.add.Goals as goal

pub returns : goal.returns
returns c = record {
  added = λ k. counted_at c.args.self.now.counts (tag_of the_kinds c.args.kind) (tag_of the_kinds k) (search (rules, c.well_formed));
}
