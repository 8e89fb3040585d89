use Rattle.std.proofs.Common.{rules}
use denote.Enum.Declared.{tag_of}
use Rattle.semantic_kinds.specs.contracts.kind.AstType.{the_type as the_kinds}
use Rattle.node_store.proofs.KindBits.{set_at}
use Rattle.node_store.proofs.bitset.AstTypesBitset.set.Goals as goal

pub returns : goal.returns
returns c = λ k. set_at c.args.self.now.bits (tag_of the_kinds c.args.ty) (tag_of the_kinds k) (search (rules, c.well_formed))
