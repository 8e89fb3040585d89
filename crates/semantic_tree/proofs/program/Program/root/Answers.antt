use Rattle.std.proofs.Common.{subst}
use Rattle.semantic_tree.specs.Tree.{Tree}
use Rattle.semantic_tree.specs.Shaped.{IsShaped}
use Rattle.semantic_tree.proofs.ShapedLaws.{no_fault-IsShaped}
use Rattle.semantic_tree.proofs.program.Program.root.Goals as goal

pub returns-clause-shaped : goal.returns-clause-shaped
returns-clause-shaped c =
    let p : Tree = record { source = c.self.inside.source; source_type = c.self.inside.source_type; comments = c.self.inside.comments.items; root = c.self.inside.root } in
    subst IsShaped c.self.view_is (no_fault-IsShaped p c.self.invariant.1)
