use Rattle.semantic_tree.proofs.ShapedLaws.{IsShaped-no_fault}
use Rattle.walk_model.proofs.asking.Depths.{probes_within}
use Rattle.semantic.proofs.builder.attest_depths.Goals as goal

pub returns : goal.returns
returns c = probes_within c.args.program.now (IsShaped-no_fault c.args.program.now c.root.ensures.shaped)
