use Rattle.semantic_tree.proofs.ShapedLaws.{IsShaped-no_fault}
use Rattle.mangler.specs.Changing.{options_of}
use Rattle.mangler.proofs.ShortManglings.{simple_names}
use Rattle.mangler.proofs.mangling.shorter_or_itself.Goals as goal

pub returns-in-Ok-true : goal.returns-in-Ok-true
returns-in-Ok-true c =
    simple_names (options_of c.args.options) c.args.program.now (IsShaped-no_fault c.args.program.now c.root-root.ensures.shaped) c.root-root.ensures.numbered (record { program = c.args.made; names = c.args.names }) c.in-Ok-true.field-0
    c.requires.names c.requires.made c.in-Ok-true.ensures c.in-Ok-true.field-0-test
