use Rattle.semantic_tree.proofs.ShapedLaws.{IsShaped-no_fault}
use Rattle.renamer.specs.Told.{told_by}
use Rattle.mangler.specs.Changing.{options_of}
use Rattle.mangler.proofs.Mangles.{no_names_some, no_names_identified, itself_by}
use Rattle.mangler.proofs.mangling.itself.Goals as goal

pub renamed_by-requires-clause-some : goal.renamed_by-requires-clause-some
renamed_by-requires-clause-some c = no_names_some (told_by c.args.analysed.now) c.new-names.result c.new-names.ensures

pub renamed_by-requires-clause-identifiers : goal.renamed_by-requires-clause-identifiers
renamed_by-requires-clause-identifiers c = no_names_identified (told_by c.args.analysed.now) c.new-names.result c.new-names.ensures c.args.program.now.root.children

pub returns-clause-mangled : goal.returns-clause-mangled
returns-clause-mangled c =
    itself_by (options_of c.args.options) c.args.program.now c.new-names.result (told_by c.args.analysed.now) c.in_ok-copy.copy (IsShaped-no_fault c.args.program.now c.root-root.ensures.shaped) c.root-root.ensures.numbered c.requires c.new-names.ensures c.in_ok-copy.ensures
