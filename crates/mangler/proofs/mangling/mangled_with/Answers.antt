use Rattle.semantic_tree.proofs.ShapedLaws.{IsShaped-no_fault}
use Rattle.renamer.specs.Told.{told_by}
use Rattle.mangler.specs.Changing.{options_of}
use Rattle.mangle_names.specs.Marks.{is_number_marked}
use Rattle.mangler.proofs.Mangles.{some_by, identifiers_by, mangled_by}
use Rattle.mangler.proofs.SeenSets.{if_ok, if_some}
use Rattle.mangler.proofs.mangling.mangled_with.Goals as goal

pub renamed_by-requires-clause-some : goal.renamed_by-requires-clause-some
renamed_by-requires-clause-some c =
    some_by (is_number_marked c.args.may.now) c.args.program.now c.args.names.now (told_by c.args.analysed.now) c.requires.analysis (c.in_ok-given.ensures c.if-not-given.false)

pub renamed_by-requires-clause-identifiers : goal.renamed_by-requires-clause-identifiers
renamed_by-requires-clause-identifiers c =
    identifiers_by (is_number_marked c.args.may.now) c.args.program.now c.args.names.now (told_by c.args.analysed.now) c.requires.analysis (c.in_ok-given.ensures c.if-not-given.false)

pub returns : goal.returns
returns c =
    if_ok c.good_copy.result (λ found h. if_some found (λ q good.
    mangled_by (options_of c.args.options) c.args.program.now c.args.names.now (told_by c.args.analysed.now) (is_number_marked c.args.may.now) c.in_ok-made.made q (IsShaped-no_fault c.args.program.now c.root-root.ensures.shaped) c.root-root.ensures.numbered
    c.requires.analysis c.requires.may (c.in_ok-given.ensures c.if-not-given.false) c.in_ok-made.ensures good) h) c.good_copy.ensures
