use Rattle.semantic_tree.proofs.ShapedLaws.{IsShaped-no_fault}
use Rattle.renamer.specs.Told.{told_by}
use Rattle.mangle_names.specs.Marks.{is_number_marked}
use Rattle.mangler.specs.Changing.{options_of}
use Rattle.mangler.proofs.ShortManglings.{each_by, each_some, each_identified, made_by}
use Rattle.mangler.proofs.mangling.simply_mangled.Goals as goal

pub renamed_by-requires-clause-some : goal.renamed_by-requires-clause-some
renamed_by-requires-clause-some c =
    let p = c.args.program.now in
    let o = options_of c.args.options in
    let faultless = IsShaped-no_fault p c.root-root.ensures.shaped in
    let each = each_by o p faultless c.root-root.ensures.numbered (is_number_marked c.args.may.now) (told_by c.args.analysed.now) c.in_ok-names.names c.requires.may c.requires.analysis c.in_ok-names.ensures in
    each_some o p faultless c.root-root.ensures.numbered c.in_ok-names.names each (told_by c.args.analysed.now) c.requires.analysis

pub renamed_by-requires-clause-identifiers : goal.renamed_by-requires-clause-identifiers
renamed_by-requires-clause-identifiers c =
    let p = c.args.program.now in
    let o = options_of c.args.options in
    let faultless = IsShaped-no_fault p c.root-root.ensures.shaped in
    let each = each_by o p faultless c.root-root.ensures.numbered (is_number_marked c.args.may.now) (told_by c.args.analysed.now) c.in_ok-names.names c.requires.may c.requires.analysis c.in_ok-names.ensures in
    each_identified o p faultless c.root-root.ensures.numbered c.in_ok-names.names each (told_by c.args.analysed.now) c.requires.analysis

pub shorter_or_itself-requires-clause-names : goal.shorter_or_itself-requires-clause-names
shorter_or_itself-requires-clause-names c =
    let p = c.args.program.now in
    let o = options_of c.args.options in
    each_by o p (IsShaped-no_fault p c.root-root.ensures.shaped) c.root-root.ensures.numbered (is_number_marked c.args.may.now) (told_by c.args.analysed.now) c.in_ok-names.names c.requires.may c.requires.analysis c.in_ok-names.ensures

pub shorter_or_itself-requires-clause-made : goal.shorter_or_itself-requires-clause-made
shorter_or_itself-requires-clause-made c = made_by c.args.program.now c.in_ok-names.names c.in_ok-made.made (told_by c.args.analysed.now) c.requires.analysis c.in_ok-made.ensures
