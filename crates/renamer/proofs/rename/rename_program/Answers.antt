use Rattle.std.specs.Str.{chars}
use Rattle.semantic_tree.proofs.ShapedLaws.{IsShaped-no_fault}
use Rattle.rename_model.proofs.Completeness.{never_differs}
use Rattle.renamer.proofs.Outcomes.{built, renaming_of, refused_for, never}
use Rattle.renamer.proofs.rename.rename_program.Goals as goal

pub rename_analysed-result-requires-clause-analysis : goal.rename_analysed-result-requires-clause-analysis
rename_analysed-result-requires-clause-analysis c =
    built c.args.p.now c.analysed_by.result c.in_ok-analysis.analysis.semantic.scoping c.in_ok-analysis.analysis.semantic.tables c.in_ok-analysis.analysis.diagnostics
    c.analysed_by.ensures.scoping c.analysed_by.ensures.tables c.in_ok-analysis.ensures.analysed.analysis c.in_ok-analysis.ensures.analysed.nodes

pub returns-clause-renamed : goal.returns-clause-renamed
returns-clause-renamed c = renaming_of c.args.p.now c.args.s (chars c.args.new.now) c.rename_analysed-result.result c.rename_analysed-result.ensures

pub returns-clause-refused : goal.returns-clause-refused
returns-clause-refused c = refused_for c.args.p.now c.args.s (chars c.args.new.now) c.root-root.ensures.numbered c.rename_analysed-result.result c.rename_analysed-result.ensures

pub returns-clause-complete : goal.returns-clause-complete
returns-clause-complete c = λ y there arguments eval alone unused.
    never c.args.p.now c.args.s (chars c.args.new.now)
    (λ node e. never_differs c.args.p.now (IsShaped-no_fault c.args.p.now c.root-root.ensures.shaped) c.root-root.ensures.numbered c.args.s y there (chars c.args.new.now) arguments eval alone unused node e)
    c.rename_analysed-result.result c.rename_analysed-result.ensures
