use Rattle.renamer.proofs.Outcomes.{built}
use Rattle.mangler.proofs.mangling.mangle_program.Goals as goal

pub mangle_analysed-result-requires : goal.mangle_analysed-result-requires
mangle_analysed-result-requires c =
    built c.args.p.now c.analysed_by.result c.in_ok-analysis.analysis.semantic.scoping c.in_ok-analysis.analysis.semantic.tables c.in_ok-analysis.analysis.diagnostics
    c.analysed_by.ensures.scoping c.analysed_by.ensures.tables c.in_ok-analysis.ensures.analysed.analysis c.in_ok-analysis.ensures.analysed.nodes
