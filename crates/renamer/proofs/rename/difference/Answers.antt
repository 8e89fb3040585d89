use Rattle.std.proofs.Common.{◌≡◌, sym, ◌∙◌}
use Rattle.semantic_model.specs.Analysis.{analysis_of}
use Rattle.rename_model.specs.Same.{first_difference}
use Rattle.renamer.specs.Told.{told_by}
use Rattle.renamer.proofs.Outcomes.{built}
use Rattle.renamer.proofs.rename.difference.Goals as goal

pub returns : goal.returns
returns c =
    let told : told_by c.analysed_by.result ≡ analysis_of c.args.made.now =
    built c.args.made.now c.analysed_by.result c.in_ok-analysis.analysis.semantic.scoping c.in_ok-analysis.analysis.semantic.tables c.in_ok-analysis.analysis.diagnostics
    c.analysed_by.ensures.scoping c.analysed_by.ensures.tables c.in_ok-analysis.ensures.analysed.analysis c.in_ok-analysis.ensures.analysed.nodes in
    sym (c.first_difference-found.ensures ∙ (λ i. first_difference (told_by c.args.analysed.now) (told i) 0 (c.node_count.ensures i)))
