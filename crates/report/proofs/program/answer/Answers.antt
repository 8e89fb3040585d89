use Rattle.std.proofs.Common.{Bool, ◌||◌, refl, ap, subst, ◌∙◌}
use Rattle.semantic_tree.specs.Children.{node_count}
use Rattle.semantic_tree.specs.Tree.{Tree}
use Rattle.promise.specs.Analysis.{IsAnalysis}
use Rattle.promise.specs.Kept.{kept_nodes, classes_noted}
use Rattle.program_ends.specs.FindingEnds.{end_of}
use Rattle.report_answers.specs.Codes.{status_for}
use Rattle.report_answers.specs.Found.{found_in}
use Rattle.report_answers.specs.Report.{options_of, answer_text}
use Rattle.program_ends.proofs.Answering.{gives_none, gives}
use Rattle.report.proofs.Texts.{text_same}
use Rattle.report.specs.Meaning.{Answers}
use Rattle.report.proofs.program.answer.Goals as goal

pub returns-in_err-ret : goal.returns-in_err-ret
returns-in_err-ret g c = gives_none g.K.Sink.held g.K.Sink.faults end_of (Answers c.args.request) c.args.program.now c.args.out.now c.from_residual.result c.from_residual.ensures.1

pub returns : goal.returns
returns g c =
    gives g.K.Sink.held g.K.Sink.faults end_of (Answers c.args.request) c.args.program.now _ _ (answer_text c.args.request (found_in c.in_ok-ret.ret)) (status_for c.in_ok-ret.ret.diagnostics) c.finish_answer-answered.result
    (record {
      tables = c.in_ok-ret.ret.semantic.scoping;
      diagnostics = c.in_ok-ret.ret.diagnostics;
      built = subst (λ (checks : Bool). IsAnalysis checks c.args.program.now c.in_ok-ret.ret.semantic.scoping c.in_ok-ret.ret.diagnostics) c.settings.ensures.check c.in_ok-ret.ensures.analysed.analysis;
      told = text_same (options_of c.args.request) _ _ _ _ _ _ c.args.program.now c.args.request.make c.args.request.check
          (c.in_ok-ret.ensures.analysed.node_list ∙ ap (λ (asked : Bool). kept_nodes asked c.args.program.now) c.settings.ensures.nodes)
          (c.in_ok-ret.ensures.analysed.classes ∙ (λ i. classes_noted (c.settings.ensures.classes i || c.settings.ensures.check i) c.args.program.now))
          c.in_ok-ret.ensures.analysed.labels
          (ap (λ (t : Tree). node_count t.root) c.in_ok-ret.ensures.analysed.program);
      ends = refl;
    })
    c.finish_answer-answered.ensures
