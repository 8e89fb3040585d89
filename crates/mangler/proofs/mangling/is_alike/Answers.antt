use Rattle.std.proofs.Common.{ap, ◌∙◌}
use Rattle.semantic_model.specs.Analysis.{Analysis}
use Rattle.rename_model.specs.Same.{first_difference}
use Rattle.mangle_model.specs.Assignment.{assignment_of}
use Rattle.mangle_model.specs.Mangling.{is_no_node}
use Rattle.mangle_model.specs.Tests.{are_renamed}
use Rattle.std.specs.Prelude.{◌&&◌}
use Rattle.renamer.specs.Told.{told_by}
use Rattle.renamer.proofs.Outcomes.{built}
use Rattle.mangler.proofs.Mangles.{lists_of, alike_by}
use Rattle.mangler.proofs.mangling.is_alike.Goals as goal

pub are_alike-same-requires-clause-one : goal.are_alike-same-requires-clause-one
are_alike-same-requires-clause-one c = lists_of c.args.program.now c.args.analysed.now.scoping.now (ap (λ (a : Analysis). a.tables) c.requires)

pub are_alike-same-requires-clause-other : goal.are_alike-same-requires-clause-other
are_alike-same-requires-clause-other c = lists_of c.args.made.now c.analysed_by.result.scoping.now (c.analysed_by.ensures.scoping ∙ c.in_ok-analysis.ensures.analysed.analysis.tables)

pub returns : goal.returns
returns c = λ passed.
    alike_by (assignment_of c.args.names.now) c.args.program.now c.args.made.now (told_by c.args.analysed.now) (told_by c.analysed_by.result) c.are_alike-same.result c.requires
    (built c.args.made.now c.analysed_by.result c.in_ok-analysis.analysis.semantic.scoping c.in_ok-analysis.analysis.semantic.tables c.in_ok-analysis.analysis.diagnostics
    c.analysed_by.ensures.scoping c.analysed_by.ensures.tables c.in_ok-analysis.ensures.analysed.analysis c.in_ok-analysis.ensures.analysed.nodes)
    (c.are_alike-same.ensures ∙ ap (λ n. are_renamed (assignment_of c.args.names.now) c.args.analysed.now.scoping.now c.analysed_by.result.scoping.now && is_no_node (first_difference (told_by c.args.analysed.now) (told_by c.analysed_by.result) 0 n)) c.node_count.ensures)
    passed
