use Rattle.std.proofs.Common.{◌++◌, ap, ◌∙◌}
use Rattle.semantic_queries.specs.declared.node_symbols.exports.Export.TheVariants.{Named}
use Rattle.semantic_queries.specs.Given.{given_from}
use Rattle.semantic_queries.proofs.GivenSteps.{named_given}
use Rattle.semantic_queries.proofs.node_symbols.exports.exported_names.Goals as goal

pub returns : goal.returns
returns c =
    c.in_ok-push_all_given.ensures
    ∙ ap (λ names. names ++ given_from Named c.node.result.now) c.new-names.ensures.items
    ∙ ap (given_from Named) (c.node.ensures ∙ c.root.ensures.root)
    ∙ named_given c.args.program.now
