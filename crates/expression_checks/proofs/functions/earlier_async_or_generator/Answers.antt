use Rattle.std.proofs.Common.{◌∙◌}
use Rattle.check_model.specs.Functions.{is_async_or_generator}
use Rattle.expression_checks.proofs.EarlierFound.{copied_at, earlier_is}
use Rattle.expression_checks.proofs.functions.earlier_async_or_generator.Goals as goal

pub returns-in-Some : goal.returns-in-Some
returns-in-Some c =
    c.copied.ensures
    ∙ copied_at c.in-Some.earlier.now c.args.plain c.get.result c.get.ensures.lookup
    ∙ earlier_is is_async_or_generator c.args.entries.now c.in-Some.earlier.now c.in-Some.field-0-0.now c.args.plain c.in-Some.ensures.cases.0 c.requires
