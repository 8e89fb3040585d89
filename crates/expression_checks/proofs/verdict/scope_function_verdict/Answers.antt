use Rattle.std.proofs.Common.{Option, ap, ◌∙◌}
use Rattle.std.specs.Option.{option_map, unwrap_or}
use Rattle.semantic_tree.specs.declared.node.Node.{Node}
use Rattle.check_model.specs.Super.{refused, function_verdict}
use Rattle.check_context.specs.Handed.{around}
use Rattle.expression_checks.proofs.verdict.scope_function_verdict.Goals as goal

pub returns-in-Some : goal.returns-in-Some
returns-in-Some c = c.function_verdict.ensures ∙ ap (λ (found : Option (Node × Node)). unwrap_or (option_map (function_verdict (around c.args.ctx.now)) found) refused) c.in-Some.ensures

pub returns-in-None : goal.returns-in-None
returns-in-None c = ap (λ (found : Option (Node × Node)). unwrap_or (option_map (function_verdict (around c.args.ctx.now)) found) refused) c.in-None.ensures
