use Rattle.std.proofs.Common.{Some, None, cond, sym, ap, ◌∙◌}
use Rattle.check_model.specs.Context.{seen_row}
use Rattle.check_model.specs.Super.{allowed_unless_call}
use Rattle.check_model.specs.Surroundings.{nodes_outward}
use Rattle.check_context.specs.Handed.{sight}
use Rattle.expression_checks.specs.Ways.{leaves_value_from, way_left}
use Rattle.expression_checks.proofs.super_search.Searching.class_verdict.Goals as goal

pub returns-then-leaves_value-clause-searching : goal.returns-then-leaves_value-clause-searching
returns-then-leaves_value-clause-searching c =
    record { along = c.leaves_value.ensures.along (nodes_outward (sight c.args.kind.node.now c.args.ctx.now)) c.go_to.ensures.along; kept = c.requires.searching.kept }

pub returns-else-leaves_value-clause-searching : goal.returns-else-leaves_value-clause-searching
returns-else-leaves_value-clause-searching c =
    record { along = c.leaves_value.ensures.along (nodes_outward (sight c.args.kind.node.now c.args.ctx.now)) c.go_to.ensures.along; kept = c.requires.searching.kept }

pub returns-then-leaves_value-clause-verdict : goal.returns-then-leaves_value-clause-verdict
returns-then-leaves_value-clause-verdict c =
    ap (λ leaves. cond leaves (Some allowed_unless_call) None)
    (sym c.if-leaves_value.true
    ∙ c.leaves_value.ensures.value
    ∙ ap (λ class. leaves_value_from class (way_left c.go_to.new.self)) c.get_node_id.ensures
    ∙ ap (leaves_value_from (seen_row c.args.ctx.now.scoping.now c.args.scope).opener) c.go_to.ensures.left)

pub returns-else-leaves_value-clause-verdict : goal.returns-else-leaves_value-clause-verdict
returns-else-leaves_value-clause-verdict c =
    ap (λ leaves. cond leaves (Some allowed_unless_call) None)
    (sym c.if-leaves_value.false
    ∙ c.leaves_value.ensures.value
    ∙ ap (λ class. leaves_value_from class (way_left c.go_to.new.self)) c.get_node_id.ensures
    ∙ ap (leaves_value_from (seen_row c.args.ctx.now.scoping.now c.args.scope).opener) c.go_to.ensures.left)
