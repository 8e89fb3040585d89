use Rattle.std.proofs.Common.{◌||◌, ◌==◌, sym, ap, ◌∙◌}
use Rattle.semantic_kinds.specs.declared.role.Role.TheVariants as roles
use Rattle.semantic_tree.specs.Views.{is_child_in}
use Rattle.semantic_tree.specs.declared.node.Node.{Node}
use Rattle.check_model.specs.Search.{passes}
use Rattle.check_model.specs.Super.{is_element}
use Rattle.expression_checks.specs.Ways.{way_links}
use Rattle.expression_checks.proofs.BeforeEnd.{before_end}
use Rattle.expression_checks.proofs.way.Way.leaves_value.Goals as goal

pub returns-in-Some-clause-value : goal.returns-in-Some-clause-value
returns-in-Some-clause-value c =
    c.is_value.ensures
    ∙ ap (passes (λ (link : Node × Node). is_child_in roles.Value link.1 link.0 || is_child_in roles.Annotation link.1 link.0))
    (c.in-Some.ensures.link ∙ sym (before_end (λ (link : Node × Node). link.1.node_id == c.args.class) (λ link. is_element link.1.kind) (way_links c.args.self.now)))

pub returns-in-None-clause-value : goal.returns-in-None-clause-value
returns-in-None-clause-value c =
    ap (passes (λ (link : Node × Node). is_child_in roles.Value link.1 link.0 || is_child_in roles.Annotation link.1 link.0))
    (c.in-None.ensures.link ∙ sym (before_end (λ (link : Node × Node). link.1.node_id == c.args.class) (λ link. is_element link.1.kind) (way_links c.args.self.now)))
