use Rattle.semantic_syntax.proofs.Truth.{and_first}
use Rattle.semantic_kinds.specs.declared.role.Role.TheVariants as roles
use Rattle.semantic_tree.specs.Sound.{is_sound, shows_sign}
use Rattle.check_context.proofs.GoodChildren.{child_good}
use Rattle.check_context.specs.Leavable.{IsLeavable}
use Rattle.checker.proofs.early_errors.EarlyErrorsRules.check.Goals as goal

pub check-requires : goal.check-requires
check-requires c =
    let h : IsLeavable c.args.kind.node.now c.args.ctx.now = c.requires in
    let node = c.args.kind.node.now in
    let source = c.args.ctx.now.source_text.now in
    record {
      handed = record {
        context = record { path = h.path; scope = h.scope; class = h.class; source = h.limit };
        span = and_first (is_sound source node.span) (shows_sign source node.kind node) h.in_source.span;
      };
      annotated = child_good source roles.Element node.children h.in_source.below;
      elements = h.elements;
    }
