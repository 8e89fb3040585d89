use Rattle.std.proofs.Common.{reverse, sym, ap, ◌∙◌}
use Rattle.semantic_walk.specs.Paths.{Way, ends_with_list, lists_simple}
use Rattle.semantic_walk.proofs.Turning.{forgotten}
use Rattle.semantic_walk.proofs.path.Path.pop.Goals as goal

pub invariant_of-self : goal.invariant_of-self
invariant_of-self c = record {
  simple = c.forget_list.ensures
      ∙ forgotten c.self.inside.simple.items c.self.inside.stack c.is_at_list-leaves_list.result c.self.invariant.simple (c.is_at_list-leaves_list.ensures ∙ sym (ap (λ (w : Way). ends_with_list w.nodes) c.self.view_is))
      ∙ ap (λ path. lists_simple (reverse path)) (sym c.pop.ensures);
  stands = c.leave_kept.ensures.stands;
}
