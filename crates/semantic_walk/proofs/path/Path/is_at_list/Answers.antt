use Rattle.std.proofs.Common.{option_map, sym, ap, ◌∙◌}
use Rattle.semantic_tree.specs.ChildIter.{shown}
use Rattle.semantic_walk.specs.Paths.{Way, ends_with_list}
use Rattle.semantic_walk.proofs.Turning.{is_list, ends_by}
use Rattle.semantic_walk.proofs.path.Path.is_at_list.Goals as goal

pub returns-in-Some : goal.returns-in-Some
returns-in-Some c =
    c.is_list.ensures ∙ ap is_list (sym (ap (option_map shown) c.in-Some.is) ∙ c.current.ensures)
    ∙ sym (ends_by c.self.inside.stack) ∙ ap (λ (w : Way). ends_with_list w.nodes) c.self.view_is
