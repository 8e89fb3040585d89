use Rattle.std.proofs.Common.{ap, ◌∙◌}
use Rattle.semantic_walk.specs.Paths.{Way, parent_in}
use Rattle.semantic_walk.proofs.Turning.{parent_is}
use Rattle.semantic_walk.proofs.path.Path.parent.Goals as goal

pub returns : goal.returns
returns c = parent_is c.parent.result c.self.inside.stack c.parent.ensures ∙ ap (λ (w : Way). parent_in w.nodes) c.self.view_is
