use Rattle.std.proofs.Common.{◌∙◌}
use Rattle.name_sets.proofs.NameTexts.{found_text}
use Rattle.name_sets.proofs.name_set.NameSet.has.Goals as goal

pub returns : goal.returns
returns c = rw (← c.self.view_is) (c.contains.ensures ∙ found_text c.self.inside.texts.keys _ c.utf8.name)
