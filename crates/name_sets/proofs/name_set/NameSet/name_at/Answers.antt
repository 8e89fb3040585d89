use Rattle.std.proofs.Common.{◌∙◌, ap}
use Rattle.std.specs.Str.{chars}
use Rattle.name_sets.proofs.NameTexts.{named_at}
use Rattle.name_sets.proofs.name_set.NameSet.name_at.Goals as goal

pub returns : goal.returns
returns c = rw (← c.self.view_is) (ap chars c.as_str.ensures.value ∙ named_at c.self.inside.texts.keys c.args.number c.index.result.now c.index.ensures)
