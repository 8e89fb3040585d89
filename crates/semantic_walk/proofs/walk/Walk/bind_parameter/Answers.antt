use Rattle.std.proofs.Common.{sym, ap, ◌∙◌}
use Rattle.node_rules.specs.Seen.{parent_path}
use Rattle.semantic_walk.proofs.PlaceRows.{no_parameter}
use Rattle.semantic_walk.proofs.walk.Walk.bind_parameter.Goals as goal

pub returns-in-Some-clause-made : goal.returns-in-Some-clause-made
returns-in-Some-clause-made c = λ ds p e within shown some.
    c.bind_parameter_of.ensures.made ds p e within shown some (sym (ap parent_path c.in-Some.is) ∙ c.parent.ensures)

pub returns-in-None-clause-made : goal.returns-in-None-clause-made
returns-in-None-clause-made c = λ ds p e within shown some. no_parameter ds c.args.self.now p within (sym (ap parent_path c.in-None.is) ∙ c.parent.ensures)
