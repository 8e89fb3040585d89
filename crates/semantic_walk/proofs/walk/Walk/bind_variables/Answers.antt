use Rattle.std.proofs.Common.{sym, ap, ◌∙◌}
use Rattle.node_rules.specs.Seen.{parent_path}
use Rattle.semantic_walk.proofs.PlaceRows.{none_under}
use Rattle.semantic_walk.proofs.walk.Walk.bind_variables.Goals as goal

pub returns-in-Some-clause-made : goal.returns-in-Some-clause-made
returns-in-Some-clause-made c = λ ds p e within shown some.
    c.bind_variables_of.ensures.made ds p e within shown some (sym (ap parent_path c.in-Some.is) ∙ c.parent.ensures)

pub returns-in-None-clause-made : goal.returns-in-None-clause-made
returns-in-None-clause-made c = λ ds p e within shown some. none_under ds c.args.self.now p within (sym (ap parent_path c.in-None.is) ∙ c.parent.ensures)
